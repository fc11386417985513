use Rattle.std.proofs.Common.{sym, ap, ◌∙◌}
use Rattle.std.proofs.lemmas.Bool.{eqb-false}
use Rattle.rules.specs.Step.{stepped}
use Rattle.promises.specs.Always.{given_good}
use Rattle.promises.specs.Taken.{By, step_by, had_max}
use Rattle.schedule.proofs.step.step.Goals as goal

pub returns-then-eq : goal.returns-then-eq
unfolding stepped
returns-then-eq c = rw (sym c.eq.ensures ∙ c.if-eq.true)

pub outcome_to-requires : goal.outcome_to-requires
outcome_to-requires c = rw c.tick.ensures (had_max (given_good c.requires) (eqb-false _ _ (sym c.eq.ensures ∙ c.if-eq.false)))

pub returns : goal.returns
returns c = rw c.outcome_to.ensures (ap By c.tick.ensures ∙ sym (step_by c.args.s (eqb-false _ _ (sym c.eq.ensures ∙ c.if-eq.false))))
