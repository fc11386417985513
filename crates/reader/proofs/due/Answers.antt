use Rattle.std.proofs.Common.{refl, sym, ap, ◌∙◌, true, false, ◌-◌}
use Rattle.rules.specs.Records.{Moment}
use Rattle.rules.specs.Refusals.{answer_of}
use Rattle.promises.specs.Always.{given_good}
use Rattle.windows.specs.Readings.{given_reading}
use Rattle.reader.specs.Parts.{ahead, due_is, ticks_at}
use Rattle.reader.proofs.due.Goals as goal

pub returns-then-not-all_rows : goal.returns-then-not-all_rows
returns-then-not-all_rows c = due_is c.args.r c.args.e false _ (sym c.all_rows.ensures ∙ c.if-not-all_rows.true) refl

pub overflow_sub-result : goal.overflow_sub-result
overflow_sub-result c =
    let s = c.args in
    rw c.moment_of.ensures (ahead s.r.state s.e (given_good (given_reading c.requires).given).time (sym c.before_ticks.ensures ∙ ap answer_of c.in-Ok.is)).0

pub returns-in-Ok : goal.returns-in-Ok
returns-in-Ok c =
    let s = c.args in
    ap (λ (m : Moment). m.0 - s.r.state.clock.0) c.moment_of.ensures
    ∙ ticks_at s.r.state s.e
    ∙ due_is s.r s.e true _ (sym c.all_rows.ensures ∙ c.if-not-all_rows.false) (sym c.before_ticks.ensures ∙ ap answer_of c.in-Ok.is)

pub returns-in-Err : goal.returns-in-Err
returns-in-Err c = due_is c.args.r c.args.e true _ (sym c.all_rows.ensures ∙ c.if-not-all_rows.false) (sym c.before_ticks.ensures ∙ ap answer_of c.in-Err.is)
