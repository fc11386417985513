use Rattle.std.proofs.Common.{sym, ◌∙◌, eq-eqb}
use Rattle.promises.specs.Remainders.{parts_sooner}
use Rattle.threads.proofs.receiving.can_take.Goals as goal

pub returns-then-y-x : goal.returns-then-y-x
returns-then-y-x c =
    rw (
      sym c.is_active.ensures ∙ c.if-y-x.true.0,
      eq-eqb _ _ c.if-y-x.true.1,
      c.earlier.ensures,
      parts_sooner c.requires.1 c.requires.0 c.deadline.ensures c.deadline-then-y-x.ensures,
    )
