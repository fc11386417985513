use Rattle.std.proofs.Common.{Bool, true, false, not, ◌≡◌, refl, sym, ◌∙◌}
use Rattle.rules.specs.Step.{stepped}
use Rattle.schedule.proofs.step.lead_on.Goals as goal

-- what is not unequal is equal
same : (b : Bool) → not b ≡ false → b ≡ true
same true e = refl
same false e = sym e

pub returns-else-ne : goal.returns-else-ne
unfolding stepped
returns-else-ne c = rw (same _ (sym c.ne.ensures ∙ c.if-ne.false)) refl
