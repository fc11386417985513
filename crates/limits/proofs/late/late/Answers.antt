use Rattle.std.proofs.Common.{refl}
use Rattle.rules.specs.Limits.{usual_period}
use Rattle.promises.specs.Idle.{given_late}
use Rattle.limits.proofs.late.late.Goals as goal

pub returns : goal.returns
returns c = (rw c.schedule_of.ensures (given_late usual_period _ _ c.requires), refl)
