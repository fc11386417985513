use Rattle.rules.specs.Limits.{usual_period}
use Rattle.promises.specs.Always.{given_opening}
use Rattle.limits.proofs.calls.begun.Goals as goal

pub returns : goal.returns
returns g c = rw c.schedule_of.ensures (given_opening usual_period _)
