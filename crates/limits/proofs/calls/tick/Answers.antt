use Rattle.rules.specs.Calls as calls
use Rattle.promises.specs.Always.{given_by}
use Rattle.limits.proofs.calls.tick.Goals as goal

pub returns : goal.returns
returns g c = rw c.step-r.ensures (given_by c.requires calls.step)
