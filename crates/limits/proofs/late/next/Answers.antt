use Rattle.rules.specs.Calls as calls
use Rattle.promises.specs.Always.{given_by}
use Rattle.limits.proofs.late.next.Goals as goal

pub returns : goal.returns
returns g c = rw c.next-z.ensures (given_by c.requires calls.step)
