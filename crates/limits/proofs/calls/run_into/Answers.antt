use Rattle.rules.specs.Calls as calls
use Rattle.promises.specs.Always.{given_by}
use Rattle.limits.proofs.Stays.{stays}
use Rattle.limits.proofs.calls.run_into.Goals as goal

pub returns : goal.returns
returns g c = rw c.unwrap_or-z.ensures (stays c.args.s c.run-r.result c.run-r.ensures.0 (given_by c.requires (calls.run _ _)))
