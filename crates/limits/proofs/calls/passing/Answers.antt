use Rattle.promises.specs.Always.{given_passed}
use Rattle.limits.proofs.Stays.{stays}
use Rattle.limits.proofs.calls.passing.Goals as goal

pub returns : goal.returns
returns g c = rw c.unwrap_or-z.ensures (stays c.args.s c.pass-r.result c.pass-r.ensures (given_passed c.requires _))
