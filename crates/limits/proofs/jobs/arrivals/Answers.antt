use Rattle.rules.specs.Calls as calls
use Rattle.promises.specs.Always.{given_by}
use Rattle.limits.proofs.Stays.{stays}
use Rattle.limits.proofs.jobs.arrivals.Goals as goal

pub loop-preserved : goal.loop-preserved
loop-preserved g c = rw c.unwrap_or-s.ensures (stays c.loop.s c.arrive.result c.arrive.ensures (given_by c.loop.invariant (calls.arrive 0)))
