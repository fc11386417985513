use Rattle.rules.specs.Calls.{Given}
use Rattle.limits.proofs.jobs.arrivals.Given as goal

abbrev pub invariant-loop : goal.invariant-loop
invariant-loop g l = Given l.s
