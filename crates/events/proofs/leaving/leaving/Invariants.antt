use Rattle.rules.specs.Leaving.{leave}
use Rattle.promises.specs.Tables.{Changed}
use Rattle.events.proofs.leaving.leaving.Given as goal

-- the first i threads have left, and nothing else has changed
abbrev pub invariant-loop-i : goal.invariant-loop-i
invariant-loop-i l = Changed (leave l.s.clock.0) l.initial.s l.i l.s
