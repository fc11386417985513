use Rattle.calls.specs.Parts.{left_of}
use Rattle.calls.specs.Acts.{Stage}
use Rattle.calls.proofs.advance.Given as goal

-- the parts of the call so far
abbrev pub invariant-loop : goal.invariant-loop
invariant-loop g l = Stage g.T.Told l.last l.w l.initial.out l.initial.turn.progress l.out l.turn

abbrev pub decreases-loop : goal.decreases-loop
decreases-loop g l = left_of l.w l.initial.out l.turn
