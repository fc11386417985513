use Rattle.std.proofs.Common.{◌≡◌, ◌++◌, map, take, drop}
use Rattle.capi.specs.Crossing.{outside}
use Rattle.capi.proofs.OutStateFromRefState.from.Given as goal

-- the first i threads stand in their places
abbrev pub invariant-loop-i : goal.invariant-loop-i
invariant-loop-i l = l.threads ≡ map outside (take l.i l.s.threads) ++ drop l.i l.initial.threads
