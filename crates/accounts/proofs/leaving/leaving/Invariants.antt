use Rattle.accounts.specs.Rest.{Left}
use Rattle.accounts.proofs.leaving.leaving.Given as goal

-- the first i threads have left
abbrev pub invariant-loop-i : goal.invariant-loop-i
invariant-loop-i l = Left l.t l.initial.cs l.s l.i l.initial.out l.from l.out l.used l.cs
