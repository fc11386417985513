use Rattle.std.proofs.Common.{◌≡◌}
use Rattle.lists.specs.MapTo.{map_to}
use Rattle.rules.specs.Stretches.{forgets}
use Rattle.accounts.proofs.activity.forget_all.Given as goal

-- the applications so far are forgotten
abbrev pub invariant-loop-c : goal.invariant-loop-c
invariant-loop-c l = l.cs ≡ map_to l.c-index forgets l.initial.cs
