-- Demand 1 of the user, of refused calls, in his words:
--
--   "A refused call changes neither the schedule nor any lent row."
--
-- This file says it, as `Promised` at its end; Refused.antt has `demand_1`, which proves it.
use Rattle.std.specs.Prelude.{◌≡◌, List, ℕ}
use Rattle.rules.specs.Threads.{State}
use Rattle.rules.specs.Run.{ran}
use Rattle.rules.specs.Calls.{Call, run, apply, refusal_of}

-- "neither the schedule": a call in the state s that was refused with the number n, 0 for none, gave the state z
abbrev pub Kept : State → ℕ → State → Type 0
Kept s n z = (n ≡ 0 → ⊥) → z ≡ s

-- "nor any lent row": it was lent, and came back as `row`
abbrev pub RowKept : List ℕ → ℕ → List ℕ → Type 0
RowKept lent n row = (n ≡ 0 → ⊥) → row ≡ lent

pub record Demand1 (s : State) : Type 0 where
  pub schedule : (c : Call) → Kept s (refusal_of s c) (apply s c)
  pub row : (to : ℕ) (row : List ℕ) → RowKept row (refusal_of s (run to row)) (ran s to row).row

-- in every state, whatever the call
abbrev pub Promised : Type 0
Promised = (s : State) → Demand1 s
