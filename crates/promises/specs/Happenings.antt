-- What becomes active or inactive in a history: a fact of every such happening is a fact of each of these parts.
use Rattle.std.specs.Prelude.{List, ltb, ℤ}
use Prim.Native.Nat.{ℕ, zero, suc}
use Rattle.std.specs.Int.Signed.{lt_z}
use Rattle.lists.specs.All.{All, none, more, all_append}
use Rattle.rules.specs.Threads.{Thread, State, at, scaled, is_inactive}
use Rattle.rules.specs.History.{Fate, Happening, became_active, became_inactive, leaves, leaving, leaving_to, leavings, waking, retiring}
use Rattle.promises.specs.Cases.{by_test}

module _ (P : Happening → Type 0) where
  module _ (p : (i t : ℕ) (z : ℤ) (f : Fate) → P (became_inactive i t z f)) where
    leaving_all : (t i : ℕ) (x : Thread) → All P (leaving t i x)
    leaving_all t i x = by_test (All P) (leaves t x) (λ _. more (p _ _ _ _) none) (λ _. none)

    leaving_to_all : (t : ℕ) (xs : List Thread) (n : ℕ) → All P (leaving_to t xs n)
    unfolding leaving_to
    leaving_to_all t xs zero = none
    leaving_to_all t xs (suc i) = all_append (leaving_to_all t xs i) (leaving_all t i (at xs i))

    pub leavings_all : (s : State) → All P (leavings s)
    unfolding leavings
    leavings_all s = by_test (All P) s.closed (λ _. none) (λ _. leaving_to_all s.clock.0 s.threads s.count)

    pub retiring_all : (s : State) (i : ℕ) → All P (retiring s i)
    unfolding retiring
    retiring_all s i =
        by_test (All P) (ltb 1 (at s.threads i).jobs) (λ _. none)
        (λ _. by_test (All P) (lt_z (scaled (at s.threads i) s.clock.0) (at s.threads i).w.0) (λ _. none) (λ _. more (p _ _ _ _) none))

  pub waking_all : ((i t : ℕ) → P (became_active i t)) → (s : State) (i : ℕ) → All P (waking s i)
  unfolding waking
  waking_all p s i = by_test (All P) (is_inactive (at s.threads i).phase) (λ _. more (p _ _) none) (λ _. none)
