-- A stretch lasts at least one tick, as long as those that hold at a moment with completions or leaving began before it.
use Rattle.std.specs.Prelude.{◌≡◌, refl, eqb, ltb, length, set}
use Rattle.std.proofs.Common.{sym, subst, arith, get_or-set_same, get_or-set_other}
use mathlib.Core.List.{List, [], ◌∷◌}
use Prim.Native.Nat.{ℕ, zero, suc, ◌≤◌, ◌<◌}
use Rattle.std.proofs.Math.Decide.{ℕ_discrete}
use Rattle.std.proofs.lemmas.Bool.{eqb-false}
use Rattle.std.specs.Int.Signed.{lt_z}
use Rattle.lists.specs.All.{All, none, more, all_append}
use Rattle.rules.specs.Threads.{Thread, State, at, scaled}
use Rattle.rules.specs.History.{Happening, completed, arrived, dropped_to_head, granted, idle_tick, became_active, became_inactive, leaves, leaving, leaving_to, retiring}
use Rattle.rules.specs.Stretches.{Activity, quiet, activity_at, rests, noted, activities, Over, cut_to, ends, stretches, lost_as}
use Rattle.promises.specs.Cases.{by_test}
use Rattle.stretches.specs.Goes.{Suits, Suited, still, next}
use Rattle.stretches.specs.Counted.{noted_length}

-- it was over later than it began
abbrev pub Long : Over → Type 0
Long o = o.stretch.since.0 < o.until

-- every stretch that holds began before the moment now
abbrev pub Past : ℕ → List Activity → Type 0
Past now cs = (a : ℕ) → a < length cs → 0 < (activity_at cs a).active → (activity_at cs a).stretch.since.0 < now

-- ---- a thread becomes inactive at the moment now, or completes
abbrev pub Resting : ℕ → Happening → Type 0
Resting now (completed i t) = Unit {0}
Resting now (arrived i t) = ⊥
Resting now (dropped_to_head i t) = ⊥
Resting now (granted i t e) = ⊥
Resting now (idle_tick t) = ⊥
Resting now (became_active i t) = ⊥
Resting now (became_inactive i t z f) = t ≡ now

leaving_rests : (now i : ℕ) (x : Thread) → All (Resting now) (leaving now i x)
leaving_rests now i x = by_test (All (Resting now)) (leaves now x) (λ _. more refl none) (λ _. none)

pub leaving_to_rests : (now : ℕ) (xs : List Thread) (n : ℕ) → All (Resting now) (leaving_to now xs n)
unfolding leaving_to
leaving_to_rests now xs zero = none
leaving_to_rests now xs (suc i) = all_append (leaving_to_rests now xs i) (leaving_rests now i (at xs i))

pub retiring_rests : (s : State) (i : ℕ) → All (Resting s.clock.0) (retiring s i)
unfolding retiring
retiring_rests s i =
    by_test (All (Resting s.clock.0)) (ltb 1 (at s.threads i).jobs) (λ _. none)
    (λ _. by_test (All (Resting s.clock.0)) (lt_z (scaled (at s.threads i) s.clock.0) (at s.threads i).w.0) (λ _. none) (λ _. more refl none))

-- ---- .. and its stretch, if it is over, has lasted
module _ (app : ℕ → ℕ) (now : ℕ) where
  past_one : (cs : List Activity) (h : Happening) → Resting now h → Suits app cs h → Past now cs → Past now (noted app cs h) × All Long (ends app cs h)
  unfolding noted ends rests
  past_one cs (completed i t) r s p = (p, none)
  past_one cs (arrived i t) r s p = absurd r
  past_one cs (dropped_to_head i t) r s p = absurd r
  past_one cs (granted i t e) r s p = absurd r
  past_one cs (idle_tick t) r s p = absurd r
  past_one cs (became_active i t) r s p = absurd r
  past_one cs (became_inactive i t z f) r s p = (rest, by_test (All Long) (eqb v.active 0) (λ _. more (omega (arith, r, began)) none) (λ _. none))
    where
      b : ℕ
      b = app i

      v : Activity
      v = rests (lost_as f z) (activity_at cs b)

      began : v.stretch.since.0 < now
      began = p b s.0 s.1

      rest : Past now (set cs b v)
      rest a l = go (ℕ_discrete b a)
        where
          go : Dec (b ≡ a) → 0 < (activity_at (set cs b v) a).active → (activity_at (set cs b v) a).stretch.since.0 < now
          go (yes e) = λ _. subst (λ d. (activity_at (set cs b v) d).stretch.since.0 < now) e (rw (get_or-set_same cs b v quiet s.0) began)
          go (no k) = rw (get_or-set_other cs b a v quiet (λ e. k (sym e))) (p a (omega (arith, noted_length app cs (became_inactive i t z f))))

  pub past_all : (cs : List Activity) (hs : List Happening) → All (Resting now) hs → Suited app cs hs → Past now cs → Past now (activities app cs hs) × All Long (stretches app cs hs)
  unfolding activities stretches
  past_all cs [] none still p = (p, none)
  past_all cs (h ∷ hs) (more r rs) (next s ss) p =
      let o = past_one cs h r s p in
      let k = past_all (noted app cs h) hs rs ss o.0 in
      (k.0, all_append o.1 k.1)

-- what an idle tick ends
pub cut_long : (now : ℕ) (cs : List Activity) → Past now cs → (n : ℕ) → n ≤ length cs → All Long (cut_to now cs n)
unfolding cut_to
cut_long now cs p zero l = none
cut_long now cs p (suc a) l = all_append (cut_long now cs p a (omega arith))
    (by_test (All Long) (eqb (activity_at cs a).active 0) (λ _. none) (λ e. let f = eqb-false (activity_at cs a).active 0 e in more (p a (omega arith) (omega arith)) none))
