-- Leaving, thread by thread: "Each non-contending thread with W ≤ u × t becomes inactive.", and u × t − W is lost.
use Rattle.std.specs.Prelude.{◌≡◌, Bool, cond, ◌&&◌, length, set}
use Rattle.std.proofs.Math.Path.{refl}
use Rattle.std.proofs.Common.{sym, ap, ◌∙◌, subst, add-one, arith}
use Rattle.std.proofs.Math.Bool.{true, false, not}
use mathlib.Core.List.{List, [], ◌∷◌}
use Prim.Native.Nat.{ℕ, zero, suc, ◌≤◌, ◌<◌}
use Rattle.std.specs.Int.Signed.{lt_z}
use Rattle.lists.specs.MapTo.{map_to, map_at, map_more}
use Rattle.lists.specs.All.{all_at, all_set}
use Rattle.rules.specs.Threads.{Thread, State, Phase, Inactive, Contending, NonContending, with_rows, blank, at, scaled, idle, is_inactive, is_non}
use Rattle.rules.specs.Table.{Table}
use Rattle.rules.specs.Leaving.{leave, gone}
use Rattle.rules.specs.Completion.{freed}
use Rattle.rules.specs.History.{Happening, left, became_inactive, leaving, leaving_to, leavings}
use Rattle.rules.specs.Stretches.{Activity, activities, app_of}
use Rattle.promises.specs.Cases.{true_false}
use Rattle.promises.specs.Events.{freed_nat}
use Rattle.stretches.specs.Standing.{Low, Held, Kept}
use Rattle.stretches.specs.Goes.{Goes, goes_nowhere, goes_on_lem}
use Rattle.stretches.specs.Changes.{held_same, goes_rests}
use Rattle.stretches.specs.Puts.{among, tied_put, put_same, put_other, put_rests}

-- who is non-contending is active
non_active : (p : Phase) → is_non p ≡ true → not (is_inactive p) ≡ true
non_active Inactive e = absurd (true_false (sym e))
non_active Contending e = refl
non_active NonContending e = refl

-- thread i leaves, or stays
module _ {t : Table} {q m now : ℕ} {xs : List Thread} {cs : List Activity} (h : Held t q m now xs cs) (i : ℕ) (inside : i < m) where
  abbrev x : Thread
  x = at xs i

  x_low : Low q now x
  x_low = all_at m xs i blank h.low inside (among h.tied i inside)

  one_stays : Goes t q m now (set xs i x) cs []
  one_stays = goes_nowhere (held_same h (tied_put h.tied i inside x refl refl) (all_set m xs i x h.low x_low) (λ a. put_same h.tied i inside x refl refl a now refl refl))

  one_leaves : is_non x.phase ≡ true → lt_z (scaled x now) x.w.0 ≡ false → Goes t q m now (set xs i (idle x)) cs (became_inactive i now (freed now x) left ∷ [])
  one_leaves n e =
      let f = freed_nat now x e in
      goes_rests h (tied_put h.tied i inside (idle x) refl refl) (all_set m xs i (idle x) h.low (omega arith)) i inside
      (λ a. put_other h.tied i inside (idle x) refl refl a now)
      f.0 (put_rests h.tied i inside (idle x) refl refl now f.0 (non_active x.phase n) refl f.2) (freed now x) left f.1

  pub goes_leaving : Goes t q m now (set xs i (leave now x)) cs (leaving now i x)
  unfolding leave
  goes_leaving = go (is_non x.phase) (lt_z (scaled x now) x.w.0) refl refl
    where
      go : (b c : Bool) → is_non x.phase ≡ b → lt_z (scaled x now) x.w.0 ≡ c
          → Goes t q m now (set xs i (cond b (cond c x (idle x)) x)) cs (cond (b && not c) (became_inactive i now (freed now x) left ∷ []) [])
      go true true n e = one_stays
      go true false n e = one_leaves n e
      go false c n e = one_stays

-- the first i threads
module _ {t : Table} {q m now : ℕ} {xs : List Thread} {cs : List Activity} (h : Held t q m now xs cs) where
  next_is : (i : ℕ) → i < length xs → set (map_to i (leave now) xs) i (leave now (at xs i)) ≡ map_to (suc i) (leave now) xs
  next_is i l = map_more (leave now) xs i blank l ∙ ap (λ n. map_to n (leave now) xs) (add-one i)

  same_at : (i : ℕ) → at (map_to i (leave now) xs) i ≡ at xs i
  same_at i = map_at i (leave now) xs i blank (omega arith)

  pub goes_leaving_to : (i : ℕ) → i ≤ m → Goes t q m now (map_to i (leave now) xs) cs (leaving_to now xs i)
  unfolding map_to leaving_to
  goes_leaving_to zero l = goes_nowhere h
  goes_leaving_to (suc i) l =
      let g = goes_leaving_to i (omega arith) in
      goes_on_lem g (subst (λ (ys : List Thread). Goes t q m now ys (activities (app_of t) cs (leaving_to now xs i)) (leaving now i (at xs i))) (next_is i (omega (arith, h.tied.few, h.tied.long)))
      (subst (λ (y : Thread). Goes t q m now (set (map_to i (leave now) xs) i (leave now y)) (activities (app_of t) cs (leaving_to now xs i)) (leaving now i y)) (same_at i) (goes_leaving g.held i (omega arith))))

-- ---- of a state
abbrev pub GoesTo : Table → State → List Activity → List Happening → Type 0
GoesTo t s cs hs = Goes t s.q s.count s.clock.0 s.threads cs hs

pub goes_gone : {t : Table} (s : State) {cs : List Activity} → Kept t s cs → GoesTo t (gone s) cs (leavings s)
unfolding gone leavings
goes_gone {t} s {cs} k = go s.closed
  where
    go : (b : Bool) → GoesTo t (cond b s (with_rows s (map_to s.count (leave s.clock.0) s.threads))) cs (cond b [] (leaving_to s.clock.0 s.threads s.count))
    go true = goes_nowhere k
    go false = goes_leaving_to k s.count (omega arith)
