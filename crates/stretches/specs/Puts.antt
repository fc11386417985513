-- One thread of a table in another's place: it stays active or inactive, becomes inactive and loses or gives what it frees, or
-- becomes active.
use Rattle.std.specs.Prelude.{◌≡◌, refl, true, false, List, ℕ, ◌+◌, ◌*◌, ◌<◌, pos, length, set}
use Rattle.std.proofs.Common.{sym, ap, ◌∙◌, subst, arith, length-set}
use Rattle.integers.specs.Parts.{up, dn, sub_parts}
use Rattle.lists.specs.Sum.{sum_store}
use Rattle.lists.specs.Take.{at_put}
use Rattle.rules.specs.Threads.{Thread, blank, at, active, active_in, loses}
use Rattle.rules.specs.Table.{Table}
use Rattle.rules.specs.Stretches.{app_of}
use Rattle.stretches.specs.Item8.{one}
use Rattle.stretches.specs.Standing.{ups, downs, Tied, Low}
use Rattle.stretches.specs.Figures.{adds_one, adds_none, own_active, rests_in, other_in, Shifts, shifts}
use Rattle.stretches.specs.Changes.{Same, Rises, Falls}

-- threads of the same applications and shares are tied to the same table
pub tied_like : {t : Table} {q m : ℕ} {xs ys : List Thread} → Tied t q m xs → length ys ≡ length xs
    → ((i : ℕ) → i < m → ((at ys i).app ≡ (at xs i).app) × ((at ys i).share ≡ (at xs i).share)) → Tied t q m ys
tied_like k l f = record {
  q_same = k.q_same;
  count_same = k.count_same;
  few = k.few;
  long = l ∙ k.long;
  app_same = λ i h. (f i h).0 ∙ k.app_same i h;
  share_same = λ i h. (f i h).1 ∙ k.share_same i h;
  app_max = k.app_max;
  share_max = k.share_max;
}

-- what loses some of its W is no higher
pub low_loses : (q now r : ℕ) (x : Thread) → Low q now x → Low q now (loses (pos r) x)
low_loses q now r x l = let d = sub_parts x.w.0 (pos r) in omega (arith, l, d.up_le)

module _ {t : Table} {q m : ℕ} {xs : List Thread} (k : Tied t q m xs) (i : ℕ) (inside : i < m) where
  pub among : i < length xs
  among = omega (arith, k.few, k.long)

  module _ (v : Thread) (app-is : v.app ≡ (at xs i).app) (share_is : v.share ≡ (at xs i).share) where
    pub tied_put : Tied t q m (set xs i v)
    tied_put = tied_like k (length-set xs i v) (λ j h. at_put (λ _ y. (y.app ≡ (at xs j).app) × (y.share ≡ (at xs j).share)) xs i j v blank (omega (arith, k.few, k.long))
        (λ e. subst (λ n. (v.app ≡ (at xs n).app) × (v.share ≡ (at xs n).share)) e (app-is, share_is)) (refl, refl))

    -- it is as active as it was, and has the same W
    pub put_same : (a now : ℕ) → active v ≡ active (at xs i) → v.w ≡ (at xs i).w → Same a now m xs (set xs i v)
    unfolding ups downs
    put_same a now p w =
        let o = sum_store (one a) m xs i v blank (rw (p, app-is) refl) in
        let u = sum_store (ups a) m xs i v blank (rw (p, app-is, w) refl) in
        let d = sum_store (downs a now) m xs i v blank (rw (p, app-is, w, share_is) refl) in
        record { ones = o; amounts = omega (arith, u, d) }

    -- whatever it does, no other application sees it
    pub put_other : (a now : ℕ) → (app_of t i ≡ a → ⊥) → Same a now m xs (set xs i v)
    put_other a now f =
        let old = adds_none now (at xs i) (other_in a (at xs i) (λ e. f (sym (k.app_same i inside) ∙ e))) in
        let new = adds_none now v (other_in a v (λ e. f (sym (k.app_same i inside) ∙ sym app-is ∙ e))) in
        let s = shifts m xs i v inside among old new in
        record { ones = omega (arith, s.ones); amounts = omega (arith, s.above, s.below) }

    -- it becomes inactive and frees f
    pub put_rests : (now f : ℕ) → active (at xs i) ≡ true → active v ≡ false → up (at xs i).w.0 + f ≡ (at xs i).share * now + dn (at xs i).w.0
        → Falls (app_of t i) now m xs (set xs i v) f
    put_rests now f p r e =
        let s = shifts m xs i v inside among (adds_one now (at xs i) (own_active (app_of t i) (at xs i) p (k.app_same i inside))) (adds_none now v (rests_in (app_of t i) v r)) in
        record { ones = omega (arith, s.ones); amounts = omega (arith, s.above, s.below) }

    -- it becomes active, with W = u × t
    pub put_wakes : (now : ℕ) → active (at xs i) ≡ false → active v ≡ true → v.w.0 ≡ pos (v.share * now) → Rises (app_of t i) now m xs (set xs i v)
    put_wakes now r p e =
        let s = shifts m xs i v inside among (adds_none now (at xs i) (rests_in (app_of t i) (at xs i) r)) (adds_one now v (own_active (app_of t i) v p (app-is ∙ k.app_same i inside))) in
        record { ones = omega (arith, s.ones); amounts = omega (arith, s.above, s.below, ap up e, ap dn e) }

  -- a thread loses r of its W
  pub lose_shifts : (a now r : ℕ) → active_in a (at xs i) ≡ true
      → Shifts a now m xs (set xs i (loses (pos r) (at xs i))) 1 (up (at xs i).w.0) (dn (at xs i).w.0 + (at xs i).share * now) 1 (up (loses (pos r) (at xs i)).w.0) (dn (loses (pos r) (at xs i)).w.0 + (at xs i).share * now)
  lose_shifts a now r p = shifts m xs i (loses (pos r) (at xs i)) inside among (adds_one now (at xs i) p) (adds_one now (loses (pos r) (at xs i)) p)
