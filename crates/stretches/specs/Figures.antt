-- What a thread adds to the figures of an application, and what one thread in another's place does to them.
use Rattle.std.specs.Prelude.{◌≡◌, refl, Bool, true, false, ◌&&◌, List, [], ◌∷◌, ℕ, zero, suc, ◌+◌, ◌*◌, ◌≤◌, ◌<◌, length, take, set}
use Rattle.std.proofs.Math.Path.{ap}
use Rattle.std.proofs.Common.{◌∙◌, arith, eq-eqb, ne_eqb}
use Rattle.std.proofs.Math.Bool.{cond}
use Rattle.integers.specs.Parts.{up, dn}
use Rattle.lists.specs.Sum.{sum_by}
use Rattle.lists.specs.Take.{sum_put}
use Rattle.lists.specs.All.{All, more}
use Rattle.rules.specs.Threads.{Thread, blank, at, active, active_in}
use Rattle.promises.specs.Cases.{by_test, and_false}
use Rattle.stretches.specs.Item8.{one}
use Rattle.stretches.specs.Standing.{ups, downs, Low}

-- x adds n to the active threads of the application a at the moment t, and u − d to what these are ahead of the clock
pub record Adds (a t : ℕ) (x : Thread) (n u d : ℕ) : Type 0 where
  pub ones : one a x ≡ n
  pub above : ups a x ≡ u
  pub below : downs a t x ≡ d

module _ {a : ℕ} (t : ℕ) (x : Thread) where
  adds : (b : Bool) → active_in a x ≡ b → Adds a t x (cond b 1 0) (cond b (up x.w.0) 0) (cond b (dn x.w.0 + x.share * t) 0)
  unfolding ups downs
  adds b e = record {
    ones = ap (λ b. cond b 1 0) e;
    above = ap (λ b. cond b (up x.w.0) 0) e;
    below = ap (λ b. cond b (dn x.w.0 + x.share * t) 0) e;
  }

  pub adds_one : active_in a x ≡ true → Adds a t x 1 (up x.w.0) (dn x.w.0 + x.share * t)
  adds_one = adds true

  pub adds_none : active_in a x ≡ false → Adds a t x 0 0 0
  adds_none = adds false

-- ---- whose thread it is
module _ (a : ℕ) (x : Thread) where
  pub own_active : active x ≡ true → x.app ≡ a → active_in a x ≡ true
  own_active k e = rw (k, eq-eqb x.app a e)

  pub rests_in : active x ≡ false → active_in a x ≡ false
  rests_in k = rw k

  pub other_in : (x.app ≡ a → ⊥) → active_in a x ≡ false
  other_in f = ap (λ b. active x && b) (ne_eqb x.app a f) ∙ and_false (active x)

-- ---- one thread in another's place
pub record Shifts (a t m : ℕ) (xs ys : List Thread) (n u d n' u' d' : ℕ) : Type 0 where
  pub ones : sum_by (one a) (take m ys) + n ≡ sum_by (one a) (take m xs) + n'
  pub above : sum_by (ups a) (take m ys) + u ≡ sum_by (ups a) (take m xs) + u'
  pub below : sum_by (downs a t) (take m ys) + d ≡ sum_by (downs a t) (take m xs) + d'

pub shifts : {a t n u d n' u' d' : ℕ} (m : ℕ) (xs : List Thread) (i : ℕ) (v : Thread) → i < m → i < length xs → Adds a t (at xs i) n u d → Adds a t v n' u' d'
    → Shifts a t m xs (set xs i v) n u d n' u' d'
shifts {a} {t} m xs i v h k old new = record {
  ones = omega (arith, sum_put (one a) m xs i v blank h k, old.ones, new.ones);
  above = omega (arith, sum_put (ups a) m xs i v blank h k, old.above, new.above);
  below = omega (arith, sum_put (downs a t) m xs i v blank h k, old.below, new.below);
}

-- ---- the figures of all threads
-- where none is active there is nothing to add up
pub none_active : (a t : ℕ) (xs : List Thread) → sum_by (one a) xs ≡ 0 → (sum_by (ups a) xs ≡ 0) × (sum_by (downs a t) xs ≡ 0)
unfolding sum_by
none_active a t [] e = (refl, refl)
none_active a t (x ∷ xs) e = go (active_in a x) refl (none_active a t xs)
  where
    go : (b : Bool) → active_in a x ≡ b → (sum_by (one a) xs ≡ 0 → (sum_by (ups a) xs ≡ 0) × (sum_by (downs a t) xs ≡ 0))
        → (ups a x + sum_by (ups a) xs ≡ 0) × (downs a t x + sum_by (downs a t) xs ≡ 0)
    go true k rec = let z : ◌≡◌ {A = ℕ} 0 1 = omega (arith, (adds_one t x k).ones) in absurd (omega arith)
    go false k rec =
        let z = adds_none t x k in
        let r = rec (omega (arith, z.ones)) in
        (omega (arith, z.above, r.0), omega (arith, z.below, r.1))

-- no thread's W is past Q a tick
low_up : (a q now : ℕ) (x : Thread) → Low q now x → ups a x ≤ q * now
unfolding ups
low_up a q now x p = by_test (λ (k : ℕ). k ≤ q * now) (active_in a x) (λ _. p) (λ _. omega arith)

pub ups_low : (a q now n : ℕ) (xs : List Thread) → All (Low q now) (take n xs) → sum_by (ups a) (take n xs) ≤ n * (q * now)
unfolding sum_by
ups_low a q now zero xs l = omega arith
ups_low a q now (suc n) [] l = omega arith
ups_low a q now (suc n) (x ∷ xs) (more p l) = omega (arith, low_up a q now x p, ups_low a q now n xs l)
