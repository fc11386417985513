-- The free shares of the applications, each counted once, come to no more than the shares of the inactive threads.
use Rattle.std.specs.Prelude.{◌≡◌, refl, Bool, true, false, not, cond, ◌&&◌, List, [], ◌∷◌, ℕ, zero, suc, ◌+◌, ◌≤◌, T, eqb, take}
use Rattle.std.proofs.Common.{arith, eqb→eq}
use Rattle.lists.specs.Sum.{sum_by}
use Rattle.rules.specs.Threads.{Thread, Phase, Inactive, Contending, NonContending, is_inactive, free, free_share}
use Rattle.promises.specs.Cases.{test, neqb→ne}

-- the sum of g over the numbers below n but a
unfoldable pub others : ℕ → ℕ → (ℕ → ℕ) → ℕ
others a zero g = 0
others a (suc n) g = cond (eqb n a) 0 (g n) + others a n g

others_add : (a n : ℕ) (f g : ℕ → ℕ) → others a n (λ b. f b + g b) ≡ others a n f + others a n g
unfolding others
others_add a zero f g = refl
others_add a (suc n) f g = go (eqb n a) (others_add a n f g)
  where
    go : (c : Bool) → others a n (λ b. f b + g b) ≡ others a n f + others a n g
        → cond c 0 (f n + g n) + others a n (λ b. f b + g b) ≡ (cond c 0 (f n) + others a n f) + (cond c 0 (g n) + others a n g)
    go true rec = omega arith
    go false rec = omega arith

-- one share v, free to the application m
spot : ℕ → ℕ → ℕ → ℕ
spot v m b = cond (eqb m b) v 0

spot_above : (a n v m : ℕ) → n ≤ m → others a n (spot v m) ≡ 0
unfolding others spot
spot_above a zero v m h = refl
spot_above a (suc n) v m h = go (spot_above a n v m (omega arith))
  where
    ne : T (eqb m n) → ⊥
    ne t = let e : m ≡ n = eqb→eq m n t in omega arith

    go : others a n (spot v m) ≡ 0 → cond (eqb n a) 0 (cond (eqb m n) v 0) + others a n (spot v m) ≡ 0
    go rec = test (λ c. cond (eqb n a) 0 (cond c v 0) + others a n (spot v m) ≡ 0) (eqb m n) (λ t. absurd (ne t))
        (λ t. test (λ c. cond c 0 0 + others a n (spot v m) ≡ 0) (eqb n a) (λ _. omega arith) (λ _. omega arith))

spot_le : (a n v m : ℕ) → others a n (spot v m) ≤ v
unfolding others spot
spot_le a zero v m = omega arith
spot_le a (suc n) v m = go (spot_le a n v m)
  where
    go : others a n (spot v m) ≤ v → cond (eqb n a) 0 (cond (eqb m n) v 0) + others a n (spot v m) ≤ v
    go rec = test (λ c. cond c 0 (cond (eqb m n) v 0) + others a n (spot v m) ≤ v) (eqb n a) (λ _. omega arith)
        (λ _. test (λ c. cond c v 0 + others a n (spot v m) ≤ v) (eqb m n)
        (λ t. let e : m ≡ n = eqb→eq m n t in omega (arith, spot_above a n v m (omega arith))) (λ _. omega arith))

-- the application itself is left out
spot_own : (a n v m : ℕ) → m ≡ a → others a n (spot v m) ≡ 0
unfolding others spot
spot_own a zero v m h = refl
spot_own a (suc n) v m h = go (spot_own a n v m h)
  where
    go : others a n (spot v m) ≡ 0 → cond (eqb n a) 0 (cond (eqb m n) v 0) + others a n (spot v m) ≡ 0
    go rec = test (λ c. cond (eqb n a) 0 (cond c v 0) + others a n (spot v m) ≡ 0) (eqb m n)
        (λ t. test (λ c. cond c 0 v + others a n (spot v m) ≡ 0) (eqb n a) (λ _. omega arith) (λ f. absurd (clash (eqb→eq m n t) f)))
        (λ t. test (λ c. cond c 0 0 + others a n (spot v m) ≡ 0) (eqb n a) (λ _. omega arith) (λ _. omega arith))
      where
        clash : m ≡ n → T (not (eqb n a)) → ⊥
        clash e f = neqb→ne n a f (omega arith)

-- ---- a thread, and the table
unfoldable pub idle_share : Thread → ℕ
idle_share x = cond (is_inactive x.phase) x.share 0

free_as : Phase → ℕ → ℕ → ℕ → ℕ
free_as p v m b = cond (is_inactive p && eqb m b) v 0

zero_others : (a n : ℕ) → others a n (λ _. 0) ≡ 0
unfolding others
zero_others a zero = refl
zero_others a (suc n) = go (zero_others a n)
  where
    go : others a n (λ _. 0) ≡ 0 → cond (eqb n a) 0 0 + others a n (λ _. 0) ≡ 0
    go rec = test (λ c. cond c 0 0 + others a n (λ _. 0) ≡ 0) (eqb n a) (λ _. omega arith) (λ _. omega arith)

free_as_lem : (p : Phase) (a n v m : ℕ) → others a n (free_as p v m) + free_as p v m a ≤ cond (is_inactive p) v 0
unfolding free_as spot
free_as_lem Inactive a n v m =
    test (λ c. others a n (spot v m) + cond c v 0 ≤ v) (eqb m a)
    (λ t. omega (arith, spot_own a n v m (eqb→eq m a t))) (λ t. omega (arith, spot_le a n v m))
free_as_lem Contending a n v m = omega (arith, zero_others a n)
free_as_lem NonContending a n v m = omega (arith, zero_others a n)

free_one : (a n : ℕ) (x : Thread) → others a n (λ b. free_share b x) + free_share a x ≤ idle_share x
unfolding free_share idle_share free_as
free_one a n x = free_as_lem x.phase a n x.share x.app

-- what the applications other than a give, with what a has free itself
free_rows : (a n : ℕ) (xs : List Thread) → others a n (λ b. sum_by (free_share b) xs) + sum_by (free_share a) xs ≤ sum_by idle_share xs
unfolding sum_by
free_rows a n [] = omega (arith, zero_others a n)
free_rows a n (x ∷ xs) = omega (arith, free_one a n x, free_rows a n xs, others_add a n (λ b. free_share b x) (λ b. sum_by (free_share b) xs))

pub free_all : (a n m : ℕ) (xs : List Thread) → others a n (λ b. free b m xs) + free a m xs ≤ sum_by idle_share (take m xs)
free_all a n m xs = free_rows a n (take m xs)
