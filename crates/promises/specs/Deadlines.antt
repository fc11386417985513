-- The order of deadlines, and what `earliest` names: a thread that passes the test, with no later deadline than any that does.
use Rattle.std.specs.Prelude.{◌≡◌, refl, Bool, true, false, cond, List, eqb, pos, ◌*ℤ◌}
use Rattle.std.proofs.Common.{sym, ◌∙◌, mul-le-mul_left, not-suc-le-zero, arith, eqb-true}
use Rattle.std.proofs.Math.Path.{subst}
use Prim.Native.Nat.{ℕ, zero, suc, ◌+◌, ◌*◌, ◌≤◌, ◌<◌}
use Rattle.std.proofs.Math.Decide.{ℕ_discrete}
use Rattle.std.proofs.Math.Nat.{le_of_mul-le-mul_left}
use Rattle.std.proofs.lemmas.Bool.{eqb-false}
use Rattle.std.proofs.Math.Dec.{T}
use Rattle.std.specs.Int.Signed.{lt_z}
use Rattle.integers.specs.Parts.{up, dn, mul_up, mul_dn, lt_z-true, lt_z-false}
use Rattle.rules.specs.Limits.{nobody}
use Rattle.rules.specs.Threads.{Thread, Less, Equal, Greater, at, is_earlier, sooner, closer, earliest}
use Rattle.promises.specs.Cases.{test, by_test}

-- the deadline of x is not after that of y
abbrev pub NotAfter : Thread → Thread → Type 0
NotAfter x y = up x.e.0 * y.share + dn y.e.0 * x.share ≤ up y.e.0 * x.share + dn x.e.0 * y.share

-- "earlier" is the first of the comparison's two tests
sooner_is : (x y : Thread) → sooner x y ≡ lt_z (x.e.0 *ℤ pos y.share) (y.e.0 *ℤ pos x.share)
sooner_is x y = go (lt_z (x.e.0 *ℤ pos y.share) (y.e.0 *ℤ pos x.share)) (lt_z (y.e.0 *ℤ pos x.share) (x.e.0 *ℤ pos y.share))
  where
    go : (a b : Bool) → is_earlier (cond a Less (cond b Greater Equal)) ≡ a
    go true b = refl
    go false true = refl
    go false false = refl

module _ (x y : Thread) where
  sooner_yes : sooner x y ≡ true → NotAfter x y
  sooner_yes t = omega (arith, lt_z-true (x.e.0 *ℤ pos y.share) (y.e.0 *ℤ pos x.share) (sym (sooner_is x y) ∙ t), mul_up x.e.0 y.share, mul_dn x.e.0 y.share, mul_up y.e.0 x.share, mul_dn y.e.0 x.share)

  sooner_no : sooner x y ≡ false → NotAfter y x
  sooner_no t = omega (arith, lt_z-false (x.e.0 *ℤ pos y.share) (y.e.0 *ℤ pos x.share) (sym (sooner_is x y) ∙ t), mul_up x.e.0 y.share, mul_dn x.e.0 y.share, mul_up y.e.0 x.share, mul_dn y.e.0 x.share)

-- fractions: a / u ≤ b / v and b / v ≤ c / s, so a / u ≤ c / s; each number as a difference
pub frac : (a a' u b b' v c c' s : ℕ) → 0 < v → a * v + b' * u ≤ b * u + a' * v → b * s + c' * v ≤ c * v + b' * s → a * s + c' * u ≤ c * u + a' * s
frac a a' u b b' v c c' s h p q = le_of_mul-le-mul_left {k = v} (omega (arith, mul-le-mul_left s p, mul-le-mul_left u q)) h

not_after_trans : (x y z : Thread) → 0 < y.share → NotAfter x y → NotAfter y z → NotAfter x z
not_after_trans x y z h p q = frac (up x.e.0) (dn x.e.0) x.share (up y.e.0) (dn y.e.0) y.share (up z.e.0) (dn z.e.0) z.share h p q

-- ---- `earliest` names a thread that passes the test, or nobody
Passes : (Thread → Bool) → List Thread → ℕ → ℕ → Type 0
Passes p xs n b = (b ≡ nobody → ⊥) → (b < n) × T (p (at xs b))

pub earliest_in : (p : Thread → Bool) (n : ℕ) (xs : List Thread) → (earliest p n xs ≡ nobody → ⊥) → (earliest p n xs < n) × T (p (at xs (earliest p n xs)))
unfolding earliest Passes
earliest_in p zero xs = λ f. absurd (f refl)
earliest_in p (suc i) xs = go (earliest p i xs) (earliest_in p i xs)
  where
    go : (b : ℕ) → Passes p xs i b → Passes p xs (suc i) (closer p xs b i)
    go b ih =
        test (λ c. Passes p xs (suc i) (cond c (cond (eqb b nobody) i (cond (sooner (at xs i) (at xs b)) i b)) b)) (p (at xs i))
        (λ k. test (λ c. Passes p xs (suc i) (cond c i (cond (sooner (at xs i) (at xs b)) i b))) (eqb b nobody)
        (λ _ _. (omega arith, k))
        (λ _. test (λ c. Passes p xs (suc i) (cond c i b)) (sooner (at xs i) (at xs b)) (λ _ _. (omega arith, k)) (λ _. wider)))
        (λ _. wider)
      where
        wider : Passes p xs (suc i) b
        wider f = let h = ih f in (omega (arith, h.0), h.1)

-- ---- .. and none of the first n that pass the test has an earlier deadline
abbrev First : (Thread → Bool) → List Thread → ℕ → ℕ → Type 0
First p xs n b = (j : ℕ) → j < n → T (p (at xs j)) → (b ≡ nobody → ⊥) × NotAfter (at xs b) (at xs j)

module _ (p : Thread → Bool) (xs : List Thread) where
  pub earliest_first : (n : ℕ) → n ≤ 64 → ((j : ℕ) → j < n → T (p (at xs j)) → 0 < (at xs j).share) → First p xs n (earliest p n xs)
  unfolding earliest
  earliest_first zero l real = λ j h. absurd (not-suc-le-zero h)
  earliest_first (suc i) l real = go (earliest p i xs) (earliest_first i (omega arith) (λ j h. real j (omega arith))) (earliest_in p i xs)
    where
      -- thread i, or one before it
      split : {b : ℕ} → (T (p (at xs i)) → (b ≡ nobody → ⊥) × NotAfter (at xs b) (at xs i)) → First p xs i b → First p xs (suc i) b
      split {b} f g j h t = by (ℕ_discrete j i)
        where
          by : Dec (j ≡ i) → (b ≡ nobody → ⊥) × NotAfter (at xs b) (at xs j)
          by (yes e) = subst (λ k. (b ≡ nobody → ⊥) × NotAfter (at xs b) (at xs k)) (sym e) (f (subst (λ k. T (p (at xs k))) e t))
          by (no n) = g j (omega arith) t

      own : (i ≡ nobody → ⊥) × NotAfter (at xs i) (at xs i)
      own = ((λ e. omega arith), omega arith)

      go : (b : ℕ) → First p xs i b → ((b ≡ nobody → ⊥) → (b < i) × T (p (at xs b))) → First p xs (suc i) (closer p xs b i)
      go b ih in_b =
          by_test (First p xs (suc i)) (p (at xs i))
          (λ _. by_test (First p xs (suc i)) (eqb b nobody)
          (λ e. split (λ _. own) (λ j h t. absurd ((ih j h t).0 (eqb-true b nobody e))))
          (λ e. by_test (First p xs (suc i)) (sooner (at xs i) (at xs b))
          (λ s. split (λ _. own) (λ j h t. ((λ z. omega arith), not_after_trans (at xs i) (at xs b) (at xs j) (real b (omega (arith, (in_b (eqb-false b nobody e)).0)) (in_b (eqb-false b nobody e)).1) (sooner_yes (at xs i) (at xs b) s) (ih j h t).1)))
          (λ s. split (λ _. (eqb-false b nobody e, sooner_no (at xs i) (at xs b) s)) ih)))
          (λ e. split (λ t. absurd (subst T e t)) ih)
