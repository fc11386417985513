-- Sums over the threads of an application.
use Rattle.std.specs.Prelude.{◌≡◌, Bool}
use Rattle.std.proofs.Math.Path.{refl}
use Rattle.std.proofs.Common.{ap, ◌∙◌, not-suc-le-zero}
use Rattle.std.proofs.Math.Bool.{true, false, cond}
use Prim.Native.Nat.{ℕ, zero, suc, ◌+◌, ◌*◌, ◌≤◌, ◌<◌}
use Rattle.std.proofs.Math.Decide.{ℕ_discrete}
use native.Mathlib.Omega.{arith}
use borrow.Author.Tests.{eqb-true, eq-eqb, ne_eqb}
use Rattle.std.proofs.Math.Dec.{eqb}
use Rattle.rules.specs.Table.{Table, row_at}
use Rattle.rules.specs.Stretches.{app_of, share_to}
use Rattle.promises.specs.Cases.{by_test}
use Rattle.lag.specs.Own.{over_to}

module _ (app : ℕ → ℕ) (a : ℕ) where
  pub over_none : (n : ℕ) → over_to app a (λ _. 0) n ≡ 0
  unfolding over_to
  over_none zero = refl
  over_none (suc n) = by_test (λ (k : ℕ). over_to app a (λ _. 0) n + k ≡ 0) (eqb (app n) a) (λ _. omega (arith, over_none n)) (λ _. omega (arith, over_none n))

  pub over_add : (f g : ℕ → ℕ) (n : ℕ) → over_to app a (λ i. f i + g i) n ≡ over_to app a f n + over_to app a g n
  unfolding over_to
  over_add f g zero = refl
  over_add f g (suc n) = go (over_add f g n) (eqb (app n) a)
    where
      go : over_to app a (λ i. f i + g i) n ≡ over_to app a f n + over_to app a g n → (b : Bool)
          → over_to app a (λ i. f i + g i) n + cond b (f n + g n) 0 ≡ over_to app a f n + cond b (f n) 0 + (over_to app a g n + cond b (g n) 0)
      go r true = omega (arith, r)
      go r false = omega (arith, r)

  -- x for thread j alone, if it is of a
  aside : (j x n : ℕ) → (j ≡ n → ⊥) → cond (eqb (app n) a) (cond (eqb j n) x 0) 0 ≡ 0
  aside j x n f = rw (ne_eqb j n f) (by_test (λ (k : ℕ). k ≡ 0) (eqb (app n) a) (λ _. refl) (λ _. refl))

  over_before : (j x n : ℕ) → n ≤ j → over_to app a (λ i. cond (eqb j i) x 0) n ≡ 0
  unfolding over_to
  over_before j x zero l = refl
  over_before j x (suc n) l = omega (arith, over_before j x n (omega arith), aside j x n (λ e. omega arith))

  pub over_one : (j x n : ℕ) → j < n → over_to app a (λ i. cond (eqb j i) x 0) n ≡ cond (eqb (app j) a) x 0
  unfolding over_to
  over_one j x zero l = absurd (not-suc-le-zero l)
  over_one j x (suc n) l = go (over_one j x n) (ℕ_discrete n j)
    where
      go : (j < n → over_to app a (λ i. cond (eqb j i) x 0) n ≡ cond (eqb (app j) a) x 0) → Dec (n ≡ j)
          → over_to app a (λ i. cond (eqb j i) x 0) n + cond (eqb (app n) a) (cond (eqb j n) x 0) 0 ≡ cond (eqb (app j) a) x 0
      go r (yes k) = rw (k, eq-eqb j j refl) (omega (arith, over_before j x j (omega arith)))
      go r (no k) = omega (arith, r (omega arith), aside j x n (λ e. omega arith))

  -- each of them by one
  pub over_less : (n : ℕ) (f g h : ℕ → ℕ) (q : ℕ) → ((i : ℕ) → i < n → app i ≡ a → f i < q * g i + h i)
      → over_to app a f n + over_to app a (λ _. 1) n ≤ q * over_to app a g n + over_to app a h n
  unfolding over_to
  over_less zero f g h q k = omega arith
  over_less (suc n) f g h q k = go (over_less n f g h q (λ i l. k i (omega arith))) (k n (omega arith)) (eqb (app n) a) refl
    where
      go : over_to app a f n + over_to app a (λ _. 1) n ≤ q * over_to app a g n + over_to app a h n → (app n ≡ a → f n < q * g n + h n) → (b : Bool) → eqb (app n) a ≡ b
          → over_to app a f n + cond b (f n) 0 + (over_to app a (λ _. 1) n + cond b 1 0) ≤ q * (over_to app a g n + cond b (g n) 0) + (over_to app a h n + cond b (h n) 0)
      go r l true e = omega (arith, r, l (eqb-true (app n) a e))
      go r l false e = omega (arith, r)

  -- there is one
  pub over_some : (n i : ℕ) → i < n → app i ≡ a → 1 ≤ over_to app a (λ _. 1) n
  unfolding over_to
  over_some zero i l e = absurd (not-suc-le-zero l)
  over_some (suc n) i l e = go (over_some n i) (ℕ_discrete n i)
    where
      go : (i < n → app i ≡ a → 1 ≤ over_to app a (λ _. 1) n) → Dec (n ≡ i) → 1 ≤ over_to app a (λ _. 1) n + cond (eqb (app n) a) 1 0
      go r (yes k) = rw (eq-eqb (app n) a (ap app k ∙ e)) (omega arith)
      go r (no k) = omega (arith, r (omega arith) e)

-- the share of an application, times m, is such a sum
pub over_shares : (a : ℕ) (t : Table) (m n : ℕ) → over_to (app_of t) a (λ i. (row_at t.rows i).share * m) n ≡ share_to a t.rows n * m
unfolding over_to share_to
over_shares a t m zero = omega arith
over_shares a t m (suc n) = go (over_shares a t m n) (eqb (app_of t n) a)
  where
    u : ℕ
    u = (row_at t.rows n).share

    go : over_to (app_of t) a (λ i. (row_at t.rows i).share * m) n ≡ share_to a t.rows n * m → (b : Bool)
        → over_to (app_of t) a (λ i. (row_at t.rows i).share * m) n + cond b (u * m) 0 ≡ (share_to a t.rows n + cond b u 0) * m
    go r true = omega (arith, r)
    go r false = omega (arith, r)
