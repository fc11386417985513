-- What the rows of a table answer, one by one.
use Rattle.std.specs.Prelude.{◌≡◌, List}
use Rattle.std.proofs.Math.Path.{ap, subst}
use Rattle.std.proofs.Common.{◌∙◌, add-one}
use Prim.Native.Nat.{ℕ, zero, suc, ◌+◌, ◌≤◌}
use Rattle.std.proofs.Math.Decide.{ℕ_discrete}
use native.Mathlib.Omega.{arith}
use Rattle.rules.specs.Table.{Row, Answer, Done, Refused, first, row_answer, row_at, shares_to, rows_answer}

pub shares_more : (rows : List Row) (i : ℕ) → shares_to rows (i + 1) ≡ shares_to rows i + (row_at rows i).share
unfolding shares_to
shares_more rows i = ap (shares_to rows) (add-one i)

module _ (usual q : ℕ) (rows : List Row) where
  -- what row i answers
  abbrev answer_at : ℕ → Answer
  answer_at i = row_answer usual q (shares_to rows i) (row_at rows i)

  -- after rows that are not refused, the next row answers
  pub rows_more : (i : ℕ) → rows_answer usual q rows i ≡ Done → rows_answer usual q rows (i + 1) ≡ answer_at i
  unfolding rows_answer
  rows_more i e = ap (rows_answer usual q rows) (add-one i) ∙ ap (λ (a : Answer). first a (answer_at i)) e

  -- a refusal stands, whatever rows come after
  pub refusal_stands : (i k : ℕ) → rows_answer usual q rows i ≡ Refused k → (n : ℕ) → i ≤ n → rows_answer usual q rows n ≡ Refused k
  unfolding rows_answer
  refusal_stands i k e zero h = let z : i ≡ 0 = omega arith in subst (λ (j : ℕ). rows_answer usual q rows j ≡ Refused k) z e
  refusal_stands i k e (suc n) h = go (refusal_stands i k e n) (ℕ_discrete i (suc n))
    where
      go : (i ≤ n → rows_answer usual q rows n ≡ Refused k) → Dec (i ≡ suc n) → rows_answer usual q rows (suc n) ≡ Refused k
      go ih (yes z) = subst (λ (j : ℕ). rows_answer usual q rows j ≡ Refused k) z e
      go ih (no f) = ap (λ (a : Answer). first a (answer_at n)) (ih (omega arith))
