-- Demand 1 of refused calls a second time, stated apart from Demand1.antt and derived from its `Promised` alone, whatever proves
-- that: refused calls can be left out of any sequence, and no entry of a row that was lent to one has changed.
use Rattle.std.specs.Prelude.{◌≡◌, cond, ℕ, suc, eqb, length, get_or}
use Rattle.std.proofs.Math.Path.{refl, ap}
use Rattle.std.proofs.Common.{◌∙◌, arith}
use mathlib.Core.List.{List, [], ◌∷◌}
use Rattle.std.proofs.lemmas.Bool.{eqb-false}
use Rattle.rules.specs.Threads.{State}
use Rattle.rules.specs.Run.{ran}
use Rattle.rules.specs.Calls.{Call, run, apply, after, refusal_of}
use Rattle.promises.specs.Cases.{by_test}
use Rattle.promises.specs.Demand1 as demand

-- the calls of a sequence from s on that are not refused
unfoldable pub accepted : State → List Call → List Call
accepted s [] = []
accepted s (c ∷ cs) = cond (eqb (refusal_of s c) 0) (c ∷ accepted (apply s c) cs) (accepted s cs)

pub record Skipped (s : State) : Type 0 where
  pub schedule : (cs : List Call) → after s cs ≡ after s (accepted s cs)
  pub entries : (cs : List Call) (to : ℕ) (row : List ℕ) (n : ℕ) → refusal_of (after s cs) (run to row) ≡ suc n
      → (length (ran (after s cs) to row).row ≡ length row) × ((k : ℕ) → get_or (ran (after s cs) to row).row k 0 ≡ get_or row k 0)

abbrev pub Promised : Type 0
Promised = (s : State) → Skipped s

-- ---- from demand 1
module _ (promise : demand.Promised) where
  left_out : (cs : List Call) (s : State) → after s cs ≡ after s (accepted s cs)
  unfolding accepted after
  left_out [] s = refl
  left_out (c ∷ cs) s =
      by_test (λ (ds : List Call). after (apply s c) cs ≡ after s ds) (eqb (refusal_of s c) 0) (λ _. left_out cs (apply s c))
      (λ e. ap (λ (z : State). after z cs) ((promise s).schedule c (eqb-false _ _ e)) ∙ left_out cs s)

  row_same : (s : State) (to : ℕ) (row : List ℕ) (n : ℕ) → refusal_of s (run to row) ≡ suc n → (ran s to row).row ≡ row
  row_same s to row n e = (promise s).row to row (λ z. omega (arith, z, e))

pub skipped : demand.Promised → Promised
skipped promise s = record {
  schedule = λ cs. left_out promise cs s;
  entries = λ cs to row n e. let r = row_same promise (after s cs) to row n e in (ap length r, λ k. ap (λ (l : List ℕ). get_or l k 0) r);
}
