-- Runs of stores, one after the other.
use Rattle.std.specs.Prelude.{◌≡◌, List, [], ◌∷◌, ◌++◌, ℕ, suc, ◌+◌, length, set}
use Rattle.std.proofs.Common.{ap, ◌∙◌, add-zero, arith}
use Rattle.std.proofs.lemmas.List.Edits.{sets}

-- two runs of stores, the second where the first ends, are one
pub sets_chain : {A : Type 0} (l : List A) (i : ℕ) (a b : List A) → sets (sets l i a) (i + length a) b ≡ sets l i (a ++ b)
sets_chain l i [] b = ap (λ (n : ℕ). sets l n b) (add-zero i)
sets_chain l i (x ∷ a) b = ap (λ (n : ℕ). sets (sets (set l i x) (suc i) a) n b) (omega arith) ∙ sets_chain (set l i x) (suc i) a b
