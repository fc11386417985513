-- Calls one after the other, each with a window of what is left of the input.
use Rattle.std.specs.Prelude.{◌≡◌, Bool, true, List, [], ◌++◌, ℕ, ◌≤◌, length, drop}

module _ {T : Type 0} (Brings : Bool → List ℕ → ℕ → T → List ℕ → ℕ → T → Type 0) where
  -- .. of which each is handed what is left of the input, or a first part of that: from p and the input s they write the text, and
  -- come to q with `left` of the input
  pub data Turns (p : T) (s : List ℕ) : List ℕ → T → List ℕ → Type 0 where
    none : Turns p s [] p s
    then : {text : List ℕ} {q : T} {last : Bool} {w : List ℕ} {room : ℕ} {more : List ℕ} {taken : ℕ} {r : T} (behind : List ℕ)
        → Turns p s text q (w ++ behind) → (last ≡ true → behind ≡ []) → taken ≤ length w → Brings last w room q more taken r → Turns p s (text ++ more) r (drop taken w ++ behind)
