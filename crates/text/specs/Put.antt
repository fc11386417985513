-- Texts in a lent slice of bytes.
use Rattle.std.specs.Prelude.{◌≡◌, cond, List, [], ◌∷◌, ◌++◌, ℕ, ◌+◌, ◌/◌, ◌%◌, leb, length}
use Rattle.std.proofs.lemmas.List.Edits.{sets}

-- the bytes that there must be for a text to be put; no text is longer
abbrev pub longest : ℕ
longest = 64

-- what is in out, and where the next text goes, after a text was put at k: nothing happens where there are not 64 bytes
unfoldable pub put_out : List ℕ → ℕ → List ℕ → List ℕ
put_out out k text = cond (leb (k + longest) (length out)) (sets out k text) out

unfoldable pub put_to : List ℕ → ℕ → List ℕ → ℕ
put_to out k text = cond (leb (k + longest) (length out)) (k + length text) k

-- a text was put at k, for which there were bytes enough: out became out', and k' is the index after the text
pub record Put (out : List ℕ) (k : ℕ) (text out' : List ℕ) (k' : ℕ) : Type 0 where
  pub next : k' ≡ k + length text
  pub stored : out' ≡ sets out k text

-- a text and the byte after it
abbrev pub ended : List ℕ → ℕ → List ℕ
ended text b = text ++ (b ∷ [])

-- the digits of a number below 100, below 10,000 and below 100,000,000, with zeros in front
abbrev pub pair : ℕ → List ℕ
pair n = (48 + n / 10) ∷ (48 + n % 10) ∷ []

abbrev pub four : ℕ → List ℕ
four n = pair (n / 100) ++ pair (n % 100)

abbrev pub eight : ℕ → List ℕ
eight n = four (n / 10000) ++ four (n % 10000)
