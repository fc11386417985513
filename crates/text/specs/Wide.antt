-- The line of a stretch in a lent slice of bytes: as a text of the listing, with more room.
use Rattle.std.specs.Prelude.{◌≡◌, cond, List, ℕ, ◌+◌, ◌≤◌, ◌<◌, leb, length}
use Rattle.std.proofs.lemmas.List.Edits.{sets}
use borrow.Author.Tests.{le-leb, lt-leb}

-- the bytes that there must be for the line of a stretch to be put; no such line is longer
abbrev pub wide : ℕ
wide = 128

-- what is in out, and where the next text goes: nothing happens where there are not 128 bytes
unfoldable pub wide_out : List ℕ → ℕ → List ℕ → List ℕ
wide_out out k text = cond (leb (k + wide) (length out)) (sets out k text) out

unfoldable pub wide_to : List ℕ → ℕ → List ℕ → ℕ
wide_to out k text = cond (leb (k + wide) (length out)) (k + length text) k

module _ (out : List ℕ) (k : ℕ) (text : List ℕ) where
  pub wide_none : length out < k + wide → (wide_to out k text ≡ k) × (wide_out out k text ≡ out)
  unfolding wide_to wide_out
  wide_none h = let e = lt-leb (k + wide) (length out) h in (simp e, simp e)

  pub wide_room : k + wide ≤ length out → (wide_to out k text ≡ k + length text) × (wide_out out k text ≡ sets out k text)
  unfolding wide_to wide_out
  wide_room h = let e = le-leb (k + wide) (length out) h in (simp e, simp e)
