-- What is in the slice after a text was put, and where the next one goes.
use Rattle.std.specs.Prelude.{◌≡◌, Bool, List, ℕ, ◌+◌, ◌≤◌, ◌<◌}
use Rattle.std.proofs.Math.Path.{refl}
use Rattle.std.proofs.Math.Bool.{true, false, cond}
use native.Mathlib.Omega.{arith}
use Rattle.std.proofs.Math.Dec.{leb}
use Rattle.std.proofs.Math.ListN.{length}
use Rattle.std.proofs.lemmas.List.Edits.{sets}
use borrow.Author.Tests.{le-leb, lt-leb, leb-true}
use Rattle.text.specs.Put.{put_out, put_to, longest}

module _ (out : List ℕ) (k : ℕ) (text : List ℕ) where
  pub put_none : length out < k + longest → (put_to out k text ≡ k) × (put_out out k text ≡ out)
  unfolding put_to put_out
  put_none h = let e = lt-leb (k + longest) (length out) h in (simp e, simp e)

  pub put_room : k + longest ≤ length out → (put_to out k text ≡ k + length text) × (put_out out k text ≡ sets out k text)
  unfolding put_to put_out
  put_room h = let e = le-leb (k + longest) (length out) h in (simp e, simp e)

  pub put_within : length text ≤ longest → k ≤ length out → put_to out k text ≤ length out
  unfolding put_to
  put_within t h = go (leb (k + longest) (length out)) refl
    where
      go : (b : Bool) → leb (k + longest) (length out) ≡ b → cond b (k + length text) k ≤ length out
      go true e = let f = leb-true (k + longest) (length out) e in omega arith
      go false e = h
