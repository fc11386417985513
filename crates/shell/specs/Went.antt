-- What a call promises.
use Rattle.std.specs.Prelude.{◌≡◌, Bool, false, List, ℕ, ◌+◌, ◌≤◌, ◌<◌, length}
use Rattle.std.proofs.lemmas.List.Edits.{sets}
use Rattle.windows.specs.Advance.{widest, farthest}
use Rattle.shell.specs.declared.telling.Turn.{Turn}

-- a call with the window w and the output out, from p
pub record Went {T : Type 0} (room : ℕ) (place : T → ℕ) (done : T → Bool) (Given : T → Type 0) (Brings : Bool → List ℕ → ℕ → T → List ℕ → ℕ → T → Type 0)
    (last : Bool) (w out : List ℕ) (p : T) (out' : List ℕ) (t : Turn T) : Type 0 where
  -- what it wrote
  pub text : List ℕ
  pub stored : out' ≡ sets out 0 text
  pub writes : t.written ≡ length text
  pub fits : t.written ≤ length out
  pub within : t.taken ≤ length w
  pub brings : Brings last w (length out) p text t.taken t.progress
  pub given : Given t.progress
  -- a call with enough room that neither takes nor writes had no wide window, but where it was the last or is past the last byte that
  -- has a number
  pub narrow : t.taken + t.written ≡ 0 → room ≤ length out → done p ≡ false → place t.progress ≤ farthest → last ≡ false → length w < widest
