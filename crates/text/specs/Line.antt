-- A line in the making: a lent slice of bytes, and where its next byte goes.
use Rattle.std.specs.Prelude.{◌≡◌, List, ℕ, ◌+◌, ◌≤◌, length}
use Rattle.text.specs.declared.Line.{Line}
use Rattle.text.specs.Put.{Put}

-- there are n bytes more for it
abbrev pub HasRoom : Line → ℕ → Type 0
HasRoom l n = l.at + n ≤ length l.out.now

-- a text was added to it, in the same slice
pub record Added (old new : Line) (text : List ℕ) : Type 0 where
  pub same : new.out.ghost_name ≡ old.out.ghost_name
  pub long : length new.out.now ≡ length old.out.now
  pub put : Put old.out.now old.at text new.out.now new.at
