-- What a program keeps to while it reads and writes.
use Rattle.std.specs.Prelude.{◌≡◌, Bool, true, false, not, ◌&&◌, ◌||◌, List, [], ◌++◌, ℕ, ◌+◌, ◌-◌, ◌≤◌, ◌<◌, eqb, length, take, drop}
use Rattle.windows.specs.Advance.{widest, farthest}
use Rattle.windows.specs.Feeding.{Bytes}
use Rattle.shell.specs.declared.telling.Telling.{Ghosts}
use Rattle.shell.specs.declared.telling.Turn.{Turn}
use Rattle.shell.specs.declared.Shell.{Shell}
use Rattle.shell.specs.Went.{Went}

module _ {T : Type 0} where
  -- more of the input is wanted, and it has not ended
  abbrev pub wants : Shell T → Bool
  wants s = s.hungry && not s.last

  -- the program goes on no more
  abbrev pub stopped : Shell T → Shell T
  stopped s = record { progress = s.progress; start = s.start; end = s.end; last = s.last; hungry = s.hungry; going = false }

  -- the program stops at s, where a read or a write failed, or the input is too long; or else P
  pub data StopsOr (s r : Shell T) (P : Type 0) : Type 0 where
    stops : r ≡ stopped s → StopsOr s r P
    made : P → StopsOr s r P

  -- what was read and not yet taken, of the buffer b
  abbrev pub window : List ℕ → Shell T → List ℕ
  window b s = take (s.end - s.start) (drop s.start b)

  -- the bytes `got` came behind what s had, and `last` is whether the input has ended behind them
  pub record Came (s : Shell T) (got : List ℕ) (last : Bool) : Type 0 where
    pub bytes : Bytes got
    -- none came where none were wanted
    pub unwanted : wants s ≡ false → got ≡ []
    -- the input has ended where it had before, and where a read brought no byte
    pub ends : last ≡ (s.last || (wants s && eqb (length got) 0))

  -- s, with the buffer b, has read on to r, with the buffer b'
  pub record Filled (b b' : List ℕ) (s r : Shell T) : Type 0 where
    -- the bytes that were read
    pub got : List ℕ
    pub came : Came s got r.last
    -- they stand behind what was left, and all of that is still there
    pub behind : window b' r ≡ window b s ++ got
    -- what is told is where it was, and the program goes on
    pub same : r.progress ≡ s.progress
    pub going : r.going ≡ true

module _ {T : Type 0} (g : Ghosts T) where
  -- where s may stand between turns, with a buffer of n bytes
  pub record Good (n : ℕ) (s : Shell T) : Type 0 where
    -- the window lies within the buffer
    pub ordered : s.start ≤ s.end
    pub within : s.end ≤ n
    -- a read has room for a byte, so that it brings none only where the input has ended; but for one that is past the last byte that
    -- has a number, which takes no more
    pub roomy : wants s ≡ true → g.place s.progress ≤ farthest → s.end - s.start < n
    -- what is told is what calls gave, and not done while the program goes on
    pub given : g.Given s.progress
    pub undone : s.going ≡ true → g.done s.progress ≡ false

  -- n bytes hold the longest record, and m what is written at once
  abbrev pub Enough : ℕ → ℕ → Type 0
  Enough n m = (widest ≤ n) × (g.room ≤ m)

  -- the program can take a turn, with so many bytes to read into and to write from
  pub record Ready (n m : ℕ) (s : Shell T) : Type 0 where
    pub good : Good n s
    pub going : s.going ≡ true
    pub enough : Enough n m

  -- where it begins: nothing is read, and the heading line is written
  abbrev pub opened : Shell T
  opened = record { progress = g.begun; start = 0; end = 0; last = false; hungry = true; going = true }

  -- a call with the window w and the output out, from p
  abbrev pub Calls : Bool → List ℕ → List ℕ → T → List ℕ → Turn T → Type 0
  Calls = Went g.room g.place g.done g.Given g.Brings

  -- the call t was handed the window of f in the buffer b, and this is its text, from the first byte to the last
  pub record Said (text b : List ℕ) (f : Shell T) (t : Turn T) : Type 0 where
    pub out : List ℕ
    pub out' : List ℕ
    pub call : Calls f.last (window b f) out f.progress out' t
    pub whole : text ≡ call.text
    pub within : f.start + t.taken ≤ f.end

  -- where the call t brings f
  abbrev pub after : Shell T → Turn T → Shell T
  after f t = record { progress = t.progress; start = f.start + t.taken; end = f.end; last = f.last; hungry = eqb t.taken 0 && eqb t.written 0; going = not (g.done t.progress) }

  -- s, with the buffer b, has taken a turn to r, with the buffer b'; the output, which was out, is out'
  pub record Turned (b b' out out' : List ℕ) (s r : Shell T) : Type 0 where
    -- the bytes that were read
    pub got : List ℕ
    pub came : Came s got r.last
    -- the call was handed what was left and those bytes behind it
    pub answer : Turn T
    pub went : Calls r.last (window b s ++ got) out s.progress out' answer
    -- the output begins with the call's text
    pub begins : take (length went.text) out' ≡ went.text
    -- what is told is where the call brought it
    pub progress : r.progress ≡ answer.progress
    -- what the call did not take is left
    pub left : window b' r ≡ drop answer.taken (window b s ++ got)
    -- more is wanted exactly where the call took nothing and wrote nothing
    pub hungry : r.hungry ≡ (eqb answer.taken 0 && eqb answer.written 0)
