-- A call on its way, and what a part of it brings.
use Rattle.std.specs.Prelude.{◌≡◌, Bool, false, List, ℕ, ◌+◌, ◌-◌, ◌≤◌, ◌<◌, length, drop}
use Rattle.std.proofs.lemmas.List.Edits.{sets}
use Rattle.rules.specs.Records.{Whole, Record, Known, frame_of, body_of, decoded}
use Rattle.rules.specs.Refusals.{Refusal, number}
use Rattle.rules.specs.Listing.{refusal_line}
use Rattle.windows.specs.Advance.{widest, farthest}
use Rattle.calls.specs.declared.told.Turn.{Turn}

-- ---- a whole record that stands at a byte of the window
pub record Framed (w : List ℕ) (from kind n : ℕ) : Type 0 where
  pub is : frame_of (drop from w) ≡ Whole kind n
  pub least : 4 ≤ n
  pub most : n ≤ widest
  pub within : from + n ≤ length w

-- .. and is known
pub record Stands (w : List ℕ) (from n : ℕ) (e : Record) : Type 0 where
  pub kind : ℕ
  pub framed : Framed w from kind n
  pub known : decoded kind (body_of (drop from w) n) ≡ Known e

module _ {T : Type 0} where
  -- ---- a call on its way: the bytes taken and written, and how far what is told has come
  abbrev pub turn_at : ℕ → ℕ → T → Turn T
  turn_at taken written p = record { taken = taken; written = written; progress = p }

  -- the bytes that are left to it
  abbrev pub left_of : List ℕ → List ℕ → Turn T → ℕ
  left_of w out x = length out - x.written + (length w - x.taken)

-- one that can go on
pub record Open {T : Type 0} (room : ℕ) (place : T → ℕ) (done : T → Bool) (Given : T → Type 0) (w out : List ℕ) (x : Turn T) : Type 0 where
  pub given : Given x.progress
  pub undone : done x.progress ≡ false
  pub near : place x.progress ≤ farthest
  pub within : x.taken ≤ length w
  pub fits : x.written + room ≤ length out

-- it is along from x at y
pub record Along {T : Type 0} (Given : T → Type 0) (Brings : Bool → List ℕ → ℕ → T → List ℕ → ℕ → T → Type 0) (last : Bool) (w out : List ℕ) (x : Turn T) (out' : List ℕ) (y : Turn T) : Type 0 where
  pub given : Given y.progress
  pub text : List ℕ
  pub stored : out' ≡ sets out x.written text
  pub writes : y.written ≡ x.written + length text
  pub takes : x.taken ≤ y.taken
  pub within : y.taken ≤ length w
  pub fits : y.written ≤ length out
  pub brings : Brings last (drop x.taken w) (length out - x.written) x.progress text (y.taken - x.taken) y.progress

-- a part of a call, after which it goes on, since a byte was taken or written
pub record ActedOn {T : Type 0} (Given : T → Type 0) (Brings : Bool → List ℕ → ℕ → T → List ℕ → ℕ → T → Type 0) (w out : List ℕ) (x : Turn T) (out' : List ℕ) (y : Turn T) : Type 0 where
  pub any : (last : Bool) → Along Given Brings last w out x out' y
  pub less : left_of w out y < left_of w out x

-- a record that is refused after what stands before it
pub record Refused {T : Type 0} (room : ℕ) (place : T → ℕ) (done : T → Bool) (finished : T → T) (Given : T → Type 0) (Brings : Bool → List ℕ → ℕ → T → List ℕ → ℕ → T → Type 0) (w out : List ℕ) (x : Turn T) (out' : List ℕ) (y : Turn T) (e : Refusal) : Type 0 where
  pub before : (last : Bool) → Along Given Brings last w out x out' y
  pub opens : Open room place done Given w out' y
  pub brings : (last : Bool) → Brings last (drop y.taken w) (length out' - y.written) y.progress (refusal_line (number e) (place y.progress)) 0 (finished y.progress)

-- a text that was written
pub record Written (out : List ℕ) (at : ℕ) (text out' : List ℕ) (to : ℕ) : Type 0 where
  pub next : to ≡ at + length text
  pub stored : out' ≡ sets out at text
  pub fits : to ≤ length out
