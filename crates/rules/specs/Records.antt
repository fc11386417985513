-- Document 01, "Trace records": from bytes to what a record says.
use Rattle.std.specs.Prelude.{cond, List, ℕ, ◌+◌, ◌*◌, ◌-◌, eqb, ltb, length, get_or, take, drop}
pub use Rattle.quantities.specs.declared.Moment.{Moment}
pub use Rattle.quantities.specs.declared.Frame.{Frame}
pub use Rattle.quantities.specs.declared.Frame.TheVariants.{Ended, Cut, Whole}
pub use Rattle.quantities.specs.declared.Record.{Record}
pub use Rattle.quantities.specs.declared.Record.TheVariants.{Head, Row, Arrival, Completion, RunTo, Drop}

-- what the body of a record says, or the number with which it is refused
pub data Decoded : Type 0 where
  Known : Record → Decoded
  Refused : ℕ → Decoded

-- "little-endian"
abbrev pub le16 : List ℕ → ℕ → ℕ
le16 s k = get_or s k 0 + 256 * get_or s (k + 1) 0

abbrev pub le32 : List ℕ → ℕ → ℕ
le32 s k = le16 s k + 65536 * le16 s (k + 2)

-- "Length first, two bytes, little-endian, counting the bytes after itself; then a two-byte kind; then the body."
-- s is the rest of the input: nothing; no whole record, since it ends "inside a record" or has a "length below 2"; or a whole
-- record first
unfoldable pub frame_of : List ℕ → Frame
frame_of s =
    cond (eqb (length s) 0) Ended
    (cond (ltb (length s) 2) Cut
    (cond (ltb (le16 s 0) 2) Cut
    (cond (ltb (length s) (2 + le16 s 0)) Cut
    (Whole (le16 s 2) (2 + le16 s 0)))))

-- "The body of a record is handed on as it stands in the input.": of a whole record of n bytes at the start of s
abbrev pub body_of : List ℕ → ℕ → List ℕ
body_of s n = take (n - 4) (drop 4 s)

-- 14 "length not that of the kind", the length being that of kind and body together
abbrev pub sized : ℕ → List ℕ → Record → Decoded
sized n b r = cond (eqb (2 + length b) n) (Known r) (Refused 14)

abbrev pub moment : ℕ → Moment
moment t = record { 0 = t }

-- the table of kinds; 15 "kind unknown"
unfoldable pub decoded : ℕ → List ℕ → Decoded
decoded kind b =
    cond (eqb kind 1) (sized 6 b (Head (le16 b 0) (le16 b 2)))
    (cond (eqb kind 2) (sized 10 b (Row (record { app = le16 b 0; share = le16 b 2; period = le32 b 4 })))
    (cond (eqb kind 3) (sized 8 b (Arrival (moment (le32 b 0)) (le16 b 4)))
    (cond (eqb kind 4) (sized 8 b (Completion (moment (le32 b 0)) (le16 b 4)))
    (cond (eqb kind 5) (sized 6 b (RunTo (moment (le32 b 0))))
    (cond (eqb kind 6) (sized 8 b (Drop (moment (le32 b 0)) (le16 b 4)))
    (Refused 15))))))
