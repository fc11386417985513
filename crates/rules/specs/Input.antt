-- Document 01, "Trace records" and "Refusal numbers": an input held whole is read record by record, to its end or to the first
-- refusal.
use Rattle.std.specs.Prelude.{◌≡◌, cond, List, [], ◌∷◌, ℕ, zero, suc, ◌+◌, length, drop}
use Rattle.rules.specs.Table.{Answer, Done, Refused}
use Rattle.rules.specs.Records.{Frame, Ended, Cut, Whole, Record, frame_of, body_of}
use Rattle.rules.specs.Reading.{Reading, fresh, at_events, record_read, read}

-- what an input held whole gives: the answer, the byte at which the refused record starts or the input ends, and the reading
-- up to there
pub record InputRead : Type 0 where
  pub answer : Answer
  pub at : ℕ
  pub reading : Reading

-- the answer, the byte that it is given at, and the reading up to there
abbrev pub stopped : Answer → ℕ → Reading → InputRead
stopped a b r = record { answer = a; at = b; reading = r }

-- the input ends at b, between records: 14 "before the last row (an empty input too)"
abbrev pub end_read : Reading → ℕ → InputRead
end_read r b = stopped (cond (at_events r) Done (Refused 14)) b r

-- how reading goes on, from a reading, the byte that it has come to and the rest of the input
abbrev pub Rest : Type 0
Rest = Reading → ℕ → List ℕ → InputRead

-- a refusal ends it, and gives back the reading before the record
abbrev pub read_on : Answer → Rest → Reading → ℕ → ℕ → List ℕ → InputRead
read_on Done rest r b n s = rest r (b + n) (drop n s)
read_on (Refused m) rest r b n s = stopped (Refused m) b r

-- 14 "input ends inside a record", "length below 2"
abbrev pub read_frame : Rest → Reading → ℕ → List ℕ → Frame → InputRead
read_frame rest r b s Ended = end_read r b
read_frame rest r b s Cut = stopped (Refused 14) b r
read_frame rest r b s (Whole kind n) = read_on (read r kind (body_of s n)).answer rest (read r kind (body_of s n)).reading b n s

-- reading from the byte b on, where the rest s of the input has at most k bytes
unfoldable pub read_from : ℕ → Rest
read_from zero r b s = end_read r b
read_from (suc k) r b s = read_frame (λ r' b' s'. read_from k r' b' s') r b s (frame_of s)

-- reading an input
unfoldable pub read_input : List ℕ → InputRead
read_input s = read_from (length s) fresh 0 s

-- ---- "A state passed in is one that these calls gave"
-- the reading that records give, one after the other, refused ones among them
unfoldable pub readings : Reading → List Record → Reading
readings r [] = r
readings r (e ∷ es) = readings (record_read r e).reading es

-- r is what reading some records gave
pub record GivenReading (r : Reading) : Type 0 where
  pub records : List Record
  pub came : r ≡ readings fresh records
