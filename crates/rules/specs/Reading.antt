-- Document 01, "Trace records" and "Refusal numbers": a trace is read record by record. A refused record gives back the
-- reading before it, so also the schedule before the ticks that were run for it.
use Rattle.std.specs.Prelude.{Bool, not, cond, ◌&&◌, List, ℕ, ◌+◌, ◌-◌, eqb, ltb, set, replicate}
use Rattle.rules.specs.Limits.{max_threads, clock_end, usual_period}
use Rattle.rules.specs.Threads.{State}
use Rattle.rules.specs.Table.{Table, Answer, Done, Refused, Answered, first, done, head_answer, row_answer, shares_to, no_row, start, no_schedule}
use Rattle.rules.specs.Table as table
use Rattle.rules.specs.Completion.{completion}
use Rattle.rules.specs.Arrival.{arrival}
use Rattle.rules.specs.Drop.{dropped}
use Rattle.rules.specs.Run.{state_after}
use Rattle.rules.specs.Records.{Moment, Record, Head, Row, Arrival, Completion, RunTo, Drop, Decoded, Known, decoded}
use Rattle.rules.specs.Records as records
pub use Rattle.quantities.specs.declared.Reading.{Reading}

-- what a record answers, and the reading after it
pub record Read : Type 0 where
  pub answer : Answer
  pub reading : Reading

-- nothing has been read
abbrev pub fresh : Reading
fresh = record { table = record { q = 0; threads = 0; rows = replicate max_threads no_row }; rows = 0; state = no_schedule }

-- "A head, then exactly its number of rows, then events.": no head has come; a row is to come; all rows have come
abbrev pub at_head : Reading → Bool
at_head r = eqb r.table.threads 0

abbrev pub at_rows : Reading → Bool
at_rows r = not (at_head r) && ltb r.rows r.table.threads

abbrev pub at_events : Reading → Bool
at_events r = not (at_head r) && not (ltb r.rows r.table.threads)

-- 16 "record not in its place"
abbrev pub in_place : Reading → Record → Bool
in_place r (Head q n) = at_head r
in_place r (Row x) = at_rows r
in_place r (Arrival m i) = at_events r
in_place r (Completion m i) = at_events r
in_place r (RunTo m) = at_events r
in_place r (Drop m i) = at_events r

-- the new reading where nothing is refused, and else the old one
abbrev pub read_as : Answer → Reading → Reading → Read
read_as Done new old = record { answer = Done; reading = new }
read_as (Refused n) new old = record { answer = Refused n; reading = old }

-- a head begins the table
abbrev pub headed : ℕ → ℕ → Reading
headed q n = record { table = record { q = q; threads = n; rows = replicate max_threads no_row }; rows = 0; state = no_schedule }

-- a row joins the table, as it is written
abbrev pub with_row : Table → ℕ → table.Row → Table
with_row t k x = record { q = t.q; threads = t.threads; rows = set t.rows k x }

-- .. and the last row begins the schedule
abbrev pub rowed : table.Row → Reading → Reading
rowed x r = record {
  table = with_row r.table r.rows x;
  rows = r.rows + 1;
  state = cond (eqb (r.rows + 1) r.table.threads) (start usual_period (with_row r.table r.rows x)) no_schedule;
}

-- "then 13, 12": "tick beyond the clock's end", "tick before the clock"
abbrev pub moment_answer : State → Moment → Answer
moment_answer s m = cond (ltb clock_end m.0) (Refused 13) (cond (ltb m.0 s.clock.0) (Refused 12) Done)

-- ", 8": "thread number not in the table"
abbrev pub thread_answer : State → ℕ → Answer
thread_answer s i = cond (ltb i s.count) Done (Refused 8)

-- what is refused before any tick is run
unfoldable pub before_ticks : State → Record → Answer
before_ticks s (Head q n) = Done
before_ticks s (Row x) = Done
before_ticks s (Arrival m i) = first (moment_answer s m) (thread_answer s i)
before_ticks s (Completion m i) = first (moment_answer s m) (thread_answer s i)
before_ticks s (RunTo m) = moment_answer s m
before_ticks s (Drop m i) = first (moment_answer s m) (thread_answer s i)

-- how many ticks lie before the record's moment
abbrev pub ticks_to : State → Moment → ℕ
ticks_to s m = m.0 - s.clock.0

abbrev pub ticks_before : State → Record → ℕ
ticks_before s (Head q n) = 0
ticks_before s (Row x) = 0
ticks_before s (Arrival m i) = ticks_to s m
ticks_before s (Completion m i) = ticks_to s m
ticks_before s (RunTo m) = ticks_to s m
ticks_before s (Drop m i) = ticks_to s m

-- "then, at the record's moment, 10, 9, 11": the event itself
abbrev pub at_its_moment : State → Record → Answered
at_its_moment s (Head q n) = done s
at_its_moment s (Row x) = done s
at_its_moment s (Arrival m i) = arrival s i
at_its_moment s (Completion m i) = completion s i
at_its_moment s (RunTo m) = done s
at_its_moment s (Drop m i) = dropped s i

-- the ticks before its moment, then the event
abbrev pub event_of : State → Record → Answered
event_of s e = at_its_moment (state_after (ticks_before s e) s) e

-- how many ticks are run for a record that is in its place, and not refused before them
abbrev pub due_as : Answer → ℕ → ℕ
due_as Done n = n
due_as (Refused m) n = 0

unfoldable pub ticks_due : Reading → Record → ℕ
ticks_due r e = cond (in_place r e) (due_as (before_ticks r.state e) (ticks_before r.state e)) 0

abbrev pub with_state : Reading → State → Reading
with_state r s = record { table = r.table; rows = r.rows; state = s }

unfoldable pub event_read : Reading → Record → Read
event_read r e = read_as (first (before_ticks r.state e) (event_of r.state e).answer) (with_state r (event_of r.state e).state) r

-- a record in its place
abbrev pub placed_read : Reading → Record → Read
placed_read r (Head q n) = read_as (head_answer q n) (headed q n) r
placed_read r (Row x) = read_as (row_answer usual_period r.table.q (shares_to r.table.rows r.rows) x) (rowed x r) r
placed_read r (Arrival m i) = event_read r (Arrival m i)
placed_read r (Completion m i) = event_read r (Completion m i)
placed_read r (RunTo m) = event_read r (RunTo m)
placed_read r (Drop m i) = event_read r (Drop m i)

-- a record after those before it
unfoldable pub record_read : Reading → Record → Read
record_read r e = cond (in_place r e) (placed_read r e) (read_as (Refused 16) r r)

abbrev pub decoded_read : Reading → Decoded → Read
decoded_read r (Known e) = record_read r e
decoded_read r (records.Refused n) = read_as (Refused n) r r

-- "record: cut or short 14, 15, wrong length 14, 16; then 13, 12, 8; then, at the record's moment, 10, 9, 11": a whole record
-- by its kind and body
unfoldable pub read : Reading → ℕ → List ℕ → Read
read r kind b = decoded_read r (decoded kind b)
