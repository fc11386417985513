-- Document 02, Item 8, for an engineer: the report of a trace, that is one line for each stretch of an application, in the order
-- in which they end, and at the end of input those that still hold. It is read and refused as the listing is.
use Rattle.std.specs.Prelude.{Bool, true, false, cond, List, [], ◌∷◌, ◌++◌, ℕ, zero, suc, ◌+◌, ◌*◌, eqb, length, drop}
use Rattle.rules.specs.Limits.{apps}
use Rattle.rules.specs.Threads.{State}
use Rattle.rules.specs.Table.{Table, Answer, Done, Refused}
use Rattle.rules.specs.Run.{state_after}
use Rattle.rules.specs.Calls as calls
use Rattle.rules.specs.History.{Happening, ticks_of, happens}
use Rattle.rules.specs.Records.{Frame, Ended, Cut, Whole, Record, Head, Row, Arrival, Completion, RunTo, Drop, Decoded, Known, frame_of, body_of, decoded}
use Rattle.rules.specs.Records as records
use Rattle.rules.specs.Reading.{Reading, fresh, at_events, ticks_due, record_read}
use Rattle.rules.specs.Listing.{bytes, decimal, signed, line, refusal_line, end_line}
use Rattle.rules.specs.Stretches.{Activity, Over, Stretch, all_quiet, activity_at, activities, stretches, elapsed, app_of, share_of, balance}

unfoldable pub report_heading : List ℕ
report_heading = bytes "app from to granted lost share sum end\n"

-- the application, where the stretch begins and ends, granted, lost, share × elapsed, the sum of W − u × t, and how it ended
abbrev pub stretch_line : ℕ → ℕ → ℕ → ℕ → Stretch → List ℕ → List ℕ
stretch_line q share a t c how =
    line (decimal a ∷ decimal c.since.0 ∷ decimal t ∷ decimal c.granted ∷ signed c.lost.0
    ∷ decimal (share * elapsed t c) ∷ signed (balance q share t c) ∷ how ∷ [])

-- "over" where none of its threads was active any more, "idle" where an idle tick cut it short, "open" where it still holds
abbrev pub how_ended : Bool → List ℕ
how_ended false = bytes "over"
how_ended true = bytes "idle"

abbrev pub over_line : Table → Over → List ℕ
over_line t o = stretch_line t.q (share_of o.application t) o.application o.until o.stretch (how_ended o.idle)

-- the lines of stretches that have ended
unfoldable pub over_lines : Table → List Over → List ℕ
over_lines t [] = []
over_lines t (o ∷ os) = over_line t o ++ over_lines t os

-- .. and of those that hold at the moment m, of the applications below n
abbrev pub open_line : Table → ℕ → ℕ → Activity → List ℕ
open_line t m a c = cond (eqb c.active 0) [] (stretch_line t.q (share_of a t) a m c.stretch (bytes "open"))

unfoldable pub open_lines : Table → ℕ → List Activity → ℕ → List ℕ
open_lines t m cs zero = []
open_lines t m cs (suc a) = open_lines t m cs a ++ open_line t m a (activity_at cs a)

-- ---- the report of a history, and where the applications stand after it
abbrev pub told : Table → List Activity → List Happening → List ℕ
told t cs hs = over_lines t (stretches (app_of t) cs hs)

abbrev pub stand : Table → List Activity → List Happening → List Activity
stand t cs hs = activities (app_of t) cs hs

-- ---- the report of an input
-- the ticks before a record's moment
abbrev pub ticks_for : Reading → Record → List Happening
ticks_for r e = ticks_of (ticks_due r e) r.state

-- what an event brings about at its moment, in the state s
abbrev pub event_for : State → Record → List Happening
event_for s (Head q n) = []
event_for s (Row x) = []
event_for s (Arrival m i) = happens s (calls.arrive i)
event_for s (Completion m i) = happens s (calls.complete i)
event_for s (RunTo m) = []
event_for s (Drop m i) = happens s (calls.drop i)

abbrev pub at_moment : Reading → Record → List Happening
at_moment r e = event_for (state_after (ticks_due r e) r.state) e

-- the input ends at b, between records
unfoldable pub report_end : Reading → List Activity → ℕ → List ℕ
report_end r cs b = cond (at_events r) (open_lines r.table r.state.clock.0 cs apps ++ end_line r.state.clock.0) (refusal_line 14 b)

-- how the report goes on, from a reading, the activities, the byte that it has come to and the rest of the input
abbrev pub Rest : Type 0
Rest = Reading → List Activity → ℕ → List ℕ → List ℕ

-- an accepted record after its ticks, and a refused one
abbrev pub onward : Answer → Rest → Reading → List Activity → ℕ → ℕ → List ℕ → Record → List ℕ
onward Done rest r cs b n s e = told r.table cs (at_moment r e) ++ rest (record_read r e).reading (stand r.table cs (at_moment r e)) (b + n) (drop n s)
onward (Refused m) rest r cs b n s e = refusal_line m b

abbrev pub report_record : Rest → Reading → List Activity → ℕ → ℕ → List ℕ → Record → List ℕ
report_record rest r cs b n s e = told r.table cs (ticks_for r e) ++ onward (record_read r e).answer rest r (stand r.table cs (ticks_for r e)) b n s e

abbrev pub report_decoded : Rest → Reading → List Activity → ℕ → ℕ → List ℕ → Decoded → List ℕ
report_decoded rest r cs b n s (Known e) = report_record rest r cs b n s e
report_decoded rest r cs b n s (records.Refused m) = refusal_line m b

abbrev pub report_frame : Rest → Reading → List Activity → ℕ → List ℕ → Frame → List ℕ
report_frame rest r cs b s Ended = report_end r cs b
report_frame rest r cs b s Cut = refusal_line 14 b
report_frame rest r cs b s (Whole kind n) = report_decoded rest r cs b n s (decoded kind (body_of s n))

-- the report from the byte b on, where the rest s of the input has at most k bytes
unfoldable pub report_from : ℕ → Rest
report_from zero r cs b s = report_end r cs b
report_from (suc k) r cs b s = report_frame (λ r' cs' b' s'. report_from k r' cs' b' s') r cs b s (frame_of s)

-- the report of an input
unfoldable pub report : List ℕ → List ℕ
report s = report_heading ++ report_from (length s) fresh all_quiet 0 s
