-- What an example is: a name, what the rules give, and what is stated of it.
use Rattle.std.specs.Prelude.{◌≡◌, Bool, List, [], ◌∷◌, ℕ, zero, suc, ℤ, pos, ◌-ℤ◌}
use Prim.Native.String.{String}
use Rattle.lists.specs.Sum.{sum_by}
use Rattle.lists.specs.MapTo.{map_to}
use Rattle.rules.specs.Limits.{usual_period}
use Rattle.rules.specs.Threads.{Ordering, Phase, Thread, State, at, free_share, earliest, lose_at}
use Rattle.rules.specs.Table.{Row, Table, Answer, number_of, head_answer, row_answer, shares_to, rows_answer, table_answer, opened_to, start, opening}
use Rattle.rules.specs.Completion.{gives, completing, after_completion, completion}
use Rattle.rules.specs.Leaving.{leave, gone}
use Rattle.rules.specs.Arrival as arrivals
use Rattle.rules.specs.Arrival.{arrival}
use Rattle.rules.specs.Drop.{head_only, dropped}
use Rattle.rules.specs.Fitting.{fit, fitted}
use Rattle.rules.specs.Choice.{idled}
use Rattle.rules.specs.Charge.{benefits, charged, moved}
use Rattle.rules.specs.Step.{Outcome, stepped}
use Rattle.rules.specs.Run.{state_after, row_after, ran, passed}
use Rattle.rules.specs.Calls.{Call, apply, refusal_of, after}
use Rattle.rules.specs.History.{Happening, Finished, leaving_to, leavings, waking, retiring, tick_of, ticks_of, history, account}
use Rattle.rules.specs.Stretches.{Over, lost_in, granted_in, wakes, runs, rests, forgets, noted, activities, cut_to, ends, stretches, share_to, total}
use Rattle.rules.specs.Records.{Frame, Decoded, frame_of, decoded}
use Rattle.rules.specs.Reading.{before_ticks, ticks_due, event_read, record_read, read}
use Rattle.rules.specs.Input.{read_from, read_input}
use Rattle.rules.specs.Listing.{bytes, digits, line, heading, tick_line, tick_lines, ending, list_from, listing}
use Rattle.rules.specs.Report.{report_heading, over_lines, open_lines, report_end, report_from, report}

-- one thing that is seen; of a thread its phase, its jobs, W and E; of the moment its number, who had the tick just ended, and
-- whether a completion and whether an arrival was accepted at it
pub data Seen : Type 0 where
  number : ℕ → Seen
  amount : ℤ → Seen
  thread : (phase : Phase) (jobs : ℕ) (w e : ℤ) → Seen
  facts : (clock had : ℕ) (completed closed : Bool) → Seen
  answer : Answer → Seen
  outcome : Outcome → Seen
  order : Ordering → Seen
  entries : List ℕ → Seen
  whole : State → Seen
  framed : Frame → Seen
  means : Decoded → Seen
  happened : List Happening → Seen
  finished : List Finished → Seen
  ended : List Over → Seen

pub data Example : Type 0 where
  example : (name : String) (given stated : List Seen) → Example

-- −n
abbrev pub minus : ℕ → ℤ
minus n = pos 0 -ℤ pos n

abbrev pub row : ℕ → ℕ → ℕ → Row
row a u p = record { app = a; share = u; period = p }

abbrev pub table_of : ℕ → ℕ → List Row → Table
table_of q n rows = record { q = q; threads = n; rows = rows }

-- the state that a table begins with, 0 standing for the usual period
abbrev pub begin : Table → State
begin t = start usual_period t

abbrev pub table_says : Table → Answer
table_says t = table_answer usual_period t

-- W and E of thread i, and all that changes of it
abbrev pub w : State → ℕ → ℤ
w s i = (at s.threads i).w.0

abbrev pub e : State → ℕ → ℤ
e s i = (at s.threads i).e.0

abbrev pub see : Thread → Seen
see x = thread x.phase x.jobs x.w.0 x.e.0

abbrev pub look : State → ℕ → Seen
look s i = see (at s.threads i)

-- the first n threads
unfoldable pub views : ℕ → List Thread → List Seen
views zero xs = []
views (suc n) [] = []
views (suc n) (x ∷ xs) = see x ∷ views n xs

-- all of a state but the table
abbrev pub showing : State → List Seen
showing s = facts s.clock.0 s.had s.completed s.closed ∷ views s.count s.threads

-- .. after calls from a table on
abbrev pub shown : Table → List Call → List Seen
shown t cs = showing (after (begin t) cs)

abbrev pub says : Answer → Seen
says a = number (number_of a)

-- .. of each of a sequence of calls
unfoldable pub refusals : State → List Call → List ℕ
refusals s [] = []
refusals s (c ∷ cs) = refusal_of s c ∷ refusals (apply s c) cs

-- the number of a table's refusal, and 0 for none
abbrev pub table_refusal : Table → ℕ
table_refusal t = number_of (table_says t)

-- what the rules give is what is stated, by computing with all the rules
unfoldable pub Holds : Example → Type 0
unfolding sum_by map_to free_share earliest lose_at head_answer row_answer shares_to rows_answer table_answer opened_to start opening gives completing after_completion completion leave gone arrivals.arrive arrival head_only dropped fit fitted idled benefits charged moved stepped state_after row_after ran passed after leaving_to leavings waking retiring tick_of ticks_of history account lost_in granted_in wakes runs rests forgets noted activities cut_to ends stretches share_to total frame_of decoded before_ticks ticks_due event_read record_read read read_from read_input bytes digits line heading tick_line tick_lines ending list_from listing report_heading over_lines open_lines report_end report_from report views refusals
Holds (example name given stated) = given ≡ stated
