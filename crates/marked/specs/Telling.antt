-- Examples that tell the rules of document 01 from wrong ones: each is chosen so that the mistake it names changes its value.
use Rattle.std.specs.Prelude.{refl, true, false, List, [], ◌∷◌, ◌++◌, ℕ, pos}
use Rattle.lists.specs.All.{All, none, more}
use Rattle.rules.specs.Limits.{nobody, usual_period}
use Rattle.rules.specs.Threads.{State, Inactive, Contending, NonContending, amt}
use Rattle.rules.specs.Table.{Table, Answered, head_answer, row_answer}
use Rattle.rules.specs.Fitting.{fit}
use Rattle.rules.specs.Run.{ran, passed}
use Rattle.rules.specs.Calls.{complete, arrive, drop, step, run, after}
use Rattle.rules.specs.Records.{Completion, moment}
use Rattle.rules.specs.Reading.{Reading, record_read}
use Rattle.rules.specs.Input.{InputRead, read_input}
use Rattle.rules.specs.Listing.{bytes, listing}
use Rattle.marked.specs.Example.{Seen, number, thread, facts, entries, Example, example, Holds, minus, row, table_of, begin, table_refusal, see, showing, shown, says, refusals}
use Rattle.marked.specs.Worked.{two, head_record, row_record, arrival_record, completion_record, run_record, drop_record}

-- Step 1: a completion with a job waiting that leaves E as it is would keep 2 here.
abbrev goes_on_later : Example
goes_on_later = example "goes-on-later"
    (shown (table_of 2 1 (row 0 1 2 ∷ [])) (arrive 0 ∷ arrive 0 ∷ step ∷ complete 0 ∷ []))
    (facts 1 0 true false ∷ thread Contending 1 (pos 2) (pos 4) ∷ [])

-- Step 1: a completion with a job waiting that sets E to W + u × P would pull the deadline back from 10 to 5.
abbrev goes_on_greater : Example
goes_on_greater = example "goes-on-greater"
    (shown (table_of 10 3 (row 1 5 4 ∷ row 0 4 3 ∷ row 1 1 10 ∷ []))
    (arrive 1 ∷ arrive 2 ∷ step ∷ arrive 2 ∷ step ∷ complete 1 ∷ step ∷ complete 2 ∷ []))
    (facts 3 2 true false ∷ thread Inactive 0 (pos 0) (pos 0) ∷ thread NonContending 0 (pos 20) (pos 24)
    ∷ thread Contending 1 (minus 5) (pos 10) ∷ [])

-- Step 1: W ≥ u × t for W > u × t would make this thread non-contending.
abbrev ends_at_equality : Example
ends_at_equality = example "ends-at-equality"
    (shown (table_of 2 1 (row 0 2 1 ∷ [])) (arrive 0 ∷ step ∷ complete 0 ∷ []))
    (facts 1 0 true false ∷ thread Inactive 0 (pos 0) (pos 0) ∷ [])

-- Step 1: giving what is freed to a thread with an earlier deadline, which is non-contending, would take 3 from thread 1.
abbrev earlier_gets_nothing : Example
earlier_gets_nothing = example "earlier-gets-nothing"
    (shown (table_of 5 2 (row 0 4 8 ∷ row 0 1 5 ∷ [])) (arrive 0 ∷ arrive 1 ∷ step ∷ complete 1 ∷ step ∷ complete 0 ∷ []))
    (facts 2 0 true false ∷ thread Inactive 0 (pos 0) (pos 0) ∷ thread NonContending 0 (pos 5) (pos 5) ∷ [])

-- Step 1: the earliest active thread, whatever its deadline, would be thread 2; what is freed goes to thread 0.
abbrev earlier_passed_over : Example
earlier_passed_over = example "earlier-passed-over"
    (shown (table_of 4 3 (row 0 1 5 ∷ row 0 2 7 ∷ row 0 1 4 ∷ []))
    (arrive 0 ∷ arrive 1 ∷ arrive 2 ∷ step ∷ complete 2 ∷ step ∷ step ∷ complete 1 ∷ []))
    (facts 3 1 true false ∷ thread Contending 1 (pos 2) (pos 10) ∷ thread Inactive 0 (pos 0) (pos 0)
    ∷ thread NonContending 0 (pos 4) (pos 4) ∷ [])

-- Step 1: receiving only with a strictly later deadline would leave thread 1 at 3; 12/2 is 6/1.
abbrev equal_receives : Example
equal_receives = example "equal-receives"
    (shown (table_of 3 2 (row 0 2 6 ∷ row 0 1 3 ∷ [])) (arrive 0 ∷ arrive 1 ∷ step ∷ step ∷ complete 0 ∷ []))
    (facts 2 0 true false ∷ thread Inactive 0 (pos 0) (pos 0) ∷ thread Contending 1 (pos 2) (pos 6) ∷ [])

-- Step 1: a receiver among the contending threads alone would leave thread 0 at 10.
abbrev non_contending_receives : Example
non_contending_receives = example "non-contending-receives"
    (shown (table_of 10 2 (row 1 3 4 ∷ row 1 7 4 ∷ [])) (arrive 0 ∷ arrive 1 ∷ step ∷ complete 0 ∷ step ∷ complete 1 ∷ []))
    (facts 2 1 true false ∷ thread NonContending 0 (pos 6) (pos 12) ∷ thread Inactive 0 (pos 0) (pos 0) ∷ [])

-- Step 1: a receiver in another application would bring thread 1 to 2.
abbrev own_application_receives : Example
own_application_receives = example "own-application-receives"
    (shown (table_of 3 2 (row 1 2 4 ∷ row 0 1 3 ∷ [])) (arrive 0 ∷ arrive 1 ∷ step ∷ step ∷ complete 0 ∷ []))
    (facts 2 0 true false ∷ thread Inactive 0 (pos 0) (pos 0) ∷ thread Contending 1 (pos 3) (pos 6) ∷ [])

-- Step 1: the highest number on a tie would give to thread 2.
abbrev lowest_receives : Example
lowest_receives = example "lowest-receives"
    (shown (table_of 10 3 (row 0 2 5 ∷ row 0 6 7 ∷ row 0 2 5 ∷ []))
    (arrive 0 ∷ arrive 1 ∷ arrive 2 ∷ step ∷ step ∷ step ∷ complete 1 ∷ []))
    (facts 3 1 true false ∷ thread Contending 1 (pos 2) (pos 20) ∷ thread Inactive 0 (pos 0) (pos 0)
    ∷ thread Contending 1 (pos 10) (pos 20) ∷ [])

-- Step 1: a completion that forgets who had the tick would show nobody.
abbrev had_stays : Example
had_stays = example "had-stays"
    (shown (table_of 2 1 (row 0 2 1 ∷ [])) (arrive 0 ∷ arrive 0 ∷ step ∷ complete 0 ∷ []))
    (facts 1 0 true false ∷ thread Contending 1 (pos 2) (pos 4) ∷ [])

-- Step 1: V rounded down to ticks, 3/2 to 1, would make this thread inactive at 1.
abbrev virtual_not_rounded : Example
virtual_not_rounded = example "virtual-not-rounded"
    (shown (table_of 3 1 (row 0 2 2 ∷ [])) (arrive 0 ∷ step ∷ complete 0 ∷ []))
    (facts 1 0 true false ∷ thread NonContending 0 (pos 3) (pos 4) ∷ [])

-- Step 2: W < u × t for W ≤ u × t would keep thread 0 active at 2, and charge thread 1 for the whole tick.
abbrev leaves_at_equality : Example
leaves_at_equality = example "leaves-at-equality"
    (shown (table_of 2 2 (row 0 1 2 ∷ row 0 1 3 ∷ [])) (arrive 0 ∷ arrive 1 ∷ step ∷ complete 0 ∷ step ∷ step ∷ []))
    (facts 3 1 false false ∷ thread Inactive 0 (pos 0) (pos 0) ∷ thread Contending 1 (pos 3) (pos 3) ∷ [])

-- Step 2: without leaving before the arrival, thread 1 would arrive non-contending and keep W = 3.
abbrev leaves_before_arrival : Example
leaves_before_arrival = example "leaves-before-arrival"
    (shown (table_of 3 2 (row 1 1 6 ∷ row 0 2 3 ∷ [])) (arrive 0 ∷ arrive 1 ∷ step ∷ complete 1 ∷ step ∷ arrive 1 ∷ []))
    (facts 2 0 false true ∷ thread Contending 1 (pos 3) (pos 6) ∷ thread Contending 1 (pos 4) (pos 10) ∷ [])

-- Step 2: leaving when a tick ends, and not at the next arrival or tick, would make thread 0 inactive already.
abbrev leaves_not_yet : Example
leaves_not_yet = example "leaves-not-yet"
    (shown (table_of 10 2 (row 0 5 4 ∷ row 1 5 4 ∷ [])) (arrive 0 ∷ arrive 1 ∷ step ∷ step ∷ complete 0 ∷ step ∷ step ∷ []))
    (facts 4 1 false false ∷ thread NonContending 0 (pos 20) (pos 20) ∷ thread Contending 1 (pos 20) (pos 20) ∷ [])

-- Step 3: an arrival at a non-contending thread that sets W to u × t would give 1 and 3, one that leaves E would give 2 and 2.
abbrev returns_with_its_w : Example
returns_with_its_w = example "returns-with-its-w"
    (shown (table_of 2 1 (row 1 1 2 ∷ [])) (arrive 0 ∷ step ∷ complete 0 ∷ arrive 0 ∷ []))
    (facts 1 0 true true ∷ thread Contending 1 (pos 2) (pos 4) ∷ [])

-- Step 3: an arrival at a contending thread that sets its deadline anew would give 5 or 8 for 4.
abbrev waits_behind : Example
waits_behind = example "waits-behind"
    (shown (table_of 4 1 (row 0 1 4 ∷ [])) (arrive 0 ∷ step ∷ arrive 0 ∷ []))
    (facts 1 0 false true ∷ thread Contending 2 (pos 4) (pos 4) ∷ [])

-- Step 3: an arrival that counts W from 0 would give 0 and 4 at moment 2.
abbrev arrives_now : Example
arrives_now = example "arrives-now"
    (shown (table_of 4 2 (row 0 1 4 ∷ row 0 3 2 ∷ [])) (arrive 1 ∷ step ∷ step ∷ arrive 0 ∷ []))
    (facts 2 1 false true ∷ thread Contending 1 (pos 2) (pos 6) ∷ thread Contending 1 (pos 6) (pos 6) ∷ [])

-- Step 4: postponing only where W has passed, or has reached, the deadline would leave E = 3 under W = 4.
abbrev coming_tick_fits : Example
coming_tick_fits = example "coming-tick-fits"
    (shown (table_of 2 1 (row 0 1 3 ∷ [])) (arrive 0 ∷ step ∷ step ∷ []))
    (facts 2 0 false false ∷ thread Contending 1 (pos 4) (pos 6) ∷ [])

-- Step 4: ≤ for < would postpone a deadline that the coming tick just fits.
abbrev just_fits : Example
just_fits = example "just-fits"
    (shown (table_of 2 1 (row 1 2 1 ∷ [])) (arrive 0 ∷ step ∷ []))
    (facts 1 0 false false ∷ thread Contending 1 (pos 2) (pos 2) ∷ [])

-- Step 4: room for Q, where only Q − r is charged, would postpone to 4.
abbrev fits_the_charge : Example
fits_the_charge = example "fits-the-charge"
    (shown (table_of 2 2 (row 0 1 2 ∷ row 0 1 2 ∷ [])) (arrive 1 ∷ step ∷ step ∷ []))
    (facts 2 1 false false ∷ thread Inactive 0 (pos 0) (pos 0) ∷ thread Contending 1 (pos 2) (pos 2) ∷ [])

-- Step 4: fitting only the chosen thread would leave thread 0 with E = 6, although an arrival beside it took its room.
abbrev all_fitted : Example
all_fitted = example "all-fitted"
    (shown (table_of 6 3 (row 0 2 3 ∷ row 0 2 3 ∷ row 1 2 3 ∷ [])) (arrive 0 ∷ step ∷ arrive 1 ∷ arrive 2 ∷ step ∷ []))
    (facts 2 1 false false ∷ thread Contending 1 (pos 4) (pos 12) ∷ thread Contending 1 (pos 8) (pos 8)
    ∷ thread Contending 1 (pos 2) (pos 8) ∷ [])

-- Step 5: the highest number on a tie would grant to thread 1.
abbrev lowest_chosen : Example
lowest_chosen = example "lowest-chosen"
    (shown (table_of 2 2 (row 1 1 2 ∷ row 1 1 2 ∷ [])) (arrive 0 ∷ arrive 1 ∷ step ∷ []))
    (facts 1 0 false false ∷ thread Contending 1 (pos 2) (pos 2) ∷ thread Contending 1 (pos 0) (pos 2) ∷ [])

-- Step 5: deadlines rounded down to ticks, 13/2 to 6, would grant to thread 0.
abbrev not_rounded_down : Example
not_rounded_down = example "not-rounded-down"
    (shown (table_of 3 2 (row 0 2 5 ∷ row 0 1 6 ∷ [])) (arrive 1 ∷ arrive 0 ∷ step ∷ complete 0 ∷ arrive 0 ∷ step ∷ []))
    (facts 2 1 false false ∷ thread Contending 1 (pos 3) (pos 13) ∷ thread Contending 1 (pos 3) (pos 6) ∷ [])

-- Step 5: deadlines rounded up to ticks, 10/3 to 4, would grant to thread 0.
abbrev not_rounded_up : Example
not_rounded_up = example "not-rounded-up"
    (shown (table_of 4 2 (row 1 1 4 ∷ row 1 3 2 ∷ [])) (arrive 1 ∷ arrive 0 ∷ step ∷ complete 1 ∷ arrive 1 ∷ step ∷ []))
    (facts 2 1 false false ∷ thread Contending 1 (pos 0) (pos 4) ∷ thread Contending 1 (pos 8) (pos 10) ∷ [])

-- Step 5: a choice among active threads would grant this tick, and an idle tick that leaves threads alone would keep W = 2.
abbrev only_contending_chosen : Example
only_contending_chosen = example "only-contending-chosen"
    (shown (table_of 2 1 (row 1 1 2 ∷ [])) (arrive 0 ∷ step ∷ complete 0 ∷ step ∷ []))
    (facts 2 nobody false false ∷ thread Inactive 0 (pos 0) (pos 0) ∷ [])

-- Step 6: a charge of Q would give 2; handing its free share to the chosen thread's own application as well would give 0.
abbrev charged_less_free : Example
charged_less_free = example "charged-less-free"
    (shown (table_of 2 2 (row 0 1 2 ∷ row 0 1 2 ∷ [])) (arrive 1 ∷ step ∷ []))
    (facts 1 1 false false ∷ thread Inactive 0 (pos 0) (pos 0) ∷ thread Contending 1 (pos 1) (pos 2) ∷ [])

-- Step 6: a charge of u would give 1.
abbrev charged_whole : Example
charged_whole = example "charged-whole"
    (shown (table_of 2 1 (row 1 1 2 ∷ [])) (arrive 0 ∷ step ∷ []))
    (facts 1 0 false false ∷ thread Contending 1 (pos 2) (pos 2) ∷ [])

-- Step 6: the free share over all applications would charge 1.
abbrev free_share_of_its_own : Example
free_share_of_its_own = example "free-share-of-its-own"
    (shown (table_of 2 2 (row 0 1 2 ∷ row 1 1 2 ∷ [])) (arrive 1 ∷ step ∷ []))
    (facts 1 1 false false ∷ thread Inactive 0 (pos 0) (pos 0) ∷ thread Contending 1 (pos 2) (pos 2) ∷ [])

-- Step 6: a non-contending thread taken as inactive would charge thread 1 only 1.
abbrev non_contending_is_active : Example
non_contending_is_active = example "non-contending-is-active"
    (shown (table_of 2 2 (row 0 1 2 ∷ row 0 1 3 ∷ [])) (arrive 0 ∷ arrive 1 ∷ step ∷ complete 0 ∷ step ∷ []))
    (facts 2 1 false false ∷ thread NonContending 0 (pos 2) (pos 2) ∷ thread Contending 1 (pos 2) (pos 3) ∷ [])

-- Step 6: without the free share of the other applications thread 2 would stay at 0.
abbrev others_benefit : Example
others_benefit = example "others-benefit"
    (shown (table_of 3 3 (row 0 1 3 ∷ row 1 1 3 ∷ row 1 1 3 ∷ [])) (arrive 2 ∷ arrive 0 ∷ step ∷ []))
    (facts 1 0 false false ∷ thread Contending 1 (pos 3) (pos 3) ∷ thread Inactive 0 (pos 0) (pos 0)
    ∷ thread Contending 1 (minus 1) (pos 3) ∷ [])

-- Step 6: a beneficiary among the contending threads alone would leave thread 0 at 5.
abbrev non_contending_benefits : Example
non_contending_benefits = example "non-contending-benefits"
    (shown (table_of 6 3 (row 0 3 2 ∷ row 0 1 6 ∷ row 1 1 6 ∷ [])) (arrive 0 ∷ arrive 2 ∷ step ∷ complete 0 ∷ step ∷ []))
    (facts 2 2 false false ∷ thread NonContending 0 (pos 4) (pos 6) ∷ thread Inactive 0 (pos 0) (pos 0)
    ∷ thread Contending 1 (pos 6) (pos 6) ∷ [])

-- Step 6: the highest number on a tie would take from thread 2.
abbrev lowest_benefits : Example
lowest_benefits = example "lowest-benefits"
    (shown (table_of 5 4 (row 1 1 5 ∷ row 0 1 5 ∷ row 0 2 5 ∷ row 0 1 7 ∷ [])) (arrive 0 ∷ arrive 1 ∷ arrive 2 ∷ step ∷ []))
    (facts 1 0 false false ∷ thread Contending 1 (pos 5) (pos 5) ∷ thread Contending 1 (minus 1) (pos 5)
    ∷ thread Contending 1 (pos 0) (pos 10) ∷ thread Inactive 0 (pos 0) (pos 0) ∷ [])

-- Step 6: a new moment in which a completion was accepted already, or an arrival, would show it here.
abbrev moment_opens : Example
moment_opens = example "moment-opens"
    (shown (table_of 2 1 (row 0 1 2 ∷ [])) (arrive 0 ∷ arrive 0 ∷ step ∷ complete 0 ∷ arrive 0 ∷ step ∷ []))
    (facts 2 0 false false ∷ thread Contending 2 (pos 4) (pos 4) ∷ [])

-- A drop that takes the head too would leave no job, one that takes one job would leave 2.
abbrev drop_leaves_head : Example
drop_leaves_head = example "drop-leaves-head"
    (shown (table_of 2 1 (row 0 1 2 ∷ [])) (arrive 0 ∷ arrive 0 ∷ arrive 0 ∷ drop 0 ∷ []))
    (facts 0 nobody false true ∷ thread Contending 1 (pos 0) (pos 2) ∷ [])

-- A drop changes nothing where there is one job, and closes no moment: the completion is accepted.
abbrev drop_of_one : Example
drop_of_one = example "drop-of-one"
    (shown (table_of 2 1 (row 0 2 1 ∷ [])) (arrive 0 ∷ step ∷ drop 0 ∷ complete 0 ∷ []))
    (facts 1 0 true false ∷ thread Inactive 0 (pos 0) (pos 0) ∷ [])

-- A drop that brings on step 2 would make thread 0 inactive.
abbrev drop_brings_no_leaving : Example
drop_brings_no_leaving = example "drop-brings-no-leaving"
    (shown (table_of 10 2 (row 0 5 4 ∷ row 1 5 4 ∷ []))
    (arrive 0 ∷ arrive 1 ∷ step ∷ step ∷ complete 0 ∷ step ∷ step ∷ drop 1 ∷ []))
    (facts 4 1 false false ∷ thread NonContending 0 (pos 20) (pos 20) ∷ thread Contending 1 (pos 20) (pos 20) ∷ [])

-- ---- refusals at a moment
-- two threads that take turns, each in an application of its own
abbrev sharing : Table
sharing = table_of 2 2 (row 0 1 2 ∷ row 1 1 2 ∷ [])

-- Refusals: 9 before 10 would answer 9 to a thread that had no tick, after an arrival.
abbrev ten_before_nine : Example
ten_before_nine = example "ten-before-nine"
    (entries (refusals (begin sharing) (arrive 0 ∷ complete 1 ∷ step ∷ arrive 1 ∷ complete 0 ∷ complete 2 ∷ [])) ∷ [])
    (entries (0 ∷ 10 ∷ 0 ∷ 0 ∷ 10 ∷ 8 ∷ []) ∷ [])

-- Refusals: 9 for a thread other than the one that had the tick, for a second completion, and after an idle tick.
abbrev nine : Example
nine = example "nine"
    (entries (refusals (begin sharing)
    (arrive 0 ∷ arrive 0 ∷ step ∷ complete 1 ∷ complete 0 ∷ complete 0 ∷ step ∷ complete 0 ∷ step ∷ complete 0 ∷ [])) ∷ [])
    (entries (0 ∷ 0 ∷ 0 ∷ 9 ∷ 0 ∷ 9 ∷ 0 ∷ 0 ∷ 0 ∷ 9 ∷ []) ∷ [])

-- ---- runs
-- thread 0 has tick 0, thread 1 tick 1, thread 0 tick 2
abbrev turns : State
turns = after (begin sharing) (arrive 0 ∷ arrive 1 ∷ [])

-- Runs: one that steps once and fills the row with that entry would write 0 and 0, one that clears the rest would write over 7.
abbrev run_fills_its_part : Example
run_fills_its_part = example "run-fills-its-part"
    (entries (ran turns 3 (7 ∷ 7 ∷ 7 ∷ 7 ∷ 7 ∷ [])).row ∷ showing (ran turns 3 (7 ∷ 7 ∷ 7 ∷ 7 ∷ 7 ∷ [])).result.state)
    (entries (0 ∷ 1 ∷ 0 ∷ 7 ∷ 7 ∷ []) ∷ facts 3 0 false false ∷ thread Contending 1 (pos 4) (pos 4)
    ∷ thread Contending 1 (pos 2) (pos 4) ∷ [])

-- nothing has arrived
abbrev quiet : State
quiet = begin (table_of 2 1 (row 0 1 2 ∷ []))

-- Runs: an idle tick is 65,535, and a row of exactly the run is long enough.
abbrev run_of_idle_ticks : Example
run_of_idle_ticks = example "run-of-idle-ticks"
    (says (ran quiet 2 (7 ∷ 7 ∷ [])).result.answer ∷ entries (ran quiet 2 (7 ∷ 7 ∷ [])).row ∷ [])
    (number 0 ∷ entries (65535 ∷ 65535 ∷ []) ∷ [])

-- Runs: a refused one that writes would change the row that is lent.
abbrev refused_run_writes_nothing : Example
refused_run_writes_nothing = example "refused-run-writes-nothing"
    (says (ran turns 3 (7 ∷ 8 ∷ [])).result.answer ∷ entries (ran turns 3 (7 ∷ 8 ∷ [])).row
    ∷ says (ran turns 2147483648 (7 ∷ 8 ∷ [])).result.answer ∷ entries (ran turns 2147483648 (7 ∷ 8 ∷ [])).row
    ∷ says (ran (after turns (step ∷ [])) 0 (7 ∷ 8 ∷ [])).result.answer
    ∷ entries (ran (after turns (step ∷ [])) 0 (7 ∷ 8 ∷ [])).row
    ∷ showing (ran turns 3 (7 ∷ 8 ∷ [])).result.state)
    (number 17 ∷ entries (7 ∷ 8 ∷ []) ∷ number 13 ∷ entries (7 ∷ 8 ∷ []) ∷ number 12 ∷ entries (7 ∷ 8 ∷ [])
    ∷ facts 0 nobody false true ∷ thread Contending 1 (pos 0) (pos 2) ∷ thread Contending 1 (pos 0) (pos 2) ∷ [])

-- Runs: 17 before 13 would answer 17 to the first; the clock's end itself is no tick beyond it.
abbrev thirteen_before_seventeen : Example
thirteen_before_seventeen = example "thirteen-before-seventeen"
    (entries (refusals turns (run 2147483648 [] ∷ run 2147483647 [] ∷ run 0 [] ∷ step ∷ run 0 [] ∷ [])) ∷ [])
    (entries (13 ∷ 17 ∷ 0 ∷ 0 ∷ 12 ∷ []) ∷ [])

-- Runs: one to the present clock that does the leaving would make thread 0 inactive.
abbrev run_to_the_present : Example
run_to_the_present = example "run-to-the-present"
    (shown (table_of 10 2 (row 0 5 4 ∷ row 1 5 4 ∷ []))
    (arrive 0 ∷ arrive 1 ∷ step ∷ step ∷ complete 0 ∷ step ∷ step ∷ run 4 [] ∷ []))
    (facts 4 1 false false ∷ thread NonContending 0 (pos 20) (pos 20) ∷ thread Contending 1 (pos 20) (pos 20) ∷ [])

-- Runs: one to the present clock keeps what the moment remembers, so the first completion is accepted and the second is not.
abbrev present_stays : Example
present_stays = example "present-stays"
    (entries (refusals turns (step ∷ run 1 [] ∷ complete 0 ∷ step ∷ arrive 0 ∷ run 2 [] ∷ complete 1 ∷ [])) ∷ [])
    (entries (0 ∷ 0 ∷ 0 ∷ 0 ∷ 0 ∷ 0 ∷ 10 ∷ []) ∷ [])

-- ---- fitting of a thread by itself
-- Step 4: fitting that is repeated until the tick fits would give 50.
abbrev fitted_once : Example
fitted_once = example "fitted-once"
    (see (fit 10
    (record { app = 0; phase = Contending; share = 1; period = 10; jobs = 1; w = amt (pos 40); e = amt (pos 10) })) ∷ [])
    (thread Contending 1 (pos 40) (pos 20) ∷ [])

-- ---- tables
-- Tables: the order 1, 2, and the ends of both ranges.
abbrev head_order : Example
head_order = example "head-order"
    (says (head_answer 0 0) ∷ says (head_answer 4097 65) ∷ says (head_answer 4096 0) ∷ says (head_answer 1 65)
    ∷ says (head_answer 4096 64)
    ∷ says (head_answer 1 1) ∷ [])
    (number 1 ∷ number 1 ∷ number 2 ∷ number 2 ∷ number 0 ∷ number 0 ∷ [])

-- a row under Q 10 after rows whose shares come to 6
abbrev row_says : ℕ → ℕ → ℕ → Seen
row_says a u p = says (row_answer usual_period 10 6 (row a u p))

-- Tables: the order 3, 4, 5, 6, 7: each row is wrong in all that comes after its number.
abbrev row_order : Example
row_order = example "row-order"
    (row_says 16 0 65537 ∷ row_says 15 0 65537 ∷ row_says 15 11 65537 ∷ row_says 15 5 65537 ∷ row_says 15 5 1 ∷ row_says 15 5 2
    ∷ row_says 15 4 65536
    ∷ row_says 0 4 3 ∷ [])
    (number 3 ∷ number 4 ∷ number 4 ∷ number 5 ∷ number 6 ∷ number 7 ∷ number 0 ∷ number 0 ∷ [])

-- Tables: a row is refused before the rows after it are looked at, and rows past the count are not looked at.
abbrev first_row_first : Example
first_row_first = example "first-row-first"
    (number (table_refusal (table_of 10 2 (row 0 2 4 ∷ row 16 2 5 ∷ [])))
    ∷ number (table_refusal (table_of 10 1 (row 0 2 5 ∷ row 16 2 5 ∷ []))) ∷ [])
    (number 6 ∷ number 0 ∷ [])

-- ---- traces
-- one thread that has the whole processor; its events begin at byte 20
abbrev small_table : List ℕ
small_table = head_record 1 1 ++ row_record 0 1 1

-- Traces: an input that ends before the last row, at byte 0, at byte 8 and inside the row.
abbrev ends_too_soon : Example
ends_too_soon = example "ends-too-soon"
    (entries (listing []) ∷ entries (listing (head_record 1 1)) ∷ entries (listing (head_record 1 1 ++ two 10 ++ two 2)) ∷ [])
    (entries (bytes "tick thread app deadline virtual\nrefused 14 at 0\n")
    ∷ entries (bytes "tick thread app deadline virtual\nrefused 14 at 8\n")
    ∷ entries (bytes "tick thread app deadline virtual\nrefused 14 at 8\n") ∷ [])

-- Traces: a cut record of unknown kind is 14, a length below 2 is 14, a whole one of unknown kind is 15 also out of place.
abbrev cut_before_kind : Example
cut_before_kind = example "cut-before-kind"
    (entries (listing (two 8 ++ two 9 ++ two 0)) ∷ entries (listing (two 1 ++ two 9)) ∷ entries (listing (two 2 ++ two 9)) ∷ [])
    (entries (bytes "tick thread app deadline virtual\nrefused 14 at 0\n")
    ∷ entries (bytes "tick thread app deadline virtual\nrefused 14 at 0\n")
    ∷ entries (bytes "tick thread app deadline virtual\nrefused 15 at 0\n") ∷ [])

-- Traces: a known kind of wrong length is 14 also out of place, and of right length out of place it is 16.
abbrev length_before_place : Example
length_before_place = example "length-before-place"
    (entries (listing (two 6 ++ two 3 ++ two 0 ++ two 0)) ∷ entries (listing (arrival_record 0 0))
    ∷ entries (listing (small_table ++ row_record 0 1 1))
    ∷ entries (listing (small_table ++ head_record 1 1)) ∷ [])
    (entries (bytes "tick thread app deadline virtual\nrefused 14 at 0\n")
    ∷ entries (bytes "tick thread app deadline virtual\nrefused 16 at 0\n")
    ∷ entries (bytes "tick thread app deadline virtual\nrefused 16 at 20\n")
    ∷ entries (bytes "tick thread app deadline virtual\nrefused 16 at 20\n") ∷ [])

-- Traces: the order 13, 12, 8, and no tick is listed for them.
abbrev before_the_ticks : Example
before_the_ticks = example "before-the-ticks"
    (entries (listing (small_table ++ arrival_record 2147483648 1))
    ∷ entries (listing (small_table ++ run_record 1 ++ arrival_record 0 1))
    ∷ entries (listing (small_table ++ drop_record 5 1)) ∷ [])
    (entries (bytes "tick thread app deadline virtual\nrefused 13 at 20\n")
    ∷ entries (bytes "tick thread app deadline virtual\n0 - - - -\nrefused 12 at 28\n")
    ∷ entries (bytes "tick thread app deadline virtual\nrefused 8 at 20\n") ∷ [])

-- Traces: the ticks before a completion that is refused 10 or 9 stay listed, and nothing is read after it.
abbrev ticks_stay_listed : Example
ticks_stay_listed = example "ticks-stay-listed"
    (entries (listing (small_table ++ arrival_record 1 0 ++ completion_record 1 0 ++ run_record 9))
    ∷ entries (listing (small_table ++ completion_record 2 0)) ∷ [])
    (entries (bytes "tick thread app deadline virtual\n0 - - - -\nrefused 10 at 30\n")
    ∷ entries (bytes "tick thread app deadline virtual\n0 - - - -\n1 - - - -\nrefused 9 at 20\n") ∷ [])

-- Traces: a drop takes the waiting job, so the completion after it ends the thread, and tick 2 is idle.
abbrev drop_in_a_trace : Example
drop_in_a_trace = example "drop-in-a-trace"
    (entries (listing (small_table ++ arrival_record 0 0 ++ arrival_record 0 0
    ++ drop_record 2 0 ++ completion_record 2 0 ++ run_record 3)) ∷ [])
    (entries (bytes "tick thread app deadline virtual\n0 0 0 1 1\n1 0 0 2 2\n2 - - - -\nend 3\n") ∷ [])

-- Traces: a negative W is written with its sign, and E as it is after fitting.
abbrev negative_listed : Example
negative_listed = example "negative-listed"
    (entries (listing (head_record 10 3 ++ row_record 1 2 5 ++ row_record 0 3 10 ++ row_record 0 5 10
    ++ arrival_record 0 0 ++ arrival_record 0 1 ++ run_record 3)) ∷ [])
    (entries (bytes "tick thread app deadline virtual\n0 0 1 10 10\n1 0 1 20 20\n2 1 0 30 -5\nend 3\n") ∷ [])

-- the schedule of that table, and a reading that has come to its events
abbrev small_state : State
small_state = begin (table_of 1 1 (row 0 1 1 ∷ []))

abbrev small_reading : Reading
small_reading = record {
  table = record { q = 1; threads = 1; rows = row 0 1 1 ∷ [] };
  rows = 1;
  state = small_state;
}

-- Traces: a refused record gives back the reading before the ticks that were run for it.
abbrev back_before_the_ticks : Example
back_before_the_ticks = example "back-before-the-ticks"
    (says (record_read small_reading (Completion (moment 2) 0)).answer
    ∷ showing (record_read small_reading (Completion (moment 2) 0)).reading.state)
    (number 9 ∷ facts 0 nobody false false ∷ thread Inactive 0 (pos 0) (pos 0) ∷ [])

-- what an input and a run without a row answer
abbrev read_to : InputRead → List Seen
read_to x = says x.answer ∷ number x.at ∷ number x.reading.state.clock.0 ∷ []

abbrev passed_to : Answered → List Seen
passed_to x = says x.answer ∷ number x.state.clock.0 ∷ []

-- Inputs: the answer, the byte that it is given at, and the clock of the reading up to there. An input read to its end; one
-- with a second completion; one whose last record is refused at its moment, after two ticks that are not kept; one that ends
-- before its row, inside it, and inside an event.
abbrev inputs_read : Example
inputs_read = example "inputs-read"
    (read_to (read_input (small_table ++ arrival_record 0 0 ++ run_record 2))
    ++ read_to (read_input (small_table ++ arrival_record 1 0 ++ completion_record 3 0 ++ completion_record 3 0 ++ run_record 9))
    ++ read_to (read_input (small_table ++ run_record 1 ++ completion_record 3 0))
    ++ read_to (read_input (head_record 1 1)) ++ read_to (read_input (head_record 1 1 ++ two 10 ++ two 2))
    ++ read_to (read_input (small_table ++ two 8 ++ two 3)))
    (number 0 ∷ number 38 ∷ number 2 ∷ number 9 ∷ number 40 ∷ number 3 ∷ number 9 ∷ number 28 ∷ number 1
    ∷ number 14 ∷ number 8 ∷ number 0 ∷ number 14 ∷ number 8 ∷ number 0 ∷ number 14 ∷ number 20 ∷ number 0 ∷ [])

-- Runs without a row: two ticks, none, and refused 12 and 13.
abbrev passes : Example
passes = example "passes"
    (passed_to (passed small_state 2) ++ passed_to (passed (passed small_state 2).state 2)
    ++ passed_to (passed (passed small_state 2).state 1) ++ passed_to (passed small_state 2147483648))
    (number 0 ∷ number 2 ∷ number 0 ∷ number 2 ∷ number 12 ∷ number 2 ∷ number 13 ∷ number 0 ∷ [])

pub telling : List Example
telling =
    goes_on_later
    ∷ goes_on_greater
    ∷ ends_at_equality
    ∷ earlier_gets_nothing
    ∷ earlier_passed_over
    ∷ equal_receives
    ∷ non_contending_receives
    ∷ own_application_receives
    ∷ lowest_receives
    ∷ had_stays
    ∷ virtual_not_rounded
    ∷ leaves_at_equality
    ∷ leaves_before_arrival
    ∷ leaves_not_yet
    ∷ returns_with_its_w
    ∷ waits_behind
    ∷ arrives_now
    ∷ coming_tick_fits
    ∷ just_fits
    ∷ fits_the_charge
    ∷ all_fitted
    ∷ lowest_chosen
    ∷ not_rounded_down
    ∷ not_rounded_up
    ∷ only_contending_chosen
    ∷ charged_less_free
    ∷ charged_whole
    ∷ free_share_of_its_own
    ∷ non_contending_is_active
    ∷ others_benefit
    ∷ non_contending_benefits
    ∷ lowest_benefits
    ∷ moment_opens
    ∷ drop_leaves_head
    ∷ drop_of_one
    ∷ drop_brings_no_leaving
    ∷ ten_before_nine
    ∷ nine
    ∷ run_fills_its_part
    ∷ run_of_idle_ticks
    ∷ refused_run_writes_nothing
    ∷ thirteen_before_seventeen
    ∷ run_to_the_present
    ∷ present_stays
    ∷ fitted_once
    ∷ head_order
    ∷ row_order
    ∷ first_row_first
    ∷ ends_too_soon
    ∷ cut_before_kind
    ∷ length_before_place
    ∷ before_the_ticks
    ∷ ticks_stay_listed
    ∷ drop_in_a_trace
    ∷ negative_listed
    ∷ back_before_the_ticks
    ∷ inputs_read
    ∷ passes
    ∷ []

pub telling_hold : All Holds telling
unfolding Holds telling
telling_hold =
    more {x = goes_on_later} refl (
    more {x = goes_on_greater} refl (
    more {x = ends_at_equality} refl (
    more {x = earlier_gets_nothing} refl (
    more {x = earlier_passed_over} refl (
    more {x = equal_receives} refl (
    more {x = non_contending_receives} refl (
    more {x = own_application_receives} refl (
    more {x = lowest_receives} refl (
    more {x = had_stays} refl (
    more {x = virtual_not_rounded} refl (
    more {x = leaves_at_equality} refl (
    more {x = leaves_before_arrival} refl (
    more {x = leaves_not_yet} refl (
    more {x = returns_with_its_w} refl (
    more {x = waits_behind} refl (
    more {x = arrives_now} refl (
    more {x = coming_tick_fits} refl (
    more {x = just_fits} refl (
    more {x = fits_the_charge} refl (
    more {x = all_fitted} refl (
    more {x = lowest_chosen} refl (
    more {x = not_rounded_down} refl (
    more {x = not_rounded_up} refl (
    more {x = only_contending_chosen} refl (
    more {x = charged_less_free} refl (
    more {x = charged_whole} refl (
    more {x = free_share_of_its_own} refl (
    more {x = non_contending_is_active} refl (
    more {x = others_benefit} refl (
    more {x = non_contending_benefits} refl (
    more {x = lowest_benefits} refl (
    more {x = moment_opens} refl (
    more {x = drop_leaves_head} refl (
    more {x = drop_of_one} refl (
    more {x = drop_brings_no_leaving} refl (
    more {x = ten_before_nine} refl (
    more {x = nine} refl (
    more {x = run_fills_its_part} refl (
    more {x = run_of_idle_ticks} refl (
    more {x = refused_run_writes_nothing} refl (
    more {x = thirteen_before_seventeen} refl (
    more {x = run_to_the_present} refl (
    more {x = present_stays} refl (
    more {x = fitted_once} refl (
    more {x = head_order} refl (
    more {x = row_order} refl (
    more {x = first_row_first} refl (
    more {x = ends_too_soon} refl (
    more {x = cut_before_kind} refl (
    more {x = length_before_place} refl (
    more {x = before_the_ticks} refl (
    more {x = ticks_stay_listed} refl (
    more {x = drop_in_a_trace} refl (
    more {x = negative_listed} refl (
    more {x = back_before_the_ticks} refl (
    more {x = inputs_read} refl (
    more {x = passes} refl (
    none))))))))))))))))))))))))))))))))))))))))))))))))))))))))))
