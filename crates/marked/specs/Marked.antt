-- Document 01, "Marked examples, proved together as one statement over one list".
use Rattle.std.specs.Prelude.{refl, List, [], ◌∷◌, ℕ, ℤ, pos, set}
use Rattle.lists.specs.All.{All, none, more}
use Rattle.rules.specs.Limits.{nobody}
use Rattle.rules.specs.Threads.{Thread, Phase, Equal, Inactive, Contending, NonContending, amt, scaled, at, compare}
use Rattle.rules.specs.Table.{Table, Done, Refused}
use Rattle.rules.specs.Completion.{goes_on, ends, freed, receiver, completing, completion}
use Rattle.rules.specs.Leaving.{leave}
use Rattle.rules.specs.Step.{Grant, Idle, ready, stepped}
use Rattle.rules.specs.Calls.{arrive, complete, step, after}
use Rattle.rules.specs.Records.{Whole, Known, Arrival, frame_of, decoded, body_of, moment}
use Rattle.rules.specs.Listing.{bytes, listing}
use Rattle.marked.specs.Example.{number, amount, thread, answer, outcome, order, entries, framed, means, Example, example, Holds, minus, row, table_of, begin, table_says, w, see, look}
use Rattle.marked.specs.Worked.{at0, at2, at5, at6, at7, at8, arrival_record, trace, text}

-- "M1: after tick 1 of the run above, thread 0 has W = −4."
abbrev m1 : Example
m1 = example "M1"
    (amount (w at2 0) ∷ [])
    (amount (minus 4) ∷ [])

-- "M2: at 5, thread 0 has W = 6, so 9 goes to thread 1: 4 becomes −5."
abbrev m2 : Example
m2 = example "M2"
    (answer (completion at5 0).answer ∷ amount (w at5 0) ∷ amount (freed 5 (at at5.threads 0)) ∷ amount (w at5 1)
    ∷ amount (w (after at5 (complete 0 ∷ [])) 1) ∷ [])
    (answer Done ∷ amount (pos 6) ∷ amount (pos 9) ∷ amount (pos 4) ∷ amount (minus 5) ∷ [])

-- "M3: tick 5 is a tie, 24/2 and 60/5; thread 1 has it."
abbrev before_tick_5 : List Thread
before_tick_5 = (ready (after at5 (complete 0 ∷ []))).threads

abbrev m3 : Example
m3 = example "M3"
    (amount (at before_tick_5 1).e.0 ∷ number (at before_tick_5 1).share ∷ amount (at before_tick_5 2).e.0
    ∷ number (at before_tick_5 2).share ∷ order (compare (at before_tick_5 1) (at before_tick_5 2))
    ∷ outcome (stepped (after at5 (complete 0 ∷ []))).outcome ∷ [])
    (amount (pos 24) ∷ number 2 ∷ amount (pos 60) ∷ number 5 ∷ order Equal ∷ outcome (Grant 1) ∷ [])

-- "M4: at 6 nobody can take thread 1's 10; it is lost.": the threads beside it stay as they were
abbrev finishing : Thread
finishing = at at6.threads 1

abbrev m4 : Example
m4 = example "M4"
    (amount (freed 6 finishing) ∷ number (receiver 3 finishing (set at6.threads 1 (ends finishing))) ∷ look at6 0
    ∷ look at6 2
    ∷ look (after at6 (complete 1 ∷ [])) 0 ∷ look (after at6 (complete 1 ∷ [])) 1 ∷ look (after at6 (complete 1 ∷ [])) 2 ∷ [])
    (amount (pos 10) ∷ number nobody ∷ thread Inactive 0 (pos 0) (pos 0) ∷ thread Contending 1 (pos 40) (pos 60)
    ∷ thread Inactive 0 (pos 0) (pos 0) ∷ thread Inactive 0 (pos 0) (pos 0) ∷ thread Contending 1 (pos 40) (pos 60) ∷ [])

-- "M5: at 7, thread 2 has W = 50 > 35: non-contending, then inactive through the idle tick."
abbrev m5 : Example
m5 = example "M5"
    (amount (w at7 2) ∷ amount (scaled (at at7.threads 2) 7) ∷ look (after at7 (complete 2 ∷ [])) 2
    ∷ outcome (stepped (after at7 (complete 2 ∷ []))).outcome ∷ look at8 2 ∷ [])
    (amount (pos 50) ∷ amount (pos 35) ∷ thread NonContending 0 (pos 50) (pos 60) ∷ outcome Idle
    ∷ thread Inactive 0 (pos 0) (pos 0) ∷ [])

-- "M6: u 3, P 10, a completion with W = −5, E = 30 and a job waiting: E stays 30. With W = 6 it is 36."
-- A thread of that share and period with these numbers; and the same by calls: thread 1 of the table below after tick 2, and
-- thread 0 of the listing's run with a second job.
abbrev waits : ℤ → Thread
waits v = record { app = 0; phase = Contending; share = 3; period = 10; jobs = 2; w = amt v; e = amt (pos 30) }

abbrev overtaken : Table
overtaken = table_of 10 3 (row 1 2 5 ∷ row 0 3 10 ∷ row 0 5 10 ∷ [])

abbrev m6 : Example
m6 = example "M6"
    (see (goes_on (waits (minus 5))) ∷ see (goes_on (waits (pos 6)))
    ∷ look (after (begin overtaken) (arrive 0 ∷ arrive 1 ∷ arrive 1 ∷ step ∷ step ∷ step ∷ [])) 1
    ∷ look (after (begin overtaken) (arrive 0 ∷ arrive 1 ∷ arrive 1 ∷ step ∷ step ∷ step ∷ complete 1 ∷ [])) 1
    ∷ look (after (after at2 (arrive 0 ∷ arrive 1 ∷ step ∷ step ∷ step ∷ [])) (complete 0 ∷ [])) 0 ∷ [])
    (thread Contending 1 (minus 5) (pos 30) ∷ thread Contending 1 (pos 6) (pos 36) ∷ thread Contending 2 (minus 5) (pos 30)
    ∷ thread Contending 1 (minus 5) (pos 30) ∷ thread Contending 1 (pos 6) (pos 36) ∷ [])

-- "M7: u 5, W = 20: non-contending at 3, inactive at 4."
-- A completion of such a thread at 3 and at 4; the leaving of a non-contending one at 3 and at 4; and the same by calls, the
-- tick of 3 and the tick of 4 taken by another thread.
abbrev ahead : Phase → ℕ → Thread
ahead p n = record { app = 0; phase = p; share = 5; period = 4; jobs = n; w = amt (pos 20); e = amt (pos 20) }

abbrev completed_at : ℕ → List Thread
completed_at t = completing t 1 0 (ahead Contending 1) (ahead Contending 1 ∷ [])

abbrev pair : Table
pair = table_of 10 2 (row 0 5 4 ∷ row 1 5 4 ∷ [])

abbrev m7 : Example
m7 = example "M7"
    (see (at (completed_at 3) 0) ∷ see (at (completed_at 4) 0) ∷ see (leave 3 (ahead NonContending 0))
    ∷ see (leave 4 (ahead NonContending 0))
    ∷ look (after (begin pair) (arrive 0 ∷ arrive 1 ∷ step ∷ step ∷ complete 0 ∷ step ∷ step ∷ [])) 0
    ∷ look (after (begin pair) (arrive 0 ∷ arrive 1 ∷ step ∷ step ∷ complete 0 ∷ step ∷ step ∷ step ∷ [])) 0 ∷ [])
    (thread NonContending 0 (pos 20) (pos 20) ∷ thread Inactive 0 (pos 0) (pos 0) ∷ thread NonContending 0 (pos 20) (pos 20)
    ∷ thread Inactive 0 (pos 0) (pos 0) ∷ thread NonContending 0 (pos 20) (pos 20) ∷ thread Inactive 0 (pos 0) (pos 0) ∷ [])

-- "M8: Q 10, u 2: P 5 admitted, P 4 refused 6."
abbrev m8 : Example
m8 = example "M8"
    (answer (table_says (table_of 10 1 (row 0 2 5 ∷ []))) ∷ answer (table_says (table_of 10 1 (row 0 2 4 ∷ []))) ∷ [])
    (answer Done ∷ answer (Refused 6) ∷ [])

-- "M9: Q 10, shares 6 and 4 admitted; 6 and 5 refused 7."
abbrev m9 : Example
m9 = example "M9"
    (answer (table_says (table_of 10 2 (row 0 6 10 ∷ row 0 4 10 ∷ [])))
    ∷ answer (table_says (table_of 10 2 (row 0 6 10 ∷ row 0 5 10 ∷ [])))
    ∷ [])
    (answer Done ∷ answer (Refused 7) ∷ [])

-- "M10: a completion at moment 0 is refused 9."
abbrev m10 : Example
m10 = example "M10"
    (answer (completion at0 0).answer ∷ answer (completion at0 1).answer ∷ answer (completion at0 2).answer ∷ [])
    (answer (Refused 9) ∷ answer (Refused 9) ∷ answer (Refused 9) ∷ [])

-- "Arrival at tick 2 of thread 1: `08 00 03 00 02 00 00 00 01 00`."
abbrev arrival_record_lem : Example
arrival_record_lem = example "record"
    (entries (arrival_record 2 1) ∷ framed (frame_of (arrival_record 2 1)) ∷ means (decoded 3 (body_of (arrival_record 2 1) 10)) ∷ [])
    (entries (0x08 ∷ 0x00 ∷ 0x03 ∷ 0x00 ∷ 0x02 ∷ 0x00 ∷ 0x00 ∷ 0x00 ∷ 0x01 ∷ 0x00 ∷ [])
    ∷ framed (Whole 3 10) ∷ means (Known (Arrival (moment 2) 1)) ∷ [])

-- "Input: Q 10; rows .. ; arrivals .. ; completions .. ; run to 8.", and the text under it
abbrev whole_listing : Example
whole_listing = example "listing"
    (entries (listing trace) ∷ number at8.clock.0 ∷ [])
    (entries (bytes text) ∷ number 8 ∷ [])

pub marked : List Example
marked =
    m1
    ∷ m2
    ∷ m3
    ∷ m4
    ∷ m5
    ∷ m6
    ∷ m7
    ∷ m8
    ∷ m9
    ∷ m10
    ∷ arrival_record_lem
    ∷ whole_listing
    ∷ []

pub marked_hold : All Holds marked
unfolding Holds marked
marked_hold =
    more {x = m1} refl (
    more {x = m2} refl (
    more {x = m3} refl (
    more {x = m4} refl (
    more {x = m5} refl (
    more {x = m6} refl (
    more {x = m7} refl (
    more {x = m8} refl (
    more {x = m9} refl (
    more {x = m10} refl (
    more {x = arrival_record_lem} refl (
    more {x = whole_listing} refl (
    none))))))))))))
