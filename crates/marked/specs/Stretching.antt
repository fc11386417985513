-- Document 02, Item 8, in examples: its own marked one, and stretches that end with nothing lost, with a loss at a leaving, with a
-- loss at a completion, and with a gift.
use Rattle.std.specs.Prelude.{refl, Bool, true, false, List, [], ◌∷◌, ◌++◌, ℕ, ◌+◌, ◌*◌, ℤ, pos}
use Prim.Native.String.{String}
use Rattle.lists.specs.All.{All, none, more}
use Rattle.rules.specs.Threads.{amt}
use Rattle.rules.specs.Table.{Table}
use Rattle.rules.specs.Calls.{Call, complete, arrive, step, after}
use Rattle.rules.specs.History.{Happening, completed, arrived, granted, idle_tick, became_active, became_inactive, received, unreceived, history}
use Rattle.rules.specs.Stretches.{Activity, Over, lost_in, granted_in, all_quiet, activity_at, activities, stretches, app_of, share_of, ahead_of, balance}
use Rattle.rules.specs.Listing.{bytes}
use Rattle.rules.specs.Report.{report}
use Rattle.marked.specs.Example.{Seen, number, amount, entries, happened, ended, Example, example, Holds, minus, row, table_of, begin}
use Rattle.marked.specs.Worked.{table, trace, table_records, arrival_record, completion_record}

-- ---- what is seen of a table and calls from its fresh start
abbrev past_of : Table → List Call → List Happening
past_of t cs = history (begin t) cs

abbrev overs_of : Table → List Call → List Over
overs_of t cs = stretches (app_of t) all_quiet (past_of t cs)

abbrev standing_of : Table → List Call → ℕ → Activity
standing_of t cs a = activity_at (activities (app_of t) all_quiet (past_of t cs)) a

-- a stretch that ended: its application, from when to when, the ticks granted, what was lost, and whether an idle tick ended it
abbrev over : ℕ → ℕ → ℕ → ℕ → ℤ → Bool → Over
over a from to ticks lost idle = record { application = a; stretch = record { since = record { 0 = from }; granted = ticks; lost = amt lost }; until = to; idle = idle }

-- the two sides of the equation, for the application a after calls
abbrev both_sides : Table → List Call → ℕ → List Seen
both_sides t cs a = amount (ahead_of a (after (begin t) cs)) ∷ amount (balance t.q (share_of a t) (after (begin t) cs).clock.0 (standing_of t cs a).stretch) ∷ []

-- ---- "In the listing of 01, application 0 gives 5 × 6 = 10 × 2 + 10."
abbrev to_5 : List Call
to_5 = arrive 0 ∷ arrive 2 ∷ step ∷ step ∷ arrive 1 ∷ step ∷ step ∷ step ∷ complete 0 ∷ []

abbrev to_8 : List Call
to_8 = arrive 0 ∷ arrive 2 ∷ step ∷ step ∷ arrive 1 ∷ step ∷ step ∷ step ∷ complete 0 ∷ step ∷ complete 1 ∷ step ∷ complete 2 ∷ step ∷ []

abbrev the_listing's_history : Example
the_listing's_history = example "the-listing's-history"
    (happened (past_of table to_8) ∷ [])
    (happened (
    became_active 0 0
    ∷ arrived 0 0
    ∷ became_active 2 0
    ∷ arrived 2 0
    ∷ granted 2 0 (pos 20)
    ∷ granted 2 1 (pos 20)
    ∷ became_active 1 2
    ∷ arrived 1 2
    ∷ granted 2 2 (pos 40)
    ∷ granted 2 3 (pos 40)
    ∷ granted 0 4 (pos 30)
    ∷ completed 0 5
    ∷ became_inactive 0 5 (pos 9) (received 1)
    ∷ granted 1 5 (pos 24)
    ∷ completed 1 6
    ∷ became_inactive 1 6 (pos 10) unreceived
    ∷ granted 2 6 (pos 60)
    ∷ completed 2 7
    ∷ idle_tick 7
    ∷ [])
    ∷ [])

-- the gift of 9 to thread 1 at 5 is not lost; the 10 of thread 1 at 6, for which there is no receiver, are; the idle tick 7 cuts
-- the stretch of application 1 short
abbrev application_0 : Example
application_0 = example "application-0"
    (ended (overs_of table to_8) ∷ number (share_of 0 table) ∷ number (5 * 6) ∷ number (granted_in (app_of table) 0 (past_of table to_8))
    ∷ amount (lost_in (app_of table) 0 (past_of table to_8)) ∷ amount (lost_in (app_of table) 1 (past_of table to_8)) ∷ [])
    (ended (over 0 0 6 2 (pos 10) false ∷ over 1 0 7 5 (pos 0) true ∷ []) ∷ number 5 ∷ number (10 * 2 + 10) ∷ number 2
    ∷ amount (pos 10) ∷ amount (pos 0) ∷ [])

-- .. and before it ends: −5 − 2 × 5 = 10 × 1 − 5 × 5 + 0 after the gift
abbrev with_a_gift : Example
with_a_gift = example "with-a-gift"
    (number (standing_of table to_5 0).active ∷ amount (standing_of table to_5 0).stretch.lost.0 ∷ amount (ahead_of 0 (after (begin table) to_5))
    ∷ amount (balance 10 (share_of 0 table) 5 (standing_of table to_5 0).stretch) ∷ [])
    (number 1 ∷ amount (pos 0) ∷ amount (minus 15) ∷ amount (minus 15) ∷ [])

-- ---- nothing lost: 1 × 1 = 1 × 1 + 0. The next thread arrives at the moment at which the last one went: a stretch of its own
abbrev one : Table
one = table_of 1 1 (row 0 1 1 ∷ [])

abbrev nothing_lost : Example
nothing_lost = example "nothing-lost"
    (ended (overs_of one (arrive 0 ∷ step ∷ complete 0 ∷ arrive 0 ∷ step ∷ complete 0 ∷ [])) ∷ [])
    (ended (over 0 0 1 1 (pos 0) false ∷ over 0 1 2 1 (pos 0) false ∷ []) ∷ [])

-- ---- lost at a leaving: 3 × 4 = 10 × 1 + 2. The tick 4 brings the leaving on
abbrev leaver : Table
leaver = table_of 10 2 (row 0 3 4 ∷ row 1 7 2 ∷ [])

abbrev to_4 : List Call
to_4 = arrive 0 ∷ arrive 1 ∷ step ∷ step ∷ complete 0 ∷ step ∷ step ∷ []

abbrev lost_at_a_leaving : Example
lost_at_a_leaving = example "lost-at-a-leaving"
    (ended (overs_of leaver to_4) ∷ ended (overs_of leaver (arrive 0 ∷ arrive 1 ∷ step ∷ step ∷ complete 0 ∷ step ∷ step ∷ step ∷ []))
    ∷ amount (lost_in (app_of leaver) 0 (past_of leaver (arrive 0 ∷ arrive 1 ∷ step ∷ step ∷ complete 0 ∷ step ∷ step ∷ step ∷ [])))
    ∷ number (3 * 4) ∷ both_sides leaver to_4 0)
    (ended [] ∷ ended (over 0 0 4 1 (pos 2) false ∷ []) ∷ amount (pos 2) ∷ number (10 * 1 + 2) ∷ amount (minus 2) ∷ amount (minus 2) ∷ [])

-- ---- lost at a completion: 2 × 3 = 4 × 1 + 2
abbrev alone : Table
alone = table_of 4 3 (row 0 1 5 ∷ row 0 1 5 ∷ row 1 2 2 ∷ [])

abbrev lost_at_a_completion : Example
lost_at_a_completion = example "lost-at-a-completion"
    (ended (overs_of alone (arrive 0 ∷ arrive 2 ∷ step ∷ step ∷ step ∷ complete 0 ∷ [])) ∷ number (2 * 3) ∷ [])
    (ended (over 0 0 3 1 (pos 2) false ∷ []) ∷ number (4 * 1 + 2) ∷ [])

-- ---- the report: of the listing's trace, and of one that ends while stretches hold or is refused
abbrev report_text : String
report_text = "app from to granted lost share sum end\n0 0 6 2 10 30 0 over\n1 0 7 5 0 35 15 idle\nend 8\n"

abbrev the_listing's_report : Example
the_listing's_report = example "the-listing's-report"
    (entries (report trace) ∷ [])
    (entries (bytes report_text) ∷ [])

-- "at the end of input the stretches still open": after the gift at 5
abbrev stretches_that_hold : Example
stretches_that_hold = example "stretches-that-hold"
    (entries (report (table_records ++ arrival_record 0 0 ++ arrival_record 0 2 ++ arrival_record 2 1 ++ completion_record 5 0)) ∷ [])
    (entries (bytes "app from to granted lost share sum end\n0 0 5 1 0 25 -15 open\n1 0 5 4 0 25 15 open\nend 5\n") ∷ [])

-- a refusal is the last line, whatever holds: a completion by thread 1, which did not have the tick 4
abbrev a_refused_report : Example
a_refused_report = example "a-refused-report"
    (entries (report (table_records ++ arrival_record 0 0 ++ arrival_record 0 2 ++ arrival_record 2 1 ++ completion_record 5 1)) ∷ [])
    (entries (bytes "app from to granted lost share sum end\nrefused 9 at 74\n") ∷ [])

pub stretching : List Example
stretching =
    the_listing's_history
    ∷ application_0
    ∷ with_a_gift
    ∷ nothing_lost
    ∷ lost_at_a_leaving
    ∷ lost_at_a_completion
    ∷ the_listing's_report
    ∷ stretches_that_hold
    ∷ a_refused_report
    ∷ []

pub stretching_hold : All Holds stretching
unfolding Holds stretching
stretching_hold =
    more {x = the_listing's_history} refl (
    more {x = application_0} refl (
    more {x = with_a_gift} refl (
    more {x = nothing_lost} refl (
    more {x = lost_at_a_leaving} refl (
    more {x = lost_at_a_completion} refl (
    more {x = the_listing's_report} refl (
    more {x = stretches_that_hold} refl (
    more {x = a_refused_report} refl (
    none)))))))))
