-- Document 02, Item 3, in examples: deadlines in one whole tick, which only the remainders tell apart, each times the other's share.
use Rattle.std.specs.Prelude.{refl, List, [], ◌∷◌, ℕ, pos}
use Rattle.lists.specs.All.{All, none, more}
use Rattle.rules.specs.Threads.{Thread, State, Contending, NonContending, Less, Equal, Greater, amt, compare}
use Rattle.rules.specs.Charge.{beneficiary}
use Rattle.rules.specs.Step.{Grant, ready, stepped}
use Rattle.rules.specs.Calls.{complete, arrive, step, after}
use Rattle.marked.specs.Example.{number, amount, thread, outcome, order, Example, example, Holds, row, table_of, begin, e, look}

-- a thread of the share u with E = n
abbrev due : ℕ → ℕ → Thread
due u n = record { app = 0; phase = Contending; share = u; period = 10; jobs = 1; w = amt (pos 0); e = amt (pos n) }

-- 12 1/2 and 12 1/5: the remainders are both 1, and 1 × 5 is above 1 × 2; with the own shares 1 × 2 would be below 1 × 5
abbrev equal_whole_parts : Example
equal_whole_parts = example "equal-whole-parts"
    (order (compare (due 2 25) (due 5 61)) ∷ order (compare (due 5 61) (due 2 25)) ∷ [])
    (order Greater ∷ order Less ∷ [])

-- 24/2 and 60/5, and with remainders 124/12 and 62/6
abbrev unlike_shares_tie : Example
unlike_shares_tie = example "unlike-shares-tie"
    (order (compare (due 2 24) (due 5 60)) ∷ order (compare (due 5 60) (due 2 24)) ∷ order (compare (due 12 124) (due 6 62)) ∷ [])
    (order Equal ∷ order Equal ∷ order Equal ∷ [])

-- 12 1/2 and 13: the remainder is not looked at
abbrev unlike_whole_parts : Example
unlike_whole_parts = example "unlike-whole-parts"
    (order (compare (due 2 25) (due 5 65)) ∷ order (compare (due 5 65) (due 2 25)) ∷ [])
    (order Less ∷ order Greater ∷ [])

-- Step 5: 63/4 and 93/6 are 15 3/4 and 15 1/2; whole parts alone would be a tie, which thread 0 has.
abbrev to_tick_5 : State
to_tick_5 =
    after (begin (table_of 15 3 (row 0 4 12 ∷ row 3 6 4 ∷ row 0 2 24 ∷ [])))
    (arrive 2 ∷ arrive 0 ∷ step ∷ complete 0 ∷ arrive 1 ∷ step ∷ complete 1 ∷ arrive 1 ∷ step ∷ arrive 0 ∷ step ∷ step ∷ [])

abbrev remainder_chooses_higher : Example
remainder_chooses_higher = example "remainder-chooses-higher"
    (amount (e (ready to_tick_5) 0) ∷ amount (e (ready to_tick_5) 1) ∷ outcome (stepped to_tick_5).outcome ∷ [])
    (amount (pos 63) ∷ amount (pos 93) ∷ outcome (Grant 1) ∷ [])

-- .. and with the numbers exchanged: remainders times the own share, 18 and 12, would give thread 1 the tick.
abbrev exchanged : State
exchanged =
    after (begin (table_of 15 3 (row 3 6 4 ∷ row 0 4 12 ∷ row 0 2 24 ∷ [])))
    (arrive 2 ∷ arrive 1 ∷ step ∷ complete 1 ∷ arrive 0 ∷ step ∷ complete 0 ∷ arrive 0 ∷ step ∷ arrive 1 ∷ step ∷ step ∷ [])

abbrev remainder_chooses_lower : Example
remainder_chooses_lower = example "remainder-chooses-lower"
    (amount (e (ready exchanged) 0) ∷ amount (e (ready exchanged) 1) ∷ outcome (stepped exchanged).outcome ∷ [])
    (amount (pos 93) ∷ amount (pos 63) ∷ outcome (Grant 0) ∷ [])

-- Step 6: of 62/4 and 154/10, both 15 in whole ticks, the latter gets the free share.
abbrev to_tick_4 : State
to_tick_4 =
    after (begin (table_of 21 4 (row 0 4 12 ∷ row 3 2 12 ∷ row 0 10 10 ∷ row 0 4 31 ∷ [])))
    (arrive 0 ∷ step ∷ arrive 0 ∷ step ∷ complete 0 ∷ arrive 2 ∷ arrive 1 ∷ step ∷ arrive 2 ∷ step ∷ complete 2 ∷ [])

abbrev remainder_benefits : Example
remainder_benefits = example "remainder-benefits"
    (amount (e (ready to_tick_4) 0) ∷ amount (e (ready to_tick_4) 2) ∷ number (beneficiary 0 (ready to_tick_4)) ∷ [])
    (amount (pos 62) ∷ amount (pos 154) ∷ number 2 ∷ [])

-- Step 1: of 132/5 and 104/4, both 26 in whole ticks, the latter receives the 7 that thread 0 frees.
abbrev to_9 : State
to_9 =
    after (begin (table_of 17 4 (row 0 6 12 ∷ row 3 1 18 ∷ row 0 5 10 ∷ row 0 4 16 ∷ [])))
    (arrive 3 ∷ step ∷ arrive 3 ∷ step ∷ arrive 2 ∷ step ∷ step ∷ complete 2 ∷ arrive 2 ∷ step ∷ arrive 0 ∷ step ∷ complete 3
    ∷ step ∷ step ∷ step ∷ [])

abbrev remainder_receives : Example
remainder_receives = example "remainder-receives"
    (look to_9 0 ∷ look to_9 2 ∷ look to_9 3 ∷ look (after to_9 (complete 0 ∷ [])) 2 ∷ look (after to_9 (complete 0 ∷ [])) 3 ∷ [])
    (thread Contending 1 (pos 47) (pos 102) ∷ thread Contending 1 (pos 66) (pos 132) ∷ thread Contending 1 (pos 40) (pos 104)
    ∷ thread Contending 1 (pos 66) (pos 132) ∷ thread Contending 1 (pos 33) (pos 104) ∷ [])

-- Step 1: 33/3 is earlier than the completing thread's 95/8 by the remainder alone, so the 8 goes to thread 1, whose deadline is later.
abbrev passing : State
passing =
    after (begin (table_of 18 3 (row 0 8 4 ∷ row 0 7 4 ∷ row 0 3 6 ∷ [])))
    (step ∷ step ∷ arrive 0 ∷ arrive 1 ∷ step ∷ complete 0 ∷ arrive 0 ∷ step ∷ step ∷ arrive 2 ∷ step ∷ step ∷ step
    ∷ complete 2 ∷ step ∷ [])

abbrev remainder_passed_over : Example
remainder_passed_over = example "remainder-passed-over"
    (look passing 0 ∷ look passing 1 ∷ look passing 2
    ∷ look (after passing (complete 0 ∷ [])) 1 ∷ look (after passing (complete 0 ∷ [])) 2 ∷ [])
    (thread Contending 1 (pos 64) (pos 95) ∷ thread Contending 1 (pos 65) (pos 98) ∷ thread NonContending 0 (pos 33) (pos 33)
    ∷ thread Contending 1 (pos 57) (pos 98) ∷ thread NonContending 0 (pos 33) (pos 33) ∷ [])

pub remainders : List Example
remainders =
    equal_whole_parts
    ∷ unlike_shares_tie
    ∷ unlike_whole_parts
    ∷ remainder_chooses_higher
    ∷ remainder_chooses_lower
    ∷ remainder_benefits
    ∷ remainder_receives
    ∷ remainder_passed_over
    ∷ []

pub remainders_hold : All Holds remainders
unfolding Holds remainders
remainders_hold =
    more {x = equal_whole_parts} refl (
    more {x = unlike_shares_tie} refl (
    more {x = unlike_whole_parts} refl (
    more {x = remainder_chooses_higher} refl (
    more {x = remainder_chooses_lower} refl (
    more {x = remainder_benefits} refl (
    more {x = remainder_receives} refl (
    more {x = remainder_passed_over} refl (
    none))))))))
