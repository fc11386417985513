-- Demand 3 speaks of something, and its bounds are met: a virtual time at its deadline, a tick that ends at its deadline, a job
-- late by all but one unit of u × P; and what refused calls, full queues and the clock's end do.
use Rattle.std.specs.Prelude.{refl, false, List, [], ◌∷◌, ℕ, ◌+◌, ◌*◌, ◌-◌, pos, replicate}
use Rattle.lists.specs.All.{All, none, more}
use Rattle.rules.specs.Limits.{nobody}
use Rattle.rules.specs.Threads.{State, Inactive, Contending, NonContending, blank, amt, at}
use Rattle.rules.specs.Table.{Table, Done, Refused}
use Rattle.rules.specs.Arrival.{arrival}
use Rattle.rules.specs.Step as steps
use Rattle.rules.specs.Step.{Idle, stepped}
use Rattle.rules.specs.Calls.{Call, complete, arrive, drop, step, run, after}
use Rattle.rules.specs.History.{Happening, completed, arrived, dropped_to_head, granted, idle_tick, became_active, Job, Finished, no_jobs, history, account}
use Rattle.marked.specs.Example.{number, amount, thread, answer, outcome, entries, whole, happened, finished, Example, example, Holds, row, table_of, begin, table_says, look, refusals, table_refusal}
use Rattle.marked.specs.Worked.{table, at2}

abbrev job : ℕ → ℕ → Job
job arrival length = record { arrival = arrival; length = length }

abbrev ended : Job → ℕ → ℕ → Finished
ended j completion figure = record { job = j; completion = completion; figure = figure }

-- the completed jobs of thread i, whose share is u, after calls from a table on
abbrev finished_of : Table → ℕ → ℕ → List Call → List Finished
finished_of t u i cs = (account t.q u i no_jobs (history (begin t) cs)).finished

-- "a thread's virtual time never passes its deadline", and reaches it: thread 2 of the listing's run contends with W = E = 20
abbrev at_its_deadline : Example
at_its_deadline = example "at-its-deadline"
    (answer (table_says table) ∷ look at2 2 ∷ [])
    (answer Done ∷ thread Contending 1 (pos 20) (pos 20) ∷ [])

-- "a granted tick ends no later than the deadline it was granted under", and no earlier: tick 3 under E = 20 = 5 × (3 + 1)
abbrev halves : Table
halves = table_of 10 2 (row 0 5 4 ∷ row 1 5 4 ∷ [])

abbrev ends_at_its_deadline : Example
ends_at_its_deadline = example "ends-at-its-deadline"
    (answer (table_says halves) ∷ happened (history (begin halves) (arrive 0 ∷ arrive 1 ∷ step ∷ step ∷ step ∷ step ∷ []))
    ∷ amount (pos (5 * (3 + 1))) ∷ [])
    (answer Done
    ∷ happened (
    became_active 0 0
    ∷ arrived 0 0
    ∷ became_active 1 0
    ∷ arrived 1 0
    ∷ granted 0 0 (pos 20)
    ∷ granted 0 1 (pos 20)
    ∷ granted 1 2 (pos 20)
    ∷ granted 1 3 (pos 20)
    ∷ [])
    ∷ amount (pos 20) ∷ [])

-- "u × completion is less than that figure plus u × P", by one unit: 1 × 1 = 1 + 1 × 1 − 1
abbrev one : Table
one = table_of 1 1 (row 0 1 1 ∷ [])

abbrev late_by_all_but_one : Example
late_by_all_but_one = example "late-by-all-but-one"
    (answer (table_says one) ∷ finished (finished_of one 1 0 (arrive 0 ∷ step ∷ complete 0 ∷ [])) ∷ number (1 * 1) ∷ [])
    (answer Done ∷ finished (ended (job 0 1) 1 1 ∷ []) ∷ number (1 + 1 * 1 - 1) ∷ [])

-- .. and by two units where threads share the processor: 1 × 2 = 2 + 1 × 2 − 2
abbrev shared : Table
shared = table_of 2 2 (row 0 1 2 ∷ row 1 1 2 ∷ [])

abbrev late_by_all_but_two : Example
late_by_all_but_two = example "late-by-all-but-two"
    (answer (table_says shared) ∷ finished (finished_of shared 1 1 (arrive 0 ∷ arrive 1 ∷ step ∷ step ∷ complete 1 ∷ []))
    ∷ number (1 * 2) ∷ [])
    (answer Done ∷ finished (ended (job 0 1) 2 2 ∷ []) ∷ number (2 + 1 * 2 - 2) ∷ [])

-- the figures of three jobs: 0 + 2 × 2, the two dropped behind it counting for nothing; the greater of 2 and 4, plus 2 × 1; the
-- greater of 7 and 6, plus 2 × 2
abbrev alone : Table
alone = table_of 2 1 (row 0 1 2 ∷ [])

abbrev three_jobs : List Call
three_jobs =
    arrive 0 ∷ arrive 0 ∷ arrive 0 ∷ step ∷ drop 0 ∷ step ∷ complete 0 ∷ arrive 0 ∷ step ∷ complete 0
    ∷ step ∷ step ∷ step ∷ step ∷ arrive 0 ∷ step ∷ step ∷ complete 0 ∷ []

abbrev figures : Example
figures = example "figures"
    (happened (history (begin alone) three_jobs) ∷ finished (finished_of alone 1 0 three_jobs) ∷ [])
    (happened (
    became_active 0 0
    ∷ arrived 0 0
    ∷ arrived 0 0
    ∷ arrived 0 0
    ∷ granted 0 0 (pos 2)
    ∷ dropped_to_head 0 1
    ∷ granted 0 1 (pos 4)
    ∷ completed 0 2
    ∷ arrived 0 2
    ∷ granted 0 2 (pos 6)
    ∷ completed 0 3
    ∷ idle_tick 3
    ∷ idle_tick 4
    ∷ idle_tick 5
    ∷ idle_tick 6
    ∷ became_active 0 7
    ∷ arrived 0 7
    ∷ granted 0 7 (pos 9)
    ∷ granted 0 8 (pos 11)
    ∷ completed 0 9
    ∷ [])
    ∷ finished (ended (job 0 2) 2 4 ∷ ended (job 2 1) 3 6 ∷ ended (job 7 2) 9 11 ∷ []) ∷ [])

-- "For the first job the arrival alone counts.": a first job that arrives at 3, with u 2 and Q 4, has the figure 2 × 3 + 4 × 1
abbrev half : Table
half = table_of 4 1 (row 0 2 3 ∷ [])

abbrev one_job : List Call
one_job = step ∷ step ∷ step ∷ arrive 0 ∷ step ∷ complete 0 ∷ []

abbrev first_figure : Example
first_figure = example "first-figure"
    (happened (history (begin half) one_job) ∷ finished (finished_of half 2 0 one_job) ∷ [])
    (happened (
    idle_tick 0
    ∷ idle_tick 1
    ∷ idle_tick 2
    ∷ became_active 0 3
    ∷ arrived 0 3
    ∷ granted 0 3 (pos 12)
    ∷ completed 0 4
    ∷ [])
    ∷ finished (ended (job 3 1) 4 10 ∷ []) ∷ [])

-- "every sequence of calls from a fresh start, refused ones among them": 8, 9, 10, 12, 13 and 17 leave state and history as they
-- are without them
abbrev accepted_calls : List Call
accepted_calls = arrive 0 ∷ arrive 1 ∷ step ∷ step ∷ complete 0 ∷ step ∷ []

abbrev all_calls : List Call
all_calls =
    arrive 7 ∷ drop 2 ∷ complete 0 ∷ arrive 0 ∷ complete 0 ∷ arrive 1 ∷ run 1 [] ∷ run 2147483648 [] ∷ step
    ∷ run 0 (5 ∷ []) ∷ complete 1 ∷ step ∷ complete 5 ∷ complete 0 ∷ complete 0 ∷ step ∷ []

abbrev what_happened : List Happening
what_happened =
    became_active 0 0
    ∷ arrived 0 0
    ∷ became_active 1 0
    ∷ arrived 1 0
    ∷ granted 0 0 (pos 20)
    ∷ granted 0 1 (pos 20)
    ∷ completed 0 2
    ∷ granted 1 2 (pos 20)
    ∷ []

-- where both come to: thread 0 has completed and is ahead of the clock, thread 1 has one tick
abbrev where_they_come : State
where_they_come = record {
  threads =
      record { app = 0; phase = NonContending; share = 5; period = 4; jobs = 0; w = amt (pos 20); e = amt (pos 20) }
      ∷ record { app = 1; phase = Contending; share = 5; period = 4; jobs = 1; w = amt (pos 10); e = amt (pos 20) }
      ∷ replicate 62 blank;
  count = 2;
  had = 1;
  q = 10;
  clock = record { 0 = 3 };
  completed = false;
  closed = false;
}

abbrev refused_among_them : Example
refused_among_them = example "refused-among-them"
    (entries (refusals (begin halves) all_calls) ∷ happened (history (begin halves) all_calls)
    ∷ happened (history (begin halves) accepted_calls) ∷ whole (after (begin halves) all_calls)
    ∷ whole (after (begin halves) accepted_calls) ∷ [])
    (entries (8 ∷ 8 ∷ 9 ∷ 0 ∷ 10 ∷ 0 ∷ 17 ∷ 13 ∷ 0 ∷ 12 ∷ 9 ∷ 0 ∷ 8 ∷ 0 ∷ 9 ∷ 0 ∷ [])
    ∷ happened what_happened ∷ happened what_happened ∷ whole where_they_come ∷ whole where_they_come ∷ [])

-- 11 "arrival when the thread has 65,535 jobs": the 65,535th is accepted, after thread 1 has left; the next gives back the state
-- it was given, and the moment is still open to a completion
abbrev waiting : ℕ → State
waiting n = record {
  threads =
      record { app = 0; phase = Contending; share = 1; period = 2; jobs = n; w = amt (pos 2); e = amt (pos 2) }
      ∷ record { app = 1; phase = NonContending; share = 1; period = 2; jobs = 0; w = amt (pos 1); e = amt (pos 2) }
      ∷ [];
  count = 2;
  had = 0;
  q = 2;
  clock = record { 0 = 1 };
  completed = false;
  closed = false;
}

abbrev full_queue : Example
full_queue = example "full-queue"
    (answer (arrival (waiting 65534) 0).answer ∷ look (arrival (waiting 65534) 0).state 0
    ∷ look (arrival (waiting 65534) 0).state 1 ∷ answer (arrival (waiting 65535) 0).answer
    ∷ whole (arrival (waiting 65535) 0).state
    ∷ entries (refusals (waiting 65535) (arrive 0 ∷ complete 0 ∷ arrive 0 ∷ complete 0 ∷ []))
    ∷ [])
    (answer Done ∷ thread Contending 65535 (pos 2) (pos 2) ∷ thread Inactive 0 (pos 0) (pos 0) ∷ answer (Refused 11)
    ∷ whole (waiting 65535) ∷ entries (11 ∷ 0 ∷ 0 ∷ 10 ∷ [])
    ∷ [])

-- 13 "a step taken at [the clock's] end": the last tick is 2,147,483,646
abbrev clock_at : ℕ → State
clock_at t = record { threads = []; count = 0; had = nobody; q = 2; clock = record { 0 = t }; completed = false; closed = false }

abbrev clock's_end : Example
clock's_end = example "clock's-end"
    (outcome (stepped (clock_at 2147483646)).outcome ∷ whole (stepped (clock_at 2147483646)).state
    ∷ outcome (stepped (clock_at 2147483647)).outcome ∷ whole (stepped (clock_at 2147483647)).state
    ∷ entries (refusals (clock_at 2147483646) (step ∷ step ∷ [])) ∷ [])
    (outcome Idle ∷ whole (clock_at 2147483647) ∷ outcome (steps.Refused 13) ∷ whole (clock_at 2147483647)
    ∷ entries (0 ∷ 13 ∷ []) ∷ [])

-- "0 in a row stands for 100": admitted where u × 100 is at least Q, and the thread has that period
abbrev usual : ℕ → Table
usual q = table_of q 1 (row 0 1 0 ∷ [])

abbrev period_0 : Example
period_0 = example "period-0"
    (number (table_refusal (usual 100)) ∷ number (at (begin (usual 100)).threads 0).period
    ∷ look (after (begin (usual 100)) (arrive 0 ∷ [])) 0 ∷ number (table_refusal (usual 101)) ∷ [])
    (number 0 ∷ number 100 ∷ thread Contending 1 (pos 0) (pos 100) ∷ number 6 ∷ [])

pub witnesses : List Example
witnesses =
    at_its_deadline
    ∷ ends_at_its_deadline
    ∷ late_by_all_but_one
    ∷ late_by_all_but_two
    ∷ figures
    ∷ first_figure
    ∷ refused_among_them
    ∷ full_queue
    ∷ clock's_end
    ∷ period_0
    ∷ []

pub witnesses_hold : All Holds witnesses
unfolding Holds witnesses
witnesses_hold =
    more {x = at_its_deadline} refl (
    more {x = ends_at_its_deadline} refl (
    more {x = late_by_all_but_one} refl (
    more {x = late_by_all_but_two} refl (
    more {x = figures} refl (
    more {x = first_figure} refl (
    more {x = refused_among_them} refl (
    more {x = full_queue} refl (
    more {x = clock's_end} refl (
    more {x = period_0} refl (
    none))))))))))
