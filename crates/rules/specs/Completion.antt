-- Document 01, step 1, "Completion": "At most one, by the thread that had the tick just ended."
use Rattle.std.specs.Prelude.{Bool, true, not, cond, ◌&&◌, List, ℕ, ◌-◌, eqb, ltb, ℤ, ◌+ℤ◌, ◌-ℤ◌, set}
use Rattle.std.specs.Int.Signed.{lt_z}
use Rattle.rules.specs.Threads.{Thread, State, NonContending, with, with_jobs, scaled, at, idle, active_in, sooner, earliest, lose_at}
use Rattle.rules.specs.Table.{Answered, done, refused}

abbrev pub greater : ℤ → ℤ → ℤ
greater a b = cond (lt_z a b) b a

-- "If another of its jobs waits, E becomes the greater of E and W + u × P, and it goes on contending."
abbrev pub goes_on : Thread → Thread
goes_on x = with_jobs (with x x.phase x.w.0 (greater x.e.0 (x.w.0 +ℤ scaled x x.period))) (x.jobs - 1)

-- "If none waits and W > u × t, it becomes non-contending."
abbrev pub stays : Thread → Thread
stays x = with_jobs (with x NonContending x.w.0 x.e.0) 0

-- "If none waits and W ≤ u × t, it becomes inactive"
abbrev pub ends : Thread → Thread
ends x = with_jobs (idle x) 0

-- ", and u × t − W is taken from the W of another active thread"
abbrev pub freed : ℕ → Thread → ℤ
freed t x = scaled x t -ℤ x.w.0

-- "of the same application: the one with the earliest deadline among those whose deadline is no earlier than the
-- completing thread's": y may receive from x
abbrev pub takes : Thread → Thread → Bool
takes x y = active_in x.app y && not (sooner y x)

-- "lowest number on a tie"; x, the completing thread, is inactive in xs already
abbrev pub receiver : ℕ → Thread → List Thread → ℕ
receiver n x xs = earliest (takes x) n xs

-- "If there is none the amount is lost."
unfoldable pub gives : ℕ → ℕ → Thread → List Thread → List Thread
gives t n x xs = lose_at (freed t x) xs (receiver n x xs)

-- the threads after the completion of c, which is x, at the moment t
unfoldable pub completing : ℕ → ℕ → ℕ → Thread → List Thread → List Thread
completing t n c x xs =
    cond (ltb 1 x.jobs) (set xs c (goes_on x))
    (cond (lt_z (scaled x t) x.w.0) (set xs c (stays x))
    (gives t n x (set xs c (ends x))))

-- the state after it: a completion was accepted at this moment
unfoldable pub after_completion : State → ℕ → State
after_completion s i = record {
  threads = completing s.clock.0 s.count i (at s.threads i) s.threads;
  count = s.count;
  had = s.had;
  q = s.q;
  clock = s.clock;
  completed = true;
  closed = s.closed;
}

-- "An event called directly applies at the present clock": 8, then "10, 9".
-- 8 "thread number not in the table", 10 "completion after an arrival at this moment", 9 "completion by a thread that did
-- not have the tick just ended, or a second one at this moment"
unfoldable pub completion : State → ℕ → Answered
completion s i =
    cond (ltb i s.count)
    (cond s.closed (refused 10 s)
    (cond (eqb i s.had)
    (cond s.completed (refused 9 s) (done (after_completion s i)))
    (refused 9 s)))
    (refused 8 s)
