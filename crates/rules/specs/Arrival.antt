-- Document 01, step 3, "Arrivals".
use Rattle.std.specs.Prelude.{true, cond, ℕ, ◌+◌, ltb, ◌+ℤ◌, set}
use Rattle.rules.specs.Limits.{max_jobs}
use Rattle.rules.specs.Threads.{Thread, State, Phase, Inactive, Contending, NonContending, with, with_jobs, scaled, at}
use Rattle.rules.specs.Table.{Answered, done, refused}
use Rattle.rules.specs.Leaving.{gone}

-- "An inactive thread gets W = u × t, E = W + u × P and contends. A non-contending thread gets E = W + u × P and contends.
-- A contending thread has one more job waiting."
abbrev pub arrive_as : Phase → ℕ → Thread → Thread
arrive_as Inactive t x = with x Contending (scaled x t) (scaled x t +ℤ scaled x x.period)
arrive_as Contending t x = with x Contending x.w.0 x.e.0
arrive_as NonContending t x = with x Contending x.w.0 (x.w.0 +ℤ scaled x x.period)

unfoldable pub arrive : ℕ → Thread → Thread
arrive t x = with_jobs (arrive_as x.phase t x) (x.jobs + 1)

-- the state after it: the moment is closed to completions
abbrev pub arrived : State → ℕ → State
arrived s i = record {
  threads = set s.threads i (arrive s.clock.0 (at s.threads i));
  count = s.count;
  had = s.had;
  q = s.q;
  clock = s.clock;
  completed = s.completed;
  closed = true;
}

-- 8 "thread number not in the table", 11 "arrival when the thread has 65,535 jobs, neither completed nor dropped";
-- leaving comes before an accepted arrival
unfoldable pub arrival : State → ℕ → Answered
arrival s i =
    cond (ltb i s.count)
    (cond (ltb (at s.threads i).jobs max_jobs) (done (arrived (gone s) i)) (refused 11 s))
    (refused 8 s)
