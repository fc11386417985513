-- Document 01, after the steps: "A drop event leaves a thread only the job at its head; it changes the count of waiting jobs
-- and nothing else, and a thread with at most one job is unchanged."
use Rattle.std.specs.Prelude.{cond, ℕ, ltb, set}
use Rattle.rules.specs.Threads.{Thread, State, with_jobs, with_rows, at}
use Rattle.rules.specs.Table.{Answered, done, refused}

-- "only the job at its head"
unfoldable pub head_only : Thread → Thread
head_only x = with_jobs x (cond (ltb 1 x.jobs) 1 x.jobs)

-- "Arrivals and drops may come in any number at a moment, in any order between them; a drop may also stand before the
-- completion, and does not bring on step 2." 8 "thread number not in the table"
unfoldable pub dropped : State → ℕ → Answered
dropped s i =
    cond (ltb i s.count)
    (done (with_rows s (set s.threads i (head_only (at s.threads i)))))
    (refused 8 s)
