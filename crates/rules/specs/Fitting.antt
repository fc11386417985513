-- Document 01, step 4, "Fitting".
use Rattle.std.specs.Prelude.{cond, ℕ, ◌-◌, pos, ◌+ℤ◌, ◌-ℤ◌}
use Rattle.std.specs.Int.Signed.{lt_z}
use Rattle.lists.specs.MapTo.{map_to}
use Rattle.rules.specs.Threads.{Thread, State, with, with_rows, scaled, contends, free_of}

-- u × P added to E
abbrev pub postpone : Thread → Thread
postpone x = with x x.phase x.w.0 (x.e.0 +ℤ scaled x x.period)

-- "Each contending thread with E − W < Q − r has u × P added to E, once."
unfoldable pub fit : ℕ → Thread → Thread
fit room x = cond (contends x) (cond (lt_z (x.e.0 -ℤ x.w.0) (pos room)) (postpone x) x) x

-- Q − r of its application
abbrev pub room_of : State → Thread → ℕ
room_of s x = s.q - free_of x.app s

abbrev pub fit_in : State → Thread → Thread
fit_in s x = fit (room_of s x) x

unfoldable pub fitted : State → State
fitted s = with_rows s (map_to s.count (fit_in s) s.threads)
