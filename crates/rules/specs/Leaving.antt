-- Document 01, step 2, "Leaving".
use Rattle.std.specs.Prelude.{cond, ℕ}
use Rattle.std.specs.Int.Signed.{lt_z}
use Rattle.lists.specs.MapTo.{map_to}
use Rattle.rules.specs.Threads.{Thread, State, scaled, with_rows, idle, is_non}

-- "Each non-contending thread with W ≤ u × t becomes inactive."
unfoldable pub leave : ℕ → Thread → Thread
leave t x = cond (is_non x.phase) (cond (lt_z (scaled x t) x.w.0) x (idle x)) x

-- "Done before the first accepted arrival at this moment, or else when the tick is taken": a closed moment has had it
unfoldable pub gone : State → State
gone s = cond s.closed s (with_rows s (map_to s.count (leave s.clock.0) s.threads))
