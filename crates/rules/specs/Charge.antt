-- Document 01, step 6, "Charge".
use Rattle.std.specs.Prelude.{false, cond, List, ℕ, zero, suc, ◌+◌, eqb, pos, ◌+ℤ◌, set}
use Rattle.rules.specs.Limits.{apps}
use Rattle.rules.specs.Threads.{Thread, State, with, with_rows, at, active_in, free_of, earliest, lose_at}
use Rattle.rules.specs.Fitting.{room_of}

-- n more of W
abbrev pub gains : ℕ → Thread → Thread
gains n x = with x x.phase (x.w.0 +ℤ pos n) x.e.0

-- "the active thread with the earliest deadline (lowest number on a tie), contending or not" of the application a
abbrev pub beneficiary : ℕ → State → ℕ
beneficiary a s = earliest (active_in a) s.count s.threads

-- "In each other application with an active thread, the [beneficiary] loses r from its W.": the applications below n, but
-- own. Free shares and beneficiaries are those of s; xs is the table that is changed.
unfoldable pub benefits : ℕ → State → ℕ → List Thread → List Thread
benefits own s zero xs = xs
benefits own s (suc a) xs =
    cond (eqb a own) (benefits own s a xs)
    (lose_at (pos (free_of a s)) (benefits own s a xs) (beneficiary a s))

abbrev pub benefited : ℕ → State → List Thread
benefited own s = benefits own s apps s.threads

-- "The chosen thread's W grows by Q − r of its application."
abbrev pub grown : ℕ → ℕ → List Thread → List Thread
grown c room xs = set xs c (gains room (at xs c))

-- the charge of a tick of thread c
unfoldable pub charged : State → ℕ → State
charged s c = with_rows s (grown c (room_of s (at s.threads c)) (benefited (at s.threads c).app s))

-- "The clock moves by one."; c had the tick just ended, and the new moment has no event yet
unfoldable pub moved : State → ℕ → State
moved s c = record { threads = s.threads; count = s.count; had = c; q = s.q; clock = record { 0 = s.clock.0 + 1 }; completed = false; closed = false }
