-- Document 01, step 5, "Choice".
use Rattle.std.specs.Prelude.{ℕ}
use Rattle.lists.specs.MapTo.{map_to}
use Rattle.rules.specs.Threads.{State, with_rows, idle, contends, earliest}

-- "The contending thread with the earliest deadline; lowest number on a tie."; `nobody` if none contends
abbrev pub chosen : State → ℕ
chosen s = earliest contends s.count s.threads

-- "If none contends the tick is idle and every thread becomes inactive."
unfoldable pub idled : State → State
idled s = with_rows s (map_to s.count idle s.threads)
