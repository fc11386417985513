-- Document 01, "Quantities": "These limits are fixed once, with the table they bound."
-- The same numbers are the associated constants of `Table` in the code; `promises` has a proof that they agree.
use Rattle.std.specs.Prelude.{ℕ}

-- "Q: 1 to 4,096"
abbrev pub max_q : ℕ
max_q = 4096

-- "threads: 1 to 64, numbered from 0 in row order"
abbrev pub max_threads : ℕ
max_threads = 64

-- "application: 0 to 15"
abbrev pub max_app : ℕ
max_app = 15

-- how many applications there are
abbrev pub apps : ℕ
apps = 16

-- "period P: 1 to 65,536"
abbrev pub max_period : ℕ
max_period = 65536

-- "0 in a row stands for 100"
abbrev pub usual_period : ℕ
usual_period = 100

-- "jobs of a thread, neither completed nor dropped: at most 65,535"
abbrev pub max_jobs : ℕ
max_jobs = 65535

-- "clock: 0 to 2,147,483,647"
abbrev pub clock_end : ℕ
clock_end = 2147483647

-- the number that no thread has
abbrev pub nobody : ℕ
nobody = 64

-- "one entry a tick, the thread, or 65,535 for idle"
abbrev pub idle_entry : ℕ
idle_entry = 65535
