-- What a thread, and an application, is promised in time by its own share, from the table alone:
--
--   "A thread active for n ticks has had more than u × n / Q − 1 − u × P / Q of them, whatever anyone else does. An application
--   whose threads all became active at one moment and are active still has had, of the n ticks since, more than the sum of that
--   over its threads. If they became active at different moments, the sum holds with the ticks of each thread counted from its own
--   beginning."
--
-- This file says it, as `Promised` at its end; OwnProved.antt has `own_share_lem`, which proves it. Of any n ticks in which all its
-- threads are active an application is promised no such sum: AnyTicks.antt has a run in which it has less.
use Rattle.std.specs.Prelude.{◌≡◌, cond, List, [], ◌∷◌, ℕ, zero, suc, ◌+◌, ◌*◌, ◌-◌, ◌≤◌, ◌<◌, eqb, leb, replicate}
use Rattle.rules.specs.Limits.{max_threads}
use Rattle.rules.specs.Threads.{State, at, active}
use Rattle.rules.specs.Table.{Table, Done, meant, row_at, table_answer}
use Rattle.rules.specs.Calls.{Call}
use Rattle.rules.specs.History.{Happening, completed, arrived, dropped_to_head, granted, idle_tick, became_active, became_inactive}
use Rattle.rules.specs.Stretches.{Activity, quiet, activity_at, activities, elapsed, app_of, share_of}
use Rattle.lag.specs.Lag.{left, told}

-- ---- ticks of a history
-- a tick from the moment m on that was granted to the application a; `app` has the application of each thread
abbrev pub tick_from : (ℕ → ℕ) → ℕ → ℕ → Happening → ℕ
tick_from app a m (completed i t) = 0
tick_from app a m (arrived i t) = 0
tick_from app a m (dropped_to_head i t) = 0
tick_from app a m (granted i k e) = cond (eqb (app i) a) (cond (leb m k) 1 0) 0
tick_from app a m (idle_tick k) = 0
tick_from app a m (became_active i t) = 0
tick_from app a m (became_inactive i t z f) = 0

-- "of the n ticks since": how many there are
unfoldable pub granted_from : (ℕ → ℕ) → ℕ → ℕ → List Happening → ℕ
granted_from app a m [] = 0
granted_from app a m (h ∷ hs) = tick_from app a m h + granted_from app a m hs

-- "more than": g ticks are more than what is due, less a margin, both times Q
abbrev pub MoreThan : (q due margin g : ℕ) → Type 0
MoreThan q due margin g = due < q * g + margin

-- ---- a thread
-- where thread i stands after a history: the stretch of an application that has this thread alone
abbrev pub own : List Happening → ℕ → Activity
own hs i = activity_at (activities (λ j. j) (replicate max_threads quiet) hs) i

-- its beginning, the moment at which it became active; the ticks that it had since; u × n at the moment now, n ticks after it
abbrev pub began_at : List Happening → ℕ → ℕ
began_at hs i = (own hs i).stretch.since.0

abbrev pub had_since : List Happening → ℕ → ℕ
had_since hs i = (own hs i).stretch.granted

abbrev pub due_to : Table → ℕ → List Happening → ℕ → ℕ
due_to t now hs i = (row_at t.rows i).share * elapsed now (own hs i).stretch

-- Q + u × P
abbrev pub margin : ℕ → Table → ℕ → ℕ
margin usual t i = t.q + (row_at t.rows i).share * meant usual (row_at t.rows i).period

-- ---- an application
-- the sum of f over the threads of the application a among the first n
unfoldable pub over_to : (ℕ → ℕ) → ℕ → (ℕ → ℕ) → ℕ → ℕ
over_to app a f zero = 0
over_to app a f (suc i) = over_to app a f i + cond (eqb (app i) a) (f i) 0

abbrev pub together : Table → ℕ → (ℕ → ℕ) → ℕ
together t a f = over_to (app_of t) a f t.threads

-- thread i is one of the application a
pub record Of (t : Table) (a i : ℕ) : Type 0 where
  pub among : i < t.threads
  pub its : app_of t i ≡ a

-- every thread of the application a is active
abbrev pub AllActive : Table → List Happening → ℕ → Type 0
AllActive t hs a = (i : ℕ) → Of t a i → 0 < (own hs i).active

-- .. and became active at the moment m
abbrev pub AllFrom : Table → List Happening → ℕ → ℕ → Type 0
AllFrom t hs a m = (i : ℕ) → Of t a i → (0 < (own hs i).active) × (began_at hs i ≡ m)

-- ---- a table, a state of it after leaving, and the history that led there
module _ (usual : ℕ) (t : Table) (s : State) (hs : List Happening) where
  pub record OwnShare : Type 0 where
    -- the stretch of a thread holds while it is active, and does not begin later than now
    pub holds : (i : ℕ) → i < t.threads → (own hs i).active ≡ cond (active (at s.threads i)) 1 0
    pub begun : (i : ℕ) → i < t.threads → 0 < (own hs i).active → began_at hs i ≤ s.clock.0
    -- .. and the ticks that it had since are those of the history
    pub counted : (i : ℕ) → i < t.threads → 0 < (own hs i).active → had_since hs i ≡ granted_from (λ j. j) i (began_at hs i) hs
    -- "A thread active for n ticks has had more than u × n / Q − 1 − u × P / Q of them"
    pub thread : (i : ℕ) → i < t.threads → 0 < (own hs i).active
        → MoreThan t.q (due_to t s.clock.0 hs i) (margin usual t i) (had_since hs i)
    -- "An application whose threads all became active at one moment", m, with a thread i: of the ticks since
    pub application : (a m i : ℕ) → Of t a i → AllFrom t hs a m
        → MoreThan t.q (share_of a t * (s.clock.0 - m)) (together t a (margin usual t)) (granted_from (app_of t) a m hs)
    -- "with the ticks of each thread counted from its own beginning", where these may differ
    pub from_each_beginning : (a i : ℕ) → Of t a i → AllActive t hs a
        → MoreThan t.q (together t a (due_to t s.clock.0 hs)) (together t a (margin usual t)) (together t a (had_since hs))

-- for every admitted table and every sequence of calls from a fresh start, refused ones among them
abbrev pub Promised : Type 0
Promised = (usual : ℕ) (t : Table) → table_answer usual t ≡ Done → (cs : List Call)
    → OwnShare usual t (left usual t cs) (told usual t cs)
