-- The history of a sequence of calls, and what document 01 reads off it: each thread's jobs, their lengths, and the dedicated
-- completion time of each. Demand 3 is stated over these. What requests 5 and 8 read off it is in Stretches.
use Rattle.std.specs.Prelude.{Bool, not, cond, ◌&&◌, List, [], ◌∷◌, ◌++◌, ℕ, zero, suc, ◌+◌, ◌*◌, ◌-◌, max, eqb, ltb, ℤ, set, take}
use Rattle.std.proofs.Math.Option.{Option, none, some}
use Rattle.std.specs.Int.Signed.{lt_z}
use Rattle.rules.specs.Limits.{nobody}
use Rattle.rules.specs.Threads.{Thread, State, at, scaled, is_inactive, is_non}
use Rattle.rules.specs.Table.{Answer, Done, Refused}
use Rattle.rules.specs.Completion.{ends, freed, receiver, completion}
use Rattle.rules.specs.Leaving.{gone}
use Rattle.rules.specs.Arrival.{arrival}
use Rattle.rules.specs.Drop.{dropped}
use Rattle.rules.specs.Step as tick
use Rattle.rules.specs.Step.{Outcome, Grant, Idle, ready, stepped}
use Rattle.rules.specs.Run.{state_after, ran}
use Rattle.rules.specs.Calls.{Call, complete, arrive, drop, step, run, apply}

-- what becomes of u × t − W when a thread becomes inactive: by leaving it is lost; at a completion another thread receives it,
-- or there is none that does, and it is lost
pub data Fate : Type 0 where
  left : Fate
  received : (receiver : ℕ) → Fate
  unreceived : Fate

-- something that was accepted, with the moment, or a tick; a granted one with E of its thread at the choice, that is u times
-- the deadline that it was granted under. Beside these, with the moment, that a thread becomes active by an arrival, and that
-- it becomes inactive, with u × t − W; an idle tick makes every thread inactive by itself
pub data Happening : Type 0 where
  completed : (thread moment : ℕ) → Happening
  arrived : (thread moment : ℕ) → Happening
  dropped_to_head : (thread moment : ℕ) → Happening
  granted : (thread tick : ℕ) (deadline : ℤ) → Happening
  idle_tick : (tick : ℕ) → Happening
  became_active : (thread moment : ℕ) → Happening
  became_inactive : (thread moment : ℕ) (freed : ℤ) (fate : Fate) → Happening

-- what is accepted happens; what is refused does not
abbrev pub if_done : Answer → List Happening → List Happening
if_done Done hs = hs
if_done (Refused n) hs = []

-- ---- who becomes inactive or active
-- step 1: "If none waits and W ≤ u × t, it becomes inactive", with its receiver in the state s, or without one
abbrev pub fate_of : ℕ → Fate
fate_of k = cond (eqb k nobody) unreceived (received k)

abbrev pub receiver_in : State → ℕ → ℕ
receiver_in s i = receiver s.count (at s.threads i) (set s.threads i (ends (at s.threads i)))

unfoldable pub retiring : State → ℕ → List Happening
retiring s i =
    cond (ltb 1 (at s.threads i).jobs) []
    (cond (lt_z (scaled (at s.threads i) s.clock.0) (at s.threads i).w.0) []
    (became_inactive i s.clock.0 (freed s.clock.0 (at s.threads i)) (fate_of (receiver_in s i)) ∷ []))

-- step 2: "Each non-contending thread with W ≤ u × t becomes inactive.", thread i, which is x, at the moment t
abbrev pub leaves : ℕ → Thread → Bool
leaves t x = is_non x.phase && not (lt_z (scaled x t) x.w.0)

abbrev pub leaving : ℕ → ℕ → Thread → List Happening
leaving t i x = cond (leaves t x) (became_inactive i t (freed t x) left ∷ []) []

-- .. the first n threads
unfoldable pub leaving_to : ℕ → List Thread → ℕ → List Happening
leaving_to t xs zero = []
leaving_to t xs (suc i) = leaving_to t xs i ++ leaving t i (at xs i)

-- .. all threads, where the moment has not had it yet
unfoldable pub leavings : State → List Happening
leavings s = cond s.closed [] (leaving_to s.clock.0 s.threads s.count)

-- step 3: "An inactive thread gets W = u × t, E = W + u × P and contends.", in the state s, after leaving
unfoldable pub waking : State → ℕ → List Happening
waking s i = cond (is_inactive (at s.threads i).phase) (became_active i s.clock.0 ∷ []) []

-- ---- what happens
abbrev pub tick_as : Outcome → State → List Happening
tick_as (Grant i) s = leavings s ++ (granted i s.clock.0 (at (ready s).threads i).e.0 ∷ [])
tick_as Idle s = leavings s ++ (idle_tick s.clock.0 ∷ [])
tick_as (tick.Refused n) s = []

-- the tick taken in the state s
unfoldable pub tick_of : State → List Happening
tick_of s = tick_as (stepped s).outcome s

-- k ticks from the state s on
unfoldable pub ticks_of : ℕ → State → List Happening
ticks_of zero s = []
ticks_of (suc k) s = ticks_of k s ++ tick_of (state_after k s)

abbrev pub run_as : Answer → ℕ → State → List Happening
run_as Done k s = ticks_of k s
run_as (Refused n) k s = []

-- what one call brings about
abbrev pub happens : State → Call → List Happening
happens s (complete i) = if_done (completion s i).answer (completed i s.clock.0 ∷ retiring s i)
happens s (arrive i) = if_done (arrival s i).answer (leavings s ++ (waking (gone s) i ++ (arrived i s.clock.0 ∷ [])))
happens s (drop i) = if_done (dropped s i).answer (dropped_to_head i s.clock.0 ∷ [])
happens s step = tick_of s
happens s (run to row) = run_as (ran s to row).result.answer (to - s.clock.0) s

-- the history of a sequence of calls from the state s on, the oldest first
unfoldable pub history : State → List Call → List Happening
history s [] = []
history s (c ∷ cs) = happens s c ++ history (apply s c) cs

-- ---- the jobs of one thread
-- a job that is neither completed nor dropped. "A job's length is the number of ticks its thread was granted for it."
pub record Job : Type 0 where
  pub arrival : ℕ
  pub length : ℕ

-- a completed job: its completion, and its dedicated completion time, times u
pub record Finished : Type 0 where
  pub job : Job
  pub completion : ℕ
  pub figure : ℕ

-- the jobs of one thread so far: those that wait, the one at the head first; the figure of the job completed last, if there
-- is one; and the completed jobs in order
pub record Account : Type 0 where
  pub waiting : List Job
  pub previous : Option ℕ
  pub finished : List Finished

abbrev pub no_jobs : Account
no_jobs = record { waiting = []; previous = none; finished = [] }

-- "The dedicated completion time, times u, is found job by job, over completed jobs in order: the greater of u × arrival and
-- the previous job's figure, plus Q × length. For the first job the arrival alone counts."
abbrev pub begins : ℕ → Option ℕ → Job → ℕ
begins u none j = u * j.arrival
begins u (some f) j = max (u * j.arrival) f

abbrev pub figure_of : ℕ → ℕ → Option ℕ → Job → ℕ
figure_of q u previous j = begins u previous j + q * j.length

-- a tick for the job at the head
abbrev pub longer : List Job → List Job
longer [] = []
longer (j ∷ js) = record { arrival = j.arrival; length = j.length + 1 } ∷ js

-- the job at the head is completed at the moment t
abbrev pub complete_head : ℕ → ℕ → ℕ → Account → List Job → Account
complete_head q u t g [] = g
complete_head q u t g (j ∷ js) = record {
  waiting = js;
  previous = some (figure_of q u g.previous j);
  finished = g.finished ++ (record { job = j; completion = t; figure = figure_of q u g.previous j } ∷ []);
}

abbrev pub with_waiting : Account → List Job → Account
with_waiting g js = record { waiting = js; previous = g.previous; finished = g.finished }

-- the account of thread i, whose share is u, after one thing more has happened
abbrev pub account_of : ℕ → ℕ → ℕ → Account → Happening → Account
account_of q u i g (completed k t) = cond (eqb k i) (complete_head q u t g g.waiting) g
account_of q u i g (arrived k t) = cond (eqb k i) (with_waiting g (g.waiting ++ (record { arrival = t; length = 0 } ∷ []))) g
account_of q u i g (dropped_to_head k t) = cond (eqb k i) (with_waiting g (take 1 g.waiting)) g
account_of q u i g (granted k t e) = cond (eqb k i) (with_waiting g (longer g.waiting)) g
account_of q u i g (idle_tick t) = g
account_of q u i g (became_active k t) = g
account_of q u i g (became_inactive k t z f) = g

-- .. and after a whole history
unfoldable pub account : ℕ → ℕ → ℕ → Account → List Happening → Account
account q u i g [] = g
account q u i g (h ∷ hs) = account q u i (account_of q u i g h) hs

-- ---- what a history has of thread i
-- the moments at which it completed a job, in order
unfoldable pub completions_of : ℕ → List Happening → List ℕ
completions_of i [] = []
completions_of i (completed k t ∷ hs) = cond (eqb k i) (t ∷ completions_of i hs) (completions_of i hs)
completions_of i (arrived k t ∷ hs) = completions_of i hs
completions_of i (dropped_to_head k t ∷ hs) = completions_of i hs
completions_of i (granted k t e ∷ hs) = completions_of i hs
completions_of i (idle_tick t ∷ hs) = completions_of i hs
completions_of i (became_active k t ∷ hs) = completions_of i hs
completions_of i (became_inactive k t z f ∷ hs) = completions_of i hs

-- how many ticks it was granted
unfoldable pub grants_to : ℕ → List Happening → ℕ
grants_to i [] = 0
grants_to i (completed k t ∷ hs) = grants_to i hs
grants_to i (arrived k t ∷ hs) = grants_to i hs
grants_to i (dropped_to_head k t ∷ hs) = grants_to i hs
grants_to i (granted k t e ∷ hs) = cond (eqb k i) 1 0 + grants_to i hs
grants_to i (idle_tick t ∷ hs) = grants_to i hs
grants_to i (became_active k t ∷ hs) = grants_to i hs
grants_to i (became_inactive k t z f ∷ hs) = grants_to i hs
