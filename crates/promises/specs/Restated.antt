-- Demand 3 a second time, written from its words and from document 01 apart from Demand3.antt: from a table, calls, what they answer
-- and the states in which they are made; without the history, the accounts and the figures of rules/History.
--
-- `Promised` at the end is what is claimed. Derivation.antt derives it from Demand3's `Promised` alone, so that no part of that
-- can say less without this being lost.
use Rattle.std.specs.Prelude.{◌≡◌, cond, List, [], ◌∷◌, ◌++◌, map, ℕ, zero, suc, ◌+◌, ◌*◌, ◌-◌, ◌<◌, max, eqb, pos, ◌≤ℤ◌}
use Rattle.lists.specs.Sum.{sum_by}
use Rattle.lists.specs.All.{All}
use Rattle.rules.specs.Threads.{State, at}
use Rattle.rules.specs.Table.{Table, Answer, Done, Refused, meant, row_at, table_answer, start}
use Rattle.rules.specs.Completion.{completion}
use Rattle.rules.specs.Arrival.{arrival}
use Rattle.rules.specs.Drop.{dropped}
use Rattle.rules.specs.Step as steps
use Rattle.rules.specs.Step.{Outcome, Grant, Idle, ready, stepped}
use Rattle.rules.specs.Run.{ran}
use Rattle.rules.specs.Calls.{Call, complete, arrive, drop, step, run, apply, after}

-- ---- the turns of a sequence of calls
-- what is asked: an event of a thread, or a tick
pub data Asked : Type 0 where
  completion_of : (thread : ℕ) → Asked
  arrival_of : (thread : ℕ) → Asked
  drop_of : (thread : ℕ) → Asked
  tick : Asked

-- .. and the state in which it is asked
pub record Turn : Type 0 where
  pub state : State
  pub asked : Asked

abbrev pub turn : State → Asked → Turn
turn s a = record { state = s; asked = a }

-- a run that is accepted is a tick, and another one, and so on; one that is refused is nothing
unfoldable pub ticks : ℕ → State → List Turn
ticks zero s = []
ticks (suc n) s = turn s tick ∷ ticks n (stepped s).state

abbrev pub if_accepted : {A : Type 0} → Answer → A → A → A
if_accepted Done x y = x
if_accepted (Refused n) x y = y

abbrev pub turns_of : State → Call → List Turn
turns_of s (complete i) = turn s (completion_of i) ∷ []
turns_of s (arrive i) = turn s (arrival_of i) ∷ []
turns_of s (drop i) = turn s (drop_of i) ∷ []
turns_of s step = turn s tick ∷ []
turns_of s (run to row) = if_accepted (ran s to row).result.answer (ticks (to - s.clock.0) s) []

unfoldable pub turns : State → List Call → List Turn
turns s [] = []
turns s (c ∷ cs) = turns_of s c ++ turns (apply s c) cs

-- ---- "a thread's virtual time never passes its deadline"
abbrev pub NotPast : ℕ → State → Type 0
NotPast i s = (at s.threads i).w.0 ≤ℤ (at s.threads i).e.0

-- in the state in which something is asked, and as it is at a choice there
abbrev pub NeverPast : ℕ → Turn → Type 0
NeverPast i m = NotPast i m.state × NotPast i (ready m.state)

-- ---- "a granted tick ends no later than the deadline it was granted under": by what the tick in the state s answers
abbrev pub EndsAs : (ℕ → ℕ) → State → Outcome → Type 0
EndsAs u s (Grant i) = pos (u i * (s.clock.0 + 1)) ≤ℤ (at (ready s).threads i).e.0
EndsAs u s Idle = Unit {0}
EndsAs u s (steps.Refused n) = Unit {0}

abbrev pub EndsWell : (ℕ → ℕ) → State → Asked → Type 0
EndsWell u s (completion_of i) = Unit {0}
EndsWell u s (arrival_of i) = Unit {0}
EndsWell u s (drop_of i) = Unit {0}
EndsWell u s tick = EndsAs u s (stepped s).outcome

-- ---- the jobs of a thread
-- "A job's length is the number of ticks its thread was granted for it.", so far
pub record Waiting : Type 0 where
  pub arrival : ℕ
  pub length : ℕ

pub record Completed : Type 0 where
  pub arrival : ℕ
  pub length : ℕ
  pub completion : ℕ

-- those neither completed nor dropped, the one at the head first, and the completed ones in order
pub record Jobs : Type 0 where
  pub waiting : List Waiting
  pub completed : List Completed

-- the ticks in all of them
abbrev pub lengths : Jobs → ℕ
lengths b = sum_by (λ (j : Completed). j.length) b.completed + sum_by (λ (j : Waiting). j.length) b.waiting

abbrev pub nothing : Jobs
nothing = record { waiting = []; completed = [] }

abbrev pub arrives : ℕ → Jobs → Jobs
arrives m b = record { waiting = b.waiting ++ (record { arrival = m; length = 0 } ∷ []); completed = b.completed }

-- "A drop event leaves a thread only the job at its head"
abbrev pub head_of : List Waiting → List Waiting
head_of [] = []
head_of (j ∷ js) = j ∷ []

abbrev pub drops : Jobs → Jobs
drops b = record { waiting = head_of b.waiting; completed = b.completed }

abbrev pub longer : List Waiting → List Waiting
longer [] = []
longer (j ∷ js) = record { arrival = j.arrival; length = j.length + 1 } ∷ js

abbrev pub works : Jobs → Jobs
works b = record { waiting = longer b.waiting; completed = b.completed }

abbrev pub finishes : ℕ → List Waiting → Jobs → Jobs
finishes m [] b = b
finishes m (j ∷ js) b = record {
  waiting = js;
  completed = b.completed ++ (record { arrival = j.arrival; length = j.length; completion = m } ∷ []);
}

-- what a turn in the state s is to the jobs of thread i
abbrev pub grant_jobs : ℕ → Outcome → Jobs → Jobs
grant_jobs i (Grant k) b = cond (eqb k i) (works b) b
grant_jobs i Idle b = b
grant_jobs i (steps.Refused n) b = b

abbrev pub turn_jobs : ℕ → State → Asked → Jobs → Jobs
turn_jobs i s (completion_of k) b = if_accepted (completion s k).answer (cond (eqb k i) (finishes s.clock.0 b.waiting b) b) b
turn_jobs i s (arrival_of k) b = if_accepted (arrival s k).answer (cond (eqb k i) (arrives s.clock.0 b) b) b
turn_jobs i s (drop_of k) b = if_accepted (dropped s k).answer (cond (eqb k i) (drops b) b) b
turn_jobs i s tick b = grant_jobs i (stepped s).outcome b

unfoldable pub jobs_after : ℕ → Jobs → List Turn → Jobs
jobs_after i b [] = b
jobs_after i b (m ∷ ms) = jobs_after i (turn_jobs i m.state m.asked b) ms

-- "the time at which a dedicated processor of that thread's share would have completed the thread's completed jobs up to it, in
-- order", times u: it begins a job when the job has arrived and the job before is completed, and works u share-ticks a tick on it
-- until it has done Q × length; `free`, times u too, is since when it has nothing to do
unfoldable pub done_by : ℕ → ℕ → ℕ → List Completed → ℕ
done_by q u free [] = free
done_by q u free (j ∷ js) = done_by q u (max (u * j.arrival) free + q * j.length) js

-- "each job completes strictly earlier than one period of its thread after" that: each job, with the jobs before it
abbrev pub EachOnTime : (q u p : ℕ) → List Completed → Type 0
EachOnTime q u p js =
    (before : List Completed) (j : Completed) (rest : List Completed) → js ≡ before ++ (j ∷ rest)
    → u * j.completion < done_by q u 0 (before ++ (j ∷ [])) + u * p

-- ---- nothing is left out of the jobs: the moments at which the thread completed, and its granted ticks
abbrev pub moment_of : ℕ → State → Asked → List ℕ
moment_of i s (completion_of k) = if_accepted (completion s k).answer (cond (eqb k i) (s.clock.0 ∷ []) []) []
moment_of i s (arrival_of k) = []
moment_of i s (drop_of k) = []
moment_of i s tick = []

unfoldable pub moments : ℕ → List Turn → List ℕ
moments i [] = []
moments i (m ∷ ms) = moment_of i m.state m.asked ++ moments i ms

abbrev pub grant_of : ℕ → Outcome → ℕ
grant_of i (Grant k) = cond (eqb k i) 1 0
grant_of i Idle = 0
grant_of i (steps.Refused n) = 0

abbrev pub tick_of : ℕ → State → Asked → ℕ
tick_of i s (completion_of k) = 0
tick_of i s (arrival_of k) = 0
tick_of i s (drop_of k) = 0
tick_of i s tick = grant_of i (stepped s).outcome

unfoldable pub grants : ℕ → List Turn → ℕ
grants i [] = 0
grants i (m ∷ ms) = tick_of i m.state m.asked + grants i ms

-- ---- a table and a sequence of calls from its fresh start
module _ (usual : ℕ) (t : Table) (cs : List Call) where
  abbrev pub all : List Turn
  all = turns (start usual t) cs

  abbrev pub share : ℕ → ℕ
  share i = (row_at t.rows i).share

  abbrev pub period : ℕ → ℕ
  period i = meant usual (row_at t.rows i).period

  abbrev pub jobs_of : ℕ → Jobs
  jobs_of i = jobs_after i nothing all

  pub record Restated : Type 0 where
    -- at every turn, and after the last
    pub virtual_time : (i : ℕ) → i < t.threads → All (NeverPast i) all × NotPast i (after (start usual t) cs)
    pub granted_ticks : All (λ (m : Turn). EndsWell share m.state m.asked) all
    pub jobs : (i : ℕ) → i < t.threads → EachOnTime t.q (share i) (period i) (jobs_of i).completed
    pub all_jobs : (i : ℕ) → i < t.threads → map (λ (j : Completed). j.completion) (jobs_of i).completed ≡ moments i all
    pub all_ticks : (i : ℕ) → i < t.threads → lengths (jobs_of i) ≡ grants i all

-- "For every admitted table and every sequence of calls from a fresh start, refused ones among them"
abbrev pub Promised : Type 0
Promised = (usual : ℕ) (t : Table) → table_answer usual t ≡ Done → (cs : List Call) → Restated usual t cs
