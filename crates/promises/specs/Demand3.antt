-- Demand 3 of the user, in his words, over the rules of document 01:
--
--   "For every admitted table and every sequence of calls from a fresh start, refused ones among them: a thread's virtual time
--   never passes its deadline; a granted tick ends no later than the deadline it was granted under; and each job completes
--   strictly earlier than one period of its thread after the time at which a dedicated processor of that thread's share would
--   have completed the thread's completed jobs up to it, in order. What other threads do cannot take this from it."
--
-- This file says it, as `Promised` at its end; Proved.antt has `demand_3`, which proves it. The last sentence is in the
-- quantifier: the calls are any calls, for any threads, in any order.
use Rattle.std.specs.Prelude.{◌≡◌, List, map, ℕ, ◌+◌, ◌*◌, ◌<◌, pos, ◌≤ℤ◌}
use Rattle.lists.specs.Sum.{sum_by}
use Rattle.lists.specs.All.{All}
use Rattle.rules.specs.Threads.{State, at}
use Rattle.rules.specs.Table.{Table, Done, meant, row_at, table_answer, start}
use Rattle.rules.specs.Step.{ready}
use Rattle.rules.specs.Calls.{Call, after}
use Rattle.rules.specs.History.{Happening, completed, arrived, dropped_to_head, granted, idle_tick, became_active, became_inactive, history, Job, Finished, Account, no_jobs, account, completions_of, grants_to}

-- "a thread's virtual time never passes its deadline": W ≤ E of every thread
abbrev pub WithinDeadline : State → Type 0
WithinDeadline s = (i : ℕ) → i < s.count → (at s.threads i).w.0 ≤ℤ (at s.threads i).e.0

-- "a granted tick ends no later than the deadline it was granted under": u × (tick + 1) ≤ E, with u the share of the thread
abbrev pub EndsInTime : (ℕ → ℕ) → Happening → Type 0
EndsInTime u (completed i m) = Unit {0}
EndsInTime u (arrived i m) = Unit {0}
EndsInTime u (dropped_to_head i m) = Unit {0}
EndsInTime u (granted i k e) = pos (u i * (k + 1)) ≤ℤ e
EndsInTime u (idle_tick k) = Unit {0}
EndsInTime u (became_active i m) = Unit {0}
EndsInTime u (became_inactive i m z f) = Unit {0}

-- "each job completes strictly earlier than one period of its thread after [its dedicated completion]":
-- u × completion < figure + u × P
abbrev pub OnTime : ℕ → ℕ → Finished → Type 0
OnTime u p f = u * f.completion < f.figure + u * p

-- nothing is left out of the account g of thread i, whose history is hs: each accepted completion is one of its completed jobs
abbrev pub EachCompletion : ℕ → Account → List Happening → Type 0
EachCompletion i g hs = map (λ (f : Finished). f.completion) g.finished ≡ completions_of i hs

-- .. and each granted tick is in the length of one of its jobs
abbrev pub EachTick : ℕ → Account → List Happening → Type 0
EachTick i g hs = sum_by (λ (f : Finished). f.job.length) g.finished + sum_by (λ (j : Job). j.length) g.waiting ≡ grants_to i hs

-- a table and a sequence of calls from its fresh start
module _ (usual : ℕ) (t : Table) (cs : List Call) where
  abbrev pub now : State
  now = after (start usual t) cs

  abbrev pub past : List Happening
  past = history (start usual t) cs

  -- the share and the period of thread i, and its jobs
  abbrev pub share_of : ℕ → ℕ
  share_of i = (row_at t.rows i).share

  abbrev pub period_of : ℕ → ℕ
  period_of i = meant usual (row_at t.rows i).period

  abbrev pub jobs_of : ℕ → Account
  jobs_of i = account t.q (share_of i) i no_jobs past

  pub record Demand3 : Type 0 where
    -- after every call, and at every choice
    pub virtual_time : WithinDeadline now × WithinDeadline (ready now)
    pub granted_ticks : All (EndsInTime share_of) past
    pub jobs : (i : ℕ) → i < t.threads → All (OnTime (share_of i) (period_of i)) (jobs_of i).finished
    pub all_jobs : (i : ℕ) → i < t.threads → EachCompletion i (jobs_of i) past
    pub all_ticks : (i : ℕ) → i < t.threads → EachTick i (jobs_of i) past

-- "For every admitted table and every sequence of calls from a fresh start, refused ones among them", whatever 0 stands for
abbrev pub Promised : Type 0
Promised = (usual : ℕ) (t : Table) → table_answer usual t ≡ Done → (cs : List Call) → Demand3 usual t cs
