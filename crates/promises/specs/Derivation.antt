-- The restatement follows from the statement of demand 3 alone, whatever proves that.
use Rattle.std.specs.Prelude.{◌≡◌}
use Rattle.std.proofs.Math.Path.{refl, ap, ap₂}
use Rattle.std.proofs.Common.{sym, ◌∙◌, subst, arith}
use mathlib.Core.List.{List, [], ◌∷◌, ◌++◌, map}
use Prim.Native.Nat.{ℕ, zero, suc, ◌+◌, ◌-◌, ◌<◌}
use Rattle.lists.specs.Sum.{sum_by}
use Rattle.lists.specs.All.{All, none, more, all_append}
use Rattle.rules.specs.Threads.{State}
use Rattle.rules.specs.Table.{Table, Answer, Done, Refused, table_answer, start}
use Rattle.rules.specs.Step as steps
use Rattle.rules.specs.Step.{Outcome, Grant, Idle, ready, stepped}
use Rattle.rules.specs.Run.{ran}
use Rattle.rules.specs.Calls as calls
use Rattle.rules.specs.Calls.{Call, apply, after}
use Rattle.rules.specs.History as history
use Rattle.rules.specs.History.{Happening, leavings, tick_as, happens, Job, Finished, Account, no_jobs, account, completions_of, grants_to}
use Rattle.promises.specs.Unchanged.{ready_same, calls_same}
use Rattle.promises.specs.Demand3 as demand
use Rattle.promises.specs.Demand3.{EndsInTime}
use Rattle.promises.specs.Restated.{Asked, completion_of, arrival_of, drop_of, tick, Turn, ticks, if_accepted, turns_of, turns, NotPast, EndsAs, EndsWell, Waiting, Completed, Jobs, lengths, jobs_after, EachOnTime, moments, grants, share, period, Restated, Promised}
use Rattle.promises.specs.Turns.{call_of, told, history_told, as_waiting, as_completed, as_jobs, jobs_told, moments_told, grants_told}
use Rattle.promises.specs.Dedicated.{right_first, right_all, each_on_time}

-- ---- the virtual times: what holds after any calls from s holds in each state on the way
module _ (P : State → Type 0) where
  abbrev Always : State → Type 0
  Always s = (cs : List Call) → P (after s cs)

  abbrev AtTurns : List Turn → Type 0
  AtTurns = All (λ (m : Turn). P m.state)

  present : (s : State) → Always s → P s
  unfolding after
  present s h = h []

  onward : (s : State) → Always s → (c : Call) → Always (apply s c)
  unfolding after
  onward s h c cs = h (c ∷ cs)

  at_ticks : (k : ℕ) (s : State) → Always s → AtTurns (ticks k s)
  unfolding ticks
  at_ticks zero s h = none
  at_ticks (suc k) s h = more (present s h) (at_ticks k (stepped s).state (onward s h calls.step))

  at_run : (a : Answer) (k : ℕ) (s : State) → Always s → AtTurns (if_accepted a (ticks k s) [])
  at_run Done k s h = at_ticks k s h
  at_run (Refused n) k s h = none

  at_call : (c : Call) (s : State) → Always s → AtTurns (turns_of s c)
  at_call (calls.complete i) s h = more (present s h) none
  at_call (calls.arrive i) s h = more (present s h) none
  at_call (calls.drop i) s h = more (present s h) none
  at_call calls.step s h = more (present s h) none
  at_call (calls.run to row) s h = at_run (ran s to row).result.answer (to - s.clock.0) s h

  at_turns : (cs : List Call) (s : State) → Always s → AtTurns (turns s cs)
  unfolding turns
  at_turns [] s h = none
  at_turns (c ∷ cs) s h = all_append (at_call c s h) (at_turns cs (apply s c) (onward s h c))

-- ---- the granted ticks
all_first : {P : Happening → Type 0} (hs ks : List Happening) → All P (hs ++ ks) → All P hs
all_first [] ks a = none
all_first (h ∷ hs) ks (more p a) = more p (all_first hs ks a)

all_rest : {P : Happening → Type 0} (hs ks : List Happening) → All P (hs ++ ks) → All P ks
all_rest [] ks a = a
all_rest (h ∷ hs) ks (more p a) = all_rest hs ks a

module _ (u : ℕ → ℕ) where
  tick_ends : (s : State) (o : Outcome) → All (EndsInTime u) (tick_as o s) → EndsAs u s o
  tick_ends s (Grant i) a = last (all_rest (leavings s) _ a)
    where
      last : {h : Happening} → All (EndsInTime u) (h ∷ []) → EndsInTime u h
      last (more p none) = p
  tick_ends s Idle a = tt
  tick_ends s (steps.Refused n) a = tt

  turn_ends : (s : State) (a : Asked) → All (EndsInTime u) (happens s (call_of a)) → EndsWell u s a
  unfolding history.tick_of
  turn_ends s (completion_of i) h = tt
  turn_ends s (arrival_of i) h = tt
  turn_ends s (drop_of i) h = tt
  turn_ends s tick h = tick_ends s (stepped s).outcome h

  all_end : (ms : List Turn) → All (EndsInTime u) (told ms) → All (λ (m : Turn). EndsWell u m.state m.asked) ms
  unfolding told
  all_end [] a = none
  all_end (m ∷ ms) a = let h = happens m.state (call_of m.asked) in more (turn_ends m.state m.asked (all_first h (told ms) a)) (all_end ms (all_rest h (told ms) a))

-- ---- all of it
module _ (promise : demand.Promised) (usual : ℕ) (t : Table) (admitted : table_answer usual t ≡ Done) where
  abbrev from : State
  from = start usual t

  threads_same : (cs : List Call) → (after from cs).count ≡ t.threads
  unfolding start
  threads_same cs = (calls_same cs from).count

  within : (i : ℕ) → i < t.threads → (cs : List Call) → NotPast i (after from cs) × NotPast i (ready (after from cs))
  within i l cs =
      let d = (promise usual t admitted cs).virtual_time in
      (d.0 i (omega (arith, threads_same cs)), d.1 i (omega (arith, threads_same cs, (ready_same (after from cs)).count)))

  module _ (cs : List Call) where
    abbrev ms : List Turn
    ms = turns from cs

    past_told : demand.past usual t cs ≡ told ms
    past_told = history_told from cs

    module _ (i : ℕ) (l : i < t.threads) where
      abbrev u : ℕ
      u = share usual t cs i

      abbrev p : ℕ
      p = period usual t cs i

      abbrev g : Account
      g = account t.q u i no_jobs (demand.past usual t cs)

      jobs_are : as_jobs g ≡ jobs_after i (as_jobs no_jobs) ms
      jobs_are = ap (λ (hs : List Happening). as_jobs (account t.q u i no_jobs hs)) past_told ∙ jobs_told t.q u i ms no_jobs

      on_time : EachOnTime t.q u p (jobs_after i (as_jobs no_jobs) ms).completed
      on_time = subst (λ (b : Jobs). EachOnTime t.q u p b.completed) jobs_are
          (each_on_time t.q u p g.finished 0 (right_all t.q u i (demand.past usual t cs) no_jobs (right_first t.q u)).figured ((promise usual t admitted cs).jobs i l))

      abbrev moments_in : Jobs → List ℕ
      moments_in b = map (λ (j : Completed). j.completion) b.completed

      every_completion : moments_in (jobs_after i (as_jobs no_jobs) ms) ≡ moments i ms
      every_completion =
          ap moments_in (sym jobs_are)
          ∙ map_map g.finished
          ∙ (promise usual t admitted cs).all_jobs i l
          ∙ ap (completions_of i) past_told
          ∙ moments_told i ms
        where
          map_map : (fs : List Finished) → map (λ (j : Completed). j.completion) (map as_completed fs) ≡ map (λ (f : Finished). f.completion) fs
          map_map [] = refl
          map_map (f ∷ fs) = ap (λ (l : List ℕ). f.completion ∷ l) (map_map fs)

      every_tick : lengths (jobs_after i (as_jobs no_jobs) ms) ≡ grants i ms
      unfolding sum_by
      every_tick =
          ap lengths (sym jobs_are)
          ∙ ap₂ ◌+◌ (completed_ticks g.finished) (waiting_ticks g.waiting)
          ∙ (promise usual t admitted cs).all_ticks i l
          ∙ ap (grants_to i) past_told
          ∙ grants_told i ms
        where
          completed_ticks : (fs : List Finished) → sum_by (λ (j : Completed). j.length) (map as_completed fs) ≡ sum_by (λ (f : Finished). f.job.length) fs
          completed_ticks [] = refl
          completed_ticks (f ∷ fs) = ap (λ (n : ℕ). f.job.length + n) (completed_ticks fs)

          waiting_ticks : (js : List Job) → sum_by (λ (j : Waiting). j.length) (map as_waiting js) ≡ sum_by (λ (j : Job). j.length) js
          waiting_ticks [] = refl
          waiting_ticks (j ∷ js) = ap (λ (n : ℕ). j.length + n) (waiting_ticks js)

    ticks_end : All (λ (m : Turn). EndsWell (share usual t cs) m.state m.asked) ms
    ticks_end = all_end (share usual t cs) ms (subst (All (EndsInTime (share usual t cs))) past_told (promise usual t admitted cs).granted_ticks)

    restated : Restated usual t cs
    restated = record {
      virtual_time = λ i l. (at_turns (λ (s : State). NotPast i s × NotPast i (ready s)) cs from (within i l), (within i l cs).0);
      granted_ticks = ticks_end;
      jobs = on_time;
      all_jobs = every_completion;
      all_ticks = every_tick;
    }

pub follows : demand.Promised → Promised
follows promise usual t admitted cs = restated promise usual t admitted cs
