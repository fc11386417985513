-- Every call and every sequence of calls keeps where the applications stand, and every stretch that it ends without an idle tick is
-- even.
use mathlib.Core.List.{List, [], ◌∷◌, ◌++◌}
use Prim.Native.Nat.{ℕ, zero, suc, ◌-◌, ◌<◌}
use Rattle.std.proofs.Common.{arith}
use Rattle.lists.specs.All.{none}
use Rattle.rules.specs.Threads.{State, at}
use Rattle.rules.specs.Table.{Table, Answered}
use Rattle.rules.specs.Completion.{completion, after_completion}
use Rattle.rules.specs.Leaving.{gone}
use Rattle.rules.specs.Arrival.{arrival, arrived}
use Rattle.rules.specs.Drop.{dropped}
use Rattle.rules.specs.Choice.{chosen}
use Rattle.rules.specs.Step.{Stepped, ready, stepped}
use Rattle.rules.specs.Run.{Ran, state_after, ran}
use Rattle.rules.specs.Calls as calls
use Rattle.rules.specs.Calls.{Call, apply, after}
use Rattle.rules.specs.History.{completed, arrived as arrived-at, dropped_to_head, if_done, retiring, waking, leavings, tick_as, tick_of, ticks_of, run_as, happens, history}
use Rattle.rules.specs.Stretches.{Activity, noted, activities, ends, app_of}
use Rattle.promises.specs.Branches.{by_completion, by_arrival, by_drop, by_step, by_run}
use Rattle.promises.specs.Good.{Good, Leads}
use Rattle.promises.specs.Keep.{fine_at}
use Rattle.promises.specs.Ready.{gone_beside, gone_good, ready_ready, chosen_leads}
use Rattle.promises.specs.Always.{steps_good, apply_good}
use Rattle.stretches.specs.Standing.{Kept}
use Rattle.stretches.specs.Goes.{goes_nowhere, goes_one, goes_on_lem}
use Rattle.stretches.specs.Leavings.{GoesTo, goes_gone}
use Rattle.stretches.specs.Events.{goes_dropping, goes_arriving, goes_completing}
use Rattle.stretches.specs.Ticks.{kept_fitted, goes_idle, goes_grant, runs_active}

module _ {t : Table} (s : State) {cs : List Activity} (good : Good s) (k : Kept t s cs) where
  -- ---- the parts of a step
  pub kept_gone : Kept t (gone s) (activities (app_of t) cs (leavings s))
  kept_gone = (goes_gone s k).held

  pub kept_ready : Kept t (ready s) (activities (app_of t) cs (leavings s))
  kept_ready = kept_fitted (gone s) kept_gone

  pub goes_tick : GoesTo t (stepped s).state cs (tick_of s)
  unfolding tick_of
  goes_tick =
      by_step s (λ (r : Stepped). GoesTo t r.state cs (tick_as r.outcome s)) (λ _. goes_nowhere k)
      (λ _ e. goes_on_lem (goes_gone s k) (goes_idle (ready s) s.clock.0 kept_ready))
      (λ _ n. goes_on_lem (goes_gone s k) (goes_grant (ready s) kept_ready (ready_ready good).sound.rows (chosen (ready s)) (chosen_leads (ready_ready good) n) s.clock.0 _))

  -- ---- the events
  arrived_goes : (i : ℕ) → i < s.count → GoesTo t (arrived (gone s) i) cs (leavings s ++ (waking (gone s) i ++ (arrived-at i s.clock.0 ∷ [])))
  unfolding waking noted ends
  arrived_goes i h =
      let l : i < (gone s).count = omega (arith, (gone_beside s).count) in
      let a = goes_arriving kept_gone i l (fine_at (gone_good good).0.rows i l).share_max in
      goes_on_lem (goes_gone s k) (goes_on_lem a (goes_one (arrived-at i s.clock.0) a.held none tt))

  goes_arrival : (i : ℕ) → GoesTo t (arrival s i).state cs (happens s (calls.arrive i))
  goes_arrival i =
      by_arrival s (λ (r : Answered). GoesTo t r.state cs (if_done r.answer (leavings s ++ (waking (gone s) i ++ (arrived-at i s.clock.0 ∷ []))))) i
      (λ _. goes_nowhere k) (λ h _. arrived_goes i h)

  goes_drop : (i : ℕ) → GoesTo t (dropped s i).state cs (happens s (calls.drop i))
  goes_drop i =
      by_drop s (λ (r : Answered). GoesTo t r.state cs (if_done r.answer (dropped_to_head i s.clock.0 ∷ []))) i
      (λ _. goes_nowhere k) (λ h. goes_dropping k i h)

  pub completed_goes : (i : ℕ) → i < s.count → Leads s.count s.threads i → GoesTo t (after_completion s i) cs (completed i s.clock.0 ∷ retiring s i)
  unfolding after_completion retiring activities noted ends
  completed_goes i h l = goes_on_lem (goes_one (completed i s.clock.0) k none tt) (goes_completing k i h (runs_active (at s.threads i).phase l.runs))

  goes_completion : (i : ℕ) → GoesTo t (completion s i).state cs (happens s (calls.complete i))
  goes_completion i =
      by_completion s (λ (r : Answered). GoesTo t r.state cs (if_done r.answer (completed i s.clock.0 ∷ retiring s i))) i
      (λ _. goes_nowhere k) (λ h c d e. completed_goes i h (rw e (good.head_start c d (rw (← e) h))))

-- ---- every call, and every sequence of calls
module _ {t : Table} where
  pub goes_ticks : (n : ℕ) (s : State) {cs : List Activity} → Good s → Kept t s cs → GoesTo t (state_after n s) cs (ticks_of n s)
  unfolding state_after ticks_of
  goes_ticks zero s good k = goes_nowhere k
  goes_ticks (suc n) s good k = let g = goes_ticks n s good k in goes_on_lem g (goes_tick (state_after n s) (steps_good n good) g.held)

  goes_run : (to : ℕ) (row : List ℕ) (s : State) {cs : List Activity} → Good s → Kept t s cs → GoesTo t (ran s to row).result.state cs (happens s (calls.run to row))
  goes_run to row s {cs} good k =
      by_run s (λ (r : Ran). GoesTo t r.result.state cs (run_as r.result.answer (to - s.clock.0) s)) to row
      (λ _. goes_nowhere k) (goes_ticks (to - s.clock.0) s good k)

  pub goes_call : (c : Call) (s : State) {cs : List Activity} → Good s → Kept t s cs → GoesTo t (apply s c) cs (happens s c)
  goes_call (calls.complete i) s good k = goes_completion s good k i
  goes_call (calls.arrive i) s good k = goes_arrival s good k i
  goes_call (calls.drop i) s good k = goes_drop s good k i
  goes_call calls.step s good k = goes_tick s good k
  goes_call (calls.run to row) s good k = goes_run to row s good k

  pub goes_after : (ds : List Call) (s : State) {cs : List Activity} → Good s → Kept t s cs → GoesTo t (after s ds) cs (history s ds)
  unfolding after history
  goes_after [] s good k = goes_nowhere k
  goes_after (d ∷ ds) s good k = let g = goes_call d s good k in goes_on_lem g (goes_after ds (apply s d) (apply_good d good) g.held)

  -- ---- the activities alone
  pub kept_ticks : (n : ℕ) (s : State) {cs : List Activity} → Good s → Kept t s cs → Kept t (state_after n s) (activities (app_of t) cs (ticks_of n s))
  kept_ticks n s good k = (goes_ticks n s good k).held

  pub kept_call : (c : Call) (s : State) {cs : List Activity} → Good s → Kept t s cs → Kept t (apply s c) (activities (app_of t) cs (happens s c))
  kept_call c s good k = (goes_call c s good k).held
