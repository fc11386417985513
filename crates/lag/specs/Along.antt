-- Every call keeps the own stretch of a thread: what is read off the history agrees with the thread.
use Rattle.std.proofs.Common.{sym, arith}
use Rattle.std.proofs.Math.Path.{subst}
use mathlib.Core.List.{List, [], ◌∷◌, ◌++◌}
use Prim.Native.Nat.{ℕ, zero, suc, ◌-◌, ◌<◌}
use Rattle.std.proofs.Math.Dec.{T}
use Rattle.rules.specs.Threads.{State, at, contends}
use Rattle.rules.specs.Table.{Answered}
use Rattle.rules.specs.Completion.{completion}
use Rattle.rules.specs.Leaving.{gone}
use Rattle.rules.specs.Arrival.{arrival}
use Rattle.rules.specs.Drop.{dropped}
use Rattle.rules.specs.Choice.{chosen}
use Rattle.rules.specs.Step.{Stepped, ready, stepped}
use Rattle.rules.specs.Run.{Ran, state_after, ran}
use Rattle.rules.specs.Calls as calls
use Rattle.rules.specs.Calls.{Call, apply, after}
use Rattle.rules.specs.History.{arrived as arrived-at, completed, granted, idle_tick, dropped_to_head, if_done, retiring, waking, leavings, tick_as, tick_of, ticks_of, run_as, happens, history}
use Rattle.rules.specs.Stretches.{Activity}
use Rattle.promises.specs.Branches.{by_completion, by_arrival, by_drop, by_step, by_run}
use Rattle.promises.specs.Good.{Good}
use Rattle.promises.specs.Keep.{fine_at}
use Rattle.promises.specs.Ready.{gone_beside, ready_ready, chosen_leads}
use Rattle.promises.specs.Always.{steps_good, apply_good}
use Rattle.lag.specs.Mine.{mine_of, mine, mine_append}
use Rattle.lag.specs.Kept.{Kept, gone_kept, fitted_kept, idle_kept, grant_kept, arrived_kept, drop_kept, completed_kept}

-- ---- the calls, but for a run
module _ {i : ℕ} {c : Activity} {s : State} (good : Good s) (k : Kept i c s) where
  q_pos : 0 < s.q
  q_pos = let f = fine_at good.rows i k.inside in omega (arith, f.share_min, f.share_max)

  tick_kept : Kept i (mine i c (tick_of s)) (stepped s).state
  unfolding tick_of mine mine_of
  tick_kept =
      by_step s After (λ _. k)
      (λ _ _. rw (mine_append i c (leavings s) (idle_tick s.clock.0 ∷ [])) (idle_kept z))
      (λ _ n. rw (mine_append i c (leavings s) (granted (chosen (ready s)) s.clock.0 (at (ready s).threads (chosen (ready s))).e.0 ∷ [])) (grant_kept z (chosen (ready s)) (chosen_leads (ready_ready good) n).leads.runs))
    where
      z : Kept i (mine i c (leavings s)) (ready s)
      z = fitted_kept (gone_kept k)

      After : Stepped → Type 0
      After r = Kept i (mine i c (tick_as r.outcome s)) r.state

  arrival_kept : (j : ℕ) → Kept i (mine i c (happens s (calls.arrive j))) (arrival s j).state
  unfolding mine mine_of
  arrival_kept j =
      by_arrival s After j (λ _. k)
      (λ _ _. rw (
        mine_append i c (leavings s) (waking (gone s) j ++ (arrived-at j s.clock.0 ∷ [])),
        mine_append i (mine i c (leavings s)) (waking (gone s) j) (arrived-at j s.clock.0 ∷ []),
      ) (arrived_kept (gone_kept k) (omega (arith, q_pos, (gone_beside s).q)) j))
    where
      After : Answered → Type 0
      After r = Kept i (mine i c (if_done r.answer (leavings s ++ (waking (gone s) j ++ (arrived-at j s.clock.0 ∷ []))))) r.state

  drops_kept : (j : ℕ) → Kept i (mine i c (happens s (calls.drop j))) (dropped s j).state
  unfolding mine mine_of
  drops_kept j = by_drop s After j (λ _. k) (λ _. drop_kept k j)
    where
      After : Answered → Type 0
      After r = Kept i (mine i c (if_done r.answer (dropped_to_head j s.clock.0 ∷ []))) r.state

  -- who completes contends
  completion_kept : (j : ℕ) → Kept i (mine i c (happens s (calls.complete j))) (completion s j).state
  unfolding mine mine_of
  completion_kept j = by_completion s After j (λ _. k) (λ h c d e. completed_kept k q_pos j (λ _. subst (λ n. T (contends (at s.threads n))) (sym e) (good.head_start c d (omega (arith, h, e))).runs))
    where
      After : Answered → Type 0
      After r = Kept i (mine i c (if_done r.answer (completed j s.clock.0 ∷ retiring s j))) r.state

-- ---- every call, and every sequence of calls
module _ {i : ℕ} where
  ticks_kept : (n : ℕ) {c : Activity} {s : State} → Good s → Kept i c s → Kept i (mine i c (ticks_of n s)) (state_after n s)
  unfolding state_after ticks_of mine
  ticks_kept zero good k = k
  ticks_kept (suc n) {c} {s} good k = rw (mine_append i c (ticks_of n s) (tick_of (state_after n s))) (tick_kept (steps_good n good) (ticks_kept n good k))

  run_kept : (to : ℕ) (row : List ℕ) {c : Activity} {s : State} → Good s → Kept i c s → Kept i (mine i c (happens s (calls.run to row))) (ran s to row).result.state
  unfolding mine
  run_kept to row {c} {s} good k = by_run s After to row (λ _. k) (ticks_kept (to - s.clock.0) good k)
    where
      After : Ran → Type 0
      After r = Kept i (mine i c (run_as r.result.answer (to - s.clock.0) s)) r.result.state

  call_kept : (d : Call) {c : Activity} {s : State} → Good s → Kept i c s → Kept i (mine i c (happens s d)) (apply s d)
  call_kept (calls.complete j) good k = completion_kept good k j
  call_kept (calls.arrive j) good k = arrival_kept good k j
  call_kept (calls.drop j) good k = drops_kept good k j
  call_kept calls.step good k = tick_kept good k
  call_kept (calls.run to row) good k = run_kept to row good k

  pub after_kept : (cs : List Call) {c : Activity} {s : State} → Good s → Kept i c s → Kept i (mine i c (history s cs)) (after s cs)
  unfolding mine history after
  after_kept [] good k = k
  after_kept (d ∷ cs) {c} {s} good k = rw (mine_append i c (happens s d) (history (apply s d) cs)) (after_kept cs (apply_good d good) (call_kept d good k))
