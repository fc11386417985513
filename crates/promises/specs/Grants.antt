-- Every granted tick of a history ends no later than the deadline that it was granted under.
use Rattle.std.specs.Prelude.{◌≡◌, pos, ◌≤ℤ◌}
use Rattle.std.proofs.Common.{sym, ap, ap₂, ◌∙◌, arith}
use mathlib.Core.List.{List, [], ◌∷◌}
use Prim.Native.Nat.{ℕ, zero, suc, ◌+◌, ◌*◌, ◌-◌, ◌<◌}
use Rattle.integers.specs.Parts.{parts_le}
use Rattle.lists.specs.All.{All, none, more, all_append}
use Rattle.rules.specs.Threads.{State, at}
use Rattle.rules.specs.Table.{Answer, Done, Refused}
use Rattle.rules.specs.Completion.{completion}
use Rattle.rules.specs.Leaving.{gone}
use Rattle.rules.specs.Arrival.{arrival}
use Rattle.rules.specs.Drop.{dropped}
use Rattle.rules.specs.Choice.{chosen}
use Rattle.rules.specs.Step.{Stepped, ready}
use Rattle.rules.specs.Run.{ran}
use Rattle.rules.specs.Calls as calls
use Rattle.rules.specs.Calls.{Call}
use Rattle.rules.specs.History.{Happening, completed, dropped_to_head, if_done, retiring, tick_as, tick_of, ticks_of, run_as, happens, history}
use Rattle.promises.specs.Branches.{by_step}
use Rattle.promises.specs.Happenings.{leavings_all, waking_all, retiring_all}
use Rattle.promises.specs.Demand3.{EndsInTime}
use Rattle.promises.specs.Good.{Good}
use Rattle.promises.specs.Keep.{fine_at}
use Rattle.promises.specs.Tick.{Chosen, in_time}
use Rattle.promises.specs.Unchanged.{SameTable, ready_same, steps_same, call_same}
use Rattle.promises.specs.Ready.{ready_ready, ready_beside, chosen_leads}
use Rattle.promises.specs.Always.{steps_good, apply_good}

-- u has the shares of the threads of s
abbrev pub Shares : (ℕ → ℕ) → State → Type 0
Shares u s = (i : ℕ) → i < s.count → (at s.threads i).share ≡ u i

shares_then : {u : ℕ → ℕ} {s z : State} → SameTable s z → Shares u s → Shares u z
shares_then k h i l = (k.row i).1 ∙ h i (omega (arith, k.count))

-- the deadline of the thread that has the tick
grant_in_time : {u : ℕ → ℕ} {s : State} → Shares u s → Good s → (c : ℕ) → Chosen (ready s) c → pos (u c * (s.clock.0 + 1)) ≤ℤ (at (ready s).threads c).e.0
grant_in_time {u} {s} k g c ch =
    let z = ready s in
    let r = (ready_ready g).sound.rows in
    let h = in_time z c ch r in
    let w = (fine_at r c ch.leads.inside).e_whole in
    let e : u c * (s.clock.0 + 1) ≡ (at z.threads c).share * (z.clock.0 + 1) =
    ap₂ (λ (v t : ℕ). v * (t + 1)) (sym (shares_then (ready_same s) k c ch.leads.inside)) (sym (ap (λ m. m.0) (ready_beside s).clock)) in
    parts_le _ _ (omega (arith, e, h, w))

-- what is no tick
event_in_time : (u : ℕ → ℕ) (a : Answer) (hs : List Happening) → All (EndsInTime u) hs → All (EndsInTime u) (if_done a hs)
event_in_time u Done hs p = p
event_in_time u (Refused n) hs p = none

module _ {u : ℕ → ℕ} where
  tick_in_time : {s : State} → Shares u s → Good s → All (EndsInTime u) (tick_of s)
  unfolding tick_of
  tick_in_time {s} k g =
      by_step s (λ (r : Stepped). All (EndsInTime u) (tick_as r.outcome s)) (λ _. none)
      (λ _ _. all_append (leavings_all (EndsInTime u) (λ _ _ _ _. tt) s) (more tt none))
      (λ _ n. all_append (leavings_all (EndsInTime u) (λ _ _ _ _. tt) s) (more (grant_in_time k g (chosen (ready s)) (chosen_leads (ready_ready g) n)) none))

  ticks_in_time : (n : ℕ) {s : State} → Shares u s → Good s → All (EndsInTime u) (ticks_of n s)
  unfolding ticks_of
  ticks_in_time zero k g = none
  ticks_in_time (suc n) {s} k g = all_append (ticks_in_time n k g) (tick_in_time (shares_then (steps_same n s) k) (steps_good n g))

  run_in_time : (a : Answer) (n : ℕ) {s : State} → Shares u s → Good s → All (EndsInTime u) (run_as a n s)
  run_in_time Done n k g = ticks_in_time n k g
  run_in_time (Refused m) n k g = none

  call_in_time : (c : Call) {s : State} → Shares u s → Good s → All (EndsInTime u) (happens s c)
  call_in_time (calls.complete i) {s} k g = event_in_time u (completion s i).answer (completed i s.clock.0 ∷ retiring s i) (more tt (retiring_all (EndsInTime u) (λ _ _ _ _. tt) s i))
  call_in_time (calls.arrive i) {s} k g = event_in_time u (arrival s i).answer _ (all_append (leavings_all (EndsInTime u) (λ _ _ _ _. tt) s) (all_append (waking_all (EndsInTime u) (λ _ _. tt) (gone s) i) (more tt none)))
  call_in_time (calls.drop i) {s} k g = event_in_time u (dropped s i).answer (dropped_to_head i s.clock.0 ∷ []) (more tt none)
  call_in_time calls.step k g = tick_in_time k g
  call_in_time (calls.run to row) {s} k g = run_in_time (ran s to row).result.answer (to - s.clock.0) k g

  pub history_in_time : (cs : List Call) {s : State} → Shares u s → Good s → All (EndsInTime u) (history s cs)
  unfolding history
  history_in_time [] k g = none
  history_in_time (c ∷ cs) {s} k g = all_append (call_in_time c k g) (history_in_time cs (shares_then (call_same c s) k) (apply_good c g))
