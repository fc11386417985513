-- A history goes tick by tick: a tick, and a beginning, bears the moment at which it comes, and a tick is granted to a thread of the table.
use Rattle.std.specs.Prelude.{◌≡◌}
use Rattle.std.proofs.Math.Path.{refl, ap}
use Rattle.std.proofs.Common.{◌∙◌, subst, arith}
use mathlib.Core.List.{List, [], ◌∷◌, ◌++◌}
use Prim.Native.Nat.{ℕ, zero, suc, ◌+◌, ◌-◌, ◌<◌}
use Rattle.lists.specs.All.{All, none, more}
use Rattle.quantities.specs.declared.Moment.{Moment}
use Rattle.rules.specs.Limits.{nobody}
use Rattle.rules.specs.Threads.{State, at, is_inactive, contends}
use Rattle.rules.specs.Table.{Answered}
use Rattle.rules.specs.Completion.{completion, after_completion}
use Rattle.rules.specs.Leaving.{gone}
use Rattle.rules.specs.Arrival.{arrival}
use Rattle.rules.specs.Drop.{dropped}
use Rattle.rules.specs.Choice.{chosen, idled}
use Rattle.rules.specs.Charge.{charged, moved}
use Rattle.rules.specs.Step.{Stepped, ready, stepped}
use Rattle.rules.specs.Run.{Ran, state_after}
use Rattle.rules.specs.Calls as calls
use Rattle.rules.specs.Calls.{Call, apply, after}
use Rattle.rules.specs.History.{Happening, completed, arrived, dropped_to_head, granted, idle_tick, became_active, became_inactive, if_done, retiring, waking, leavings, tick_as, tick_of, ticks_of, run_as, happens, history}
use Rattle.promises.specs.Cases.{by_test}
use Rattle.promises.specs.Branches.{by_completion, by_arrival, by_drop, by_step, by_run}
use Rattle.promises.specs.Deadlines.{earliest_in}
use Rattle.promises.specs.Happenings.{leavings_all, retiring_all}
use Rattle.promises.specs.Ready.{gone_beside, ready_beside}
use Rattle.promises.specs.Unchanged.{steps_same, call_same}

-- one happening, of n threads, from the moment t to the moment t'
abbrev pub Next : ℕ → ℕ → Happening → ℕ → Type 0
Next n t (completed i m) t' = t' ≡ t
Next n t (arrived i m) t' = t' ≡ t
Next n t (dropped_to_head i m) t' = t' ≡ t
Next n t (granted i k e) t' = (i < n) × (k ≡ t) × (t' ≡ t + 1)
Next n t (idle_tick k) t' = t' ≡ t + 1
Next n t (became_active i m) t' = (m ≡ t) × (t' ≡ t)
Next n t (became_inactive i m z f) t' = t' ≡ t

pub data Paced (n : ℕ) : ℕ → List Happening → ℕ → Type 0 where
  still : {t : ℕ} → Paced n t [] t
  next : {t t' u : ℕ} {h : Happening} {hs : List Happening} → Next n t h t' → Paced n t' hs u → Paced n t (h ∷ hs) u

module _ {n : ℕ} where
  pub paced_append : {t t' u : ℕ} {hs ks : List Happening} → Paced n t hs t' → Paced n t' ks u → Paced n t (hs ++ ks) u
  paced_append still b = b
  paced_append (next p a) b = next p (paced_append a b)

  -- what takes no time
  at_once_lem : {t : ℕ} {hs : List Happening} → All (λ h. Next n t h t) hs → Paced n t hs t
  at_once_lem none = still
  at_once_lem (more p a) = next p (at_once_lem a)

  pub leavings_paced : (t : ℕ) (s : State) → Paced n t (leavings s) t
  leavings_paced t s = at_once_lem (leavings_all (λ h. Next n t h t) (λ _ _ _ _. refl) s)

  retiring_paced : (t : ℕ) (s : State) (i : ℕ) → Paced n t (retiring s i) t
  retiring_paced t s i = at_once_lem (retiring_all (λ h. Next n t h t) (λ _ _ _ _. refl) s i)

  waking_paced : (s : State) (i : ℕ) → Paced n s.clock.0 (waking s i) s.clock.0
  unfolding waking
  waking_paced s i = by_test (λ (hs : List Happening). Paced n s.clock.0 hs s.clock.0) (is_inactive (at s.threads i).phase) (λ _. next (refl, refl) still) (λ _. still)

-- the happenings from the state s, of n threads, to the state z
abbrev pub PacedTo : ℕ → State → State → List Happening → Type 0
PacedTo n s z hs = Paced n s.clock.0 hs z.clock.0

-- ---- the calls, but for a run
module _ {n : ℕ} (s : State) (e : s.count ≡ n) where
  abbrev now : ℕ
  now = s.clock.0

  tick_paced : PacedTo n s (stepped s).state (tick_of s)
  unfolding tick_of moved idled charged
  tick_paced =
      by_step s (λ (r : Stepped). PacedTo n s r.state (tick_as r.outcome s)) (λ _. still)
      (λ _ _. paced_append (leavings_paced now s) (next later still))
      (λ _ c. paced_append (leavings_paced now s) (next (inside c, refl, later) still))
    where
      later : (ready s).clock.0 + 1 ≡ now + 1
      later = ap (λ (m : Moment). m.0 + 1) (ready_beside s).clock

      inside : (chosen (ready s) ≡ nobody → ⊥) → chosen (ready s) < n
      inside c = omega (arith, (earliest_in contends (ready s).count (ready s).threads c).0, (ready_beside s).count, e)

  arrival_paced : (i : ℕ) → PacedTo n s (arrival s i).state (happens s (calls.arrive i))
  arrival_paced i =
      by_arrival s (λ (r : Answered). PacedTo n s r.state (if_done r.answer (leavings s ++ (waking (gone s) i ++ (arrived i now ∷ []))))) i (λ _. still)
      (λ _ _. paced_append (leavings_paced now s) (paced_append woken (next same still)))
    where
      same : (gone s).clock.0 ≡ now
      same = ap (λ (m : Moment). m.0) (gone_beside s).clock

      woken : Paced n now (waking (gone s) i) now
      woken = subst (λ (m : ℕ). Paced n m (waking (gone s) i) m) same (waking_paced (gone s) i)

  drop_paced : (i : ℕ) → PacedTo n s (dropped s i).state (happens s (calls.drop i))
  drop_paced i = by_drop s (λ (r : Answered). PacedTo n s r.state (if_done r.answer (dropped_to_head i now ∷ []))) i (λ _. still) (λ _. next refl still)

  completion_paced : (i : ℕ) → PacedTo n s (completion s i).state (happens s (calls.complete i))
  unfolding after_completion
  completion_paced i = by_completion s (λ (r : Answered). PacedTo n s r.state (if_done r.answer (completed i now ∷ retiring s i))) i (λ _. still) (λ _ _ _ _. next refl (retiring_paced now s i))

-- ---- every call, and every sequence of calls
module _ {n : ℕ} where
  ticks_paced : (k : ℕ) (s : State) → s.count ≡ n → PacedTo n s (state_after k s) (ticks_of k s)
  unfolding state_after ticks_of
  ticks_paced zero s e = still
  ticks_paced (suc k) s e = paced_append (ticks_paced k s e) (tick_paced (state_after k s) ((steps_same k s).count ∙ e))

  call_paced : (c : Call) (s : State) → s.count ≡ n → PacedTo n s (apply s c) (happens s c)
  call_paced (calls.complete i) s e = completion_paced s e i
  call_paced (calls.arrive i) s e = arrival_paced s e i
  call_paced (calls.drop i) s e = drop_paced s e i
  call_paced calls.step s e = tick_paced s e
  call_paced (calls.run to row) s e =
      by_run s (λ (r : Ran). PacedTo n s r.result.state (run_as r.result.answer (to - s.clock.0) s)) to row (λ _. still) (ticks_paced (to - s.clock.0) s e)

  pub history_paced : (cs : List Call) (s : State) → s.count ≡ n → PacedTo n s (after s cs) (history s cs)
  unfolding history after
  history_paced [] s e = still
  history_paced (c ∷ cs) s e = paced_append (call_paced c s e) (history_paced cs (apply s c) ((call_same c s).count ∙ e))
