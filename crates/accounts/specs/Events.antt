-- Events that are noted: a completion and an arrival, as the code finds them.
use Rattle.std.specs.Prelude.{◌≡◌, Bool, List, [], ◌∷◌, ◌++◌, ℕ, ◌≤◌, ◌<◌, eqb, ltb, pos, set}
use Rattle.std.proofs.Math.Path.{refl}
use Rattle.std.proofs.Common.{sym, ap, ◌∙◌, arith}
use Rattle.std.proofs.Math.Bool.{true, false, cond}
use Rattle.std.specs.Int.Signed.{lt_z}
use Rattle.lists.specs.MapTo.{map_to, map_has}
use Rattle.quantities.specs.declared.Moment.{Moment}
use Rattle.rules.specs.Limits.{nobody, max_q, max_threads, apps}
use Rattle.rules.specs.Threads.{Thread, State, Amount, amt, blank, at, with_rows, scaled, is_inactive}
use Rattle.rules.specs.Table.{Table, Answer, Answered, Done, Refused}
use Rattle.rules.specs.Leaving.{leave, gone}
use Rattle.rules.specs.Completion.{freed, completion}
use Rattle.rules.specs.Arrival.{arrival}
use Rattle.rules.specs.Drop.{dropped}
use Rattle.rules.specs.History.{Fate, received, unreceived, completed, arrived, dropped_to_head, if_done, became_active, became_inactive, fate_of, receiver_in, retiring, leavings, waking, happens}
use Rattle.rules.specs.Stretches.{Activity, activity_at, lost_as, rests, wakes, noted, ends, over_at, app_of}
use Rattle.rules.specs.Report.{over_lines, stand}
use Rattle.rules.specs.Calls as calls
use Rattle.promises.specs.Cases.{true_false}
use Rattle.promises.specs.Branches.{by_completion, by_arrival}
use Rattle.promises.specs.Good.{Good, Leads}
use Rattle.promises.specs.Ready.{gone_beside, steady}
use Rattle.promises.specs.Sound.{sound}
use Rattle.stretches.specs.Standing.{Kept}
use Rattle.stretches.specs.Bounds.{in_range}
use Rattle.stretches.specs.Events.{goes_completing}
use Rattle.stretches.specs.Ticks.{runs_active}
use Rattle.stretches.specs.Calls.{kept_gone}
use Rattle.text.specs.Put.{Put}
use Rattle.accounts.specs.Told.{Tells, tells_none, tells_one, tells_silent, tells_then}
use Rattle.accounts.specs.Rest.{Rests, rests_goes, tells_rest}

-- ---- a completion that is accepted
abbrev accepted : Answer → Bool
accepted Done = true
accepted (Refused n) = false

refused_not : {X : Type 0} (n : ℕ) → Refused n ≡ Done → X
refused_not n e = absurd (true_false (sym (ap accepted e)))

pub record Completes (s : State) (k : ℕ) : Type 0 where
  pub inside : k < s.count
  pub leads : Leads s.count s.threads k

pub completes : {s : State} (k : ℕ) → Good s → (completion s k).answer ≡ Done → Completes s k
completes {s} k g =
    by_completion s (λ (r : Answered). r.answer ≡ Done → Completes s k) k (λ n e. refused_not n e)
    (λ h c d e _. record { inside = h; leads = rw e (g.head_start c d (rw (← e) h)) })

-- its thread is one of the table's
module _ (s : State) (k : ℕ) (g : Good s) where
  below : k < s.count → k < max_threads
  below h = omega (arith, h, g.rows.few)

  share : k < s.count → (at s.threads k).share ≤ max_q
  share h = ((sound (steady g)).ok k h).share_max

  pub completes_inside : (completion s k).answer ≡ Done → k < s.count
  completes_inside d = (completes k g d).inside

  pub completes_below : (completion s k).answer ≡ Done → k < max_threads
  completes_below d = below (completes_inside d)

  pub completes_share : (completion s k).answer ≡ Done → (at s.threads k).share ≤ max_q
  completes_share d = share (completes_inside d)

module _ {t : Table} {s : State} {cs : List Activity} (good : Good s) (kept : Kept t s cs) (k : ℕ) (done : (completion s k).answer ≡ Done) where
  abbrev x : Thread
  x = at s.threads k

  abbrev now : ℕ
  now = s.clock.0

  -- what comes after the completion itself
  module _ {out out' : List ℕ} {from used : ℕ} {cs' : List Activity} where
    tells_then_retiring : Tells t cs (retiring s k) out from out' used cs' → Tells t cs (happens s (calls.complete k)) out from out' used cs'
    unfolding noted ends
    tells_then_retiring d = rw done (tells_then (completed k now ∷ []) (retiring s k) (tells_silent (completed k now) refl refl) d)

  -- a job waits, or W is ahead of the clock
  pub completed_goes_on : (out : List ℕ) (from : ℕ) → ltb 1 x.jobs ≡ true → Tells t cs (happens s (calls.complete k)) out from out from cs
  unfolding retiring
  completed_goes_on out from e = tells_then_retiring (rw e tells_none)

  pub completed_stays : (out : List ℕ) (from : ℕ) → ltb 1 x.jobs ≡ false → lt_z (scaled x now) x.w.0 ≡ true → Tells t cs (happens s (calls.complete k)) out from out from cs
  unfolding retiring
  completed_stays out from e f = tells_then_retiring (rw (e, f) tells_none)

  -- the thread becomes inactive
  module _ (e : ltb 1 x.jobs ≡ false) (f : lt_z (scaled x now) x.w.0 ≡ false) where
    abbrev fate : Fate
    fate = fate_of (receiver_in s k)

    retires : retiring s k ≡ became_inactive k now (freed now x) fate ∷ []
    unfolding retiring
    retires = rw (e, f)

    -- what is lost where it is received or not
    lost_is : (z : Amount) → z ≡ cond (eqb (receiver_in s k) nobody) (amt (freed now x)) (amt (pos 0)) → z.0 ≡ lost_as fate (freed now x)
    lost_is z h = ap (λ (y : Amount). y.0) h ∙ go (eqb (receiver_in s k) nobody)
      where
        go : (b : Bool) → (cond b (amt (freed now x)) (amt (pos 0))).0 ≡ lost_as (cond b unreceived (received (receiver_in s k))) (freed now x)
        go true = refl
        go false = refl

    pub completed_rests : (z : Amount) → z ≡ cond (eqb (receiver_in s k) nobody) (amt (freed now x)) (amt (pos 0)) → Rests t cs k z.0 now
    unfolding retiring
    completed_rests z h =
        let c = completes k good done in
        rw (lost_is z h) (rests_goes k (freed now x) fate c.inside good.q_max good.time
        (rw (e, f) at (goes_completing kept k c.inside (runs_active x.phase c.leads.runs))))

    pub completed_ends : (z : Amount) → z ≡ cond (eqb (receiver_in s k) nobody) (amt (freed now x)) (amt (pos 0)) → {out out' : List ℕ} {from used : ℕ} {cs' : List Activity}
        → Put out from (over_lines t (over_at now (app_of t k) (rests z.0 (activity_at cs (app_of t k))))) out' used → cs' ≡ set cs (app_of t k) (rests z.0 (activity_at cs (app_of t k)))
        → Tells t cs (happens s (calls.complete k)) out from out' used cs'
    completed_ends z h p q = tells_then_retiring (rw retires (tells_rest k now (freed now x) fate (rw (lost_is z h) at p) (rw (lost_is z h) at q)))

-- ---- an arrival that is accepted
pub arrives : (s : State) (k : ℕ) → (arrival s k).answer ≡ Done → k < s.count
arrives s k = by_arrival s (λ (r : Answered). r.answer ≡ Done → k < s.count) k (λ n e. refused_not n e) (λ h _ _. h)

-- its thread is one of the table's
module _ (s : State) (k : ℕ) (g : Good s) (d : (arrival s k).answer ≡ Done) where
  pub arrives_below : k < max_threads
  arrives_below = below s k g (arrives s k d)

  pub arrives_share : (at s.threads k).share ≤ max_q
  arrives_share = share s k g (arrives s k d)

-- is the thread inactive once those that leave have left?
abbrev quiet_as : Bool → ℕ → Thread → Bool
quiet_as closed now x = is_inactive (cond closed x (leave now x)).phase

module _ {t : Table} {s : State} {cs : List Activity} (good : Good s) (kept : Kept t s cs) (k : ℕ) (done : (arrival s k).answer ≡ Done) where
  gone_at : at (gone s).threads k ≡ cond s.closed (at s.threads k) (leave s.clock.0 (at s.threads k))
  unfolding gone
  gone_at = go s.closed
    where
      go : (b : Bool) → at (cond b s (with_rows s (map_to s.count (leave s.clock.0) s.threads))).threads k ≡ cond b (at s.threads k) (leave s.clock.0 (at s.threads k))
      go true = refl
      go false = map_has s.count (leave s.clock.0) s.threads k blank (arrives s k done) (omega (arith, arrives s k done, good.rows.few, good.rows.long))

  waking_is : waking (gone s) k ≡ cond (quiet_as s.closed s.clock.0 (at s.threads k)) (became_active k s.clock.0 ∷ []) []
  unfolding waking
  waking_is = rw gone_at (ap (λ (m : Moment). cond (quiet_as s.closed s.clock.0 (at s.threads k)) (became_active k m.0 ∷ []) []) (gone_beside s).clock)

  module _ {out out' : List ℕ} {from used : ℕ} {cs' cs'' : List Activity} (l : Tells t cs (leavings s) out from out' used cs') where
    -- after those that leave
    tells_then_waking : Tells t cs' (waking (gone s) k) out' used out' used cs'' → Tells t cs (happens s (calls.arrive k)) out from out' used cs''
    unfolding noted ends
    tells_then_waking d = rw done (tells_then (leavings s) (waking (gone s) k ++ (arrived k s.clock.0 ∷ [])) l (tells_then (waking (gone s) k) (arrived k s.clock.0 ∷ []) d (tells_silent (arrived k s.clock.0) refl refl)))

    -- the thread becomes active
    pub arrived_wakes : quiet_as s.closed s.clock.0 (at s.threads k) ≡ true → cs'' ≡ set cs' (app_of t k) (wakes s.clock.0 (activity_at cs' (app_of t k))) → Tells t cs (happens s (calls.arrive k)) out from out' used cs''
    unfolding noted ends over_lines
    arrived_wakes q e = tells_then_waking (rw (waking_is, q) (tells_one (became_active k s.clock.0) (record { next = omega arith; stored = refl }) e))

  -- .. or is so already
  pub arrived_awake : {out out' : List ℕ} {from used : ℕ} {cs' : List Activity} → Tells t cs (leavings s) out from out' used cs' → quiet_as s.closed s.clock.0 (at s.threads k) ≡ false → Tells t cs (happens s (calls.arrive k)) out from out' used cs'
  arrived_awake l q = tells_then_waking l (rw (waking_is, q) tells_none)

  -- what the code needs of the applications once those that leave have left
  pub arrived_few : {cs' : List Activity} → cs' ≡ stand t cs (leavings s) → (app_of t k < apps) × ((activity_at cs' (app_of t k)).active ≤ 64)
  arrived_few e =
      let g = kept_gone s good kept in
      let a = kept.tied.app_max k (arrives s k done) in
      (a, rw e (in_range g (omega (arith, (gone_beside s).q, good.q_max)) (omega (arith, ap (λ (m : Moment). m.0) (gone_beside s).clock, good.time)) (app_of t k) a).active_max)

-- ---- a drop changes nothing here
pub dropped_none : (t : Table) (s : State) (cs : List Activity) (k : ℕ) (out : List ℕ) (from : ℕ) → Tells t cs (happens s (calls.drop k)) out from out from cs
unfolding noted ends
dropped_none t s cs k out from = go (dropped s k).answer
  where
    go : (a : Answer) → Tells t cs (if_done a (dropped_to_head k s.clock.0 ∷ [])) out from out from cs
    go Done = tells_silent (dropped_to_head k s.clock.0) refl refl
    go (Refused n) = tells_none
