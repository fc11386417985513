-- Every stretch that is over lasted at least one tick, whatever was called.
use Rattle.std.specs.Prelude.{◌≡◌, refl, ℤ, length, set}
use Rattle.std.proofs.Common.{sym, ◌∙◌, subst, arith, length-set}
use mathlib.Core.List.{List, [], ◌∷◌, ◌++◌}
use Prim.Native.Nat.{ℕ, zero, suc, ◌+◌, ◌-◌, ◌<◌}
use Rattle.std.proofs.lemmas.List.{length-replicate}
use Rattle.lists.specs.Sum.{sum_store}
use Rattle.lists.specs.Take.{at_put}
use Rattle.lists.specs.MapTo.{map_to, map_has, map_length}
use Rattle.lists.specs.All.{All, none, more, all_append}
use Rattle.rules.specs.Limits.{nobody, apps}
use Rattle.rules.specs.Threads.{State, blank, at, is_inactive}
use Rattle.rules.specs.Table.{Table, Answered, Done, table_answer, start}
use Rattle.rules.specs.Completion.{completion, after_completion}
use Rattle.rules.specs.Leaving.{gone}
use Rattle.rules.specs.Arrival.{arrival, arrived}
use Rattle.rules.specs.Drop.{head_only, dropped}
use Rattle.rules.specs.Choice.{chosen, idled}
use Rattle.rules.specs.Charge.{charged, moved}
use Rattle.rules.specs.Step.{Stepped, ready, stepped}
use Rattle.rules.specs.Run.{Ran, state_after}
use Rattle.rules.specs.Calls as calls
use Rattle.rules.specs.Calls.{Call, apply, after}
use Rattle.rules.specs.History.{Happening, completed, arrived as arrived-at, dropped_to_head, granted, idle_tick, if_done, retiring, waking, leavings, tick_as, tick_of, ticks_of, run_as, happens, history}
use Rattle.rules.specs.Stretches.{Activity, quiet, all_quiet, activity_at, runs, forgets, noted, activities, ends, stretches, app_of}
use Rattle.promises.specs.Cases.{by_test, true_false}
use Rattle.promises.specs.Branches.{by_completion, by_arrival, by_drop, by_step, by_run}
use Rattle.promises.specs.Good.{Good}
use Rattle.promises.specs.Ready.{gone_beside, ready_ready}
use Rattle.promises.specs.Always.{steps_good, apply_good}
use Rattle.stretches.specs.Item8.{overs}
use Rattle.stretches.specs.Standing.{Kept}
use Rattle.stretches.specs.Goes.{activities_append, stretches_all}
use Rattle.stretches.specs.Calls.{kept_gone, kept_ready, completed_goes, kept_ticks, kept_call}
use Rattle.stretches.specs.Start.{quiet_at, begins_good, kept_start}
use Rattle.stretches.specs.Lasting.{Long, Past, past_all, retiring_rests, cut_long}
use Rattle.stretches.specs.Lasted.{running, Fresh, past_fresh, Lasts, gone_lasts, idle_past, arrive_fresh}

-- the history hs from cs on, to the state s
record LastsTo (t : Table) (s : State) (cs : List Activity) (hs : List Happening) : Type 0 where
  lasts : Lasts s (activities (app_of t) cs hs)
  long : All Long (stretches (app_of t) cs hs)

module _ {t : Table} {s : State} {cs : List Activity} where
  lasts_on : (hs ks : List Happening) → All Long (stretches (app_of t) cs hs) → LastsTo t s (activities (app_of t) cs hs) ks → LastsTo t s cs (hs ++ ks)
  lasts_on hs ks a b = record { lasts = subst (Lasts s) (sym (activities_append (app_of t) cs hs ks)) b.lasts; long = stretches_all (app_of t) Long cs hs ks a b.long }

  nowhere : Lasts s cs → LastsTo t s cs []
  unfolding activities stretches
  nowhere l = record { lasts = l; long = none }

-- a moment that all stretches began before
all_past : (s : State) (cs : List Activity) → length cs ≡ apps → Past s.clock.0 cs → Lasts s cs
all_past s cs e p = record { open_past = λ _. p; fresh = past_fresh s.count s.clock.0 s.threads cs e p }

-- ---- a tick
idle_lasts : {t : Table} (z : State) (cs : List Activity) (j : ℕ) → length cs ≡ apps → Past j cs → LastsTo t (moved (idled z) nobody) cs (idle_tick j ∷ [])
unfolding activities stretches noted ends moved idled forgets
idle_lasts {t} z cs j e p = record {
  lasts = all_past (moved (idled z) nobody) (map_to (length cs) forgets cs) (map_length (length cs) forgets cs ∙ e) (λ a l. over a (omega (arith, l, map_length (length cs) forgets cs)));
  long = all_append (cut_long j cs p (length cs) (omega arith)) none;
}
  where
    no : 0 < 0 → ⊥
    no h = omega arith

    over : (a : ℕ) → a < length cs → 0 < (activity_at (map_to (length cs) forgets cs) a).active → (activity_at (map_to (length cs) forgets cs) a).stretch.since.0 < z.clock.0 + 1
    over a l = rw (map_has (length cs) forgets cs a quiet l l) (λ h. absurd (no h))

grant_lasts : {t : Table} (z : State) (cs : List Activity) (c j : ℕ) (e : ℤ) → Kept t z cs → LastsTo t (moved (charged z c) c) cs (granted c j e ∷ [])
unfolding activities stretches noted ends moved charged runs
grant_lasts {t} z cs c j e k = record { lasts = all_past (moved (charged z c) c) (set cs b v) (length-set cs b v ∙ k.sixteen) began; long = none }
  where
    b : ℕ
    b = app_of t c

    v : Activity
    v = runs (activity_at cs b)

    before : (a : ℕ) → a < length cs → (activity_at cs a).stretch.since.0 < z.clock.0 + 1
    before a l = omega (arith, (k.stands a (omega (arith, k.sixteen))).since)

    began : Past (z.clock.0 + 1) (set cs b v)
    began a l _ =
        let h : a < length cs = omega (arith, l, length-set cs b v) in
        at_put (λ _ d. d.stretch.since.0 < z.clock.0 + 1) cs b a v quiet h (λ e. subst (λ d. (activity_at cs d).stretch.since.0 < z.clock.0 + 1) (sym e) (before a h)) (before a h)

module _ {t : Table} {s : State} {cs : List Activity} (good : Good s) (k : Kept t s cs) (l : Lasts s cs) where
  abbrev now : ℕ
  now = s.clock.0

  -- after leaving
  abbrev ds : List Activity
  ds = activities (app_of t) cs (leavings s)

  left : Fresh s.count now (gone s).threads ds × All Long (stretches (app_of t) cs (leavings s))
  left = gone_lasts s k l

  tick_lasts : LastsTo t (stepped s).state cs (tick_of s)
  unfolding tick_of
  tick_lasts =
      by_step s (λ (r : Stepped). LastsTo t r.state cs (tick_as r.outcome s)) (λ _. nowhere l)
      (λ _ e. lasts_on (leavings s) (idle_tick now ∷ []) left.1 (idle_lasts (ready s) ds now (kept_gone s good k).sixteen (idle_past s ds (kept_gone s good k).sixteen left.0 (ready_ready good) e)))
      (λ _ n. lasts_on (leavings s) (granted (chosen (ready s)) now (at (ready s).threads (chosen (ready s))).e.0 ∷ []) left.1 (grant_lasts (ready s) ds (chosen (ready s)) now (at (ready s).threads (chosen (ready s))).e.0 (kept_ready s good k)))

  -- ---- the events
  drop_lasts : (i : ℕ) → LastsTo t (dropped s i).state cs (happens s (calls.drop i))
  unfolding activities stretches noted ends head_only running
  drop_lasts i = by_drop s (λ (r : Answered). LastsTo t r.state cs (if_done r.answer (dropped_to_head i now ∷ []))) i (λ _. nowhere l)
      (λ _. record {
        lasts = record {
          open_past = l.open_past;
          fresh = λ a h p r. rw (sum_store (running a) s.count s.threads i (head_only (at s.threads i)) blank refl) (l.fresh a h p r);
        };
        long = none;
      })

  completion_lasts : (i : ℕ) → LastsTo t (completion s i).state cs (happens s (calls.complete i))
  unfolding after_completion
  completion_lasts i = by_completion s (λ (r : Answered). LastsTo t r.state cs (if_done r.answer (completed i now ∷ retiring s i))) i (λ _. nowhere l)
      (λ h c d e.
      let g = completed_goes s good k i h (rw e (good.head_start c d (rw (← e) h))) in
      let p = past_all (app_of t) now cs (completed i now ∷ retiring s i) (more tt (retiring_rests s i)) g.suited (l.open_past c) in
      record { lasts = all_past (after_completion s i) _ g.held.sixteen p.0; long = p.1 })

  waking_long : (i : ℕ) → All Long (stretches (app_of t) ds (waking (gone s) i))
  unfolding waking stretches ends
  waking_long i = by_test (λ (hs : List Happening). All Long (stretches (app_of t) ds hs)) (is_inactive (at (gone s).threads i).phase) (λ _. none) (λ _. none)

  arrived_lasts : (i : ℕ) → i < s.count → LastsTo t (arrived (gone s) i) ds (waking (gone s) i ++ (arrived-at i now ∷ []))
  unfolding waking activities stretches noted ends
  arrived_lasts i h = lasts_on (waking (gone s) i) (arrived-at i now ∷ []) (waking_long i) (record {
    lasts = record {
      open_past = λ c. absurd (true_false c);
      fresh = let b = gone_beside s in arrive_fresh (kept_gone s good k) i (omega (arith, b.count)) (rw (b.count, b.clock) left.0);
    };
    long = none;
  })

  arrival_lasts : (i : ℕ) → LastsTo t (arrival s i).state cs (happens s (calls.arrive i))
  arrival_lasts i = by_arrival s (λ (r : Answered). LastsTo t r.state cs (if_done r.answer (leavings s ++ (waking (gone s) i ++ (arrived-at i now ∷ []))))) i (λ _. nowhere l)
      (λ h _. lasts_on (leavings s) (waking (gone s) i ++ (arrived-at i now ∷ [])) left.1 (arrived_lasts i h))

-- ---- every call, and every sequence of calls
module _ {t : Table} where
  ticks_lasts : (n : ℕ) {s : State} {cs : List Activity} → Good s → Kept t s cs → Lasts s cs → LastsTo t (state_after n s) cs (ticks_of n s)
  unfolding state_after ticks_of
  ticks_lasts zero good k l = nowhere l
  ticks_lasts (suc n) {s} good k l = let r = ticks_lasts n good k l in lasts_on (ticks_of n s) (tick_of (state_after n s)) r.long (tick_lasts (steps_good n good) (kept_ticks n s good k) r.lasts)

  call_lasts : (c : Call) {s : State} {cs : List Activity} → Good s → Kept t s cs → Lasts s cs → LastsTo t (apply s c) cs (happens s c)
  call_lasts (calls.complete i) good k l = completion_lasts good k l i
  call_lasts (calls.arrive i) good k l = arrival_lasts good k l i
  call_lasts (calls.drop i) good k l = drop_lasts good k l i
  call_lasts calls.step good k l = tick_lasts good k l
  call_lasts (calls.run to row) {s} {cs} good k l =
      by_run s (λ (r : Ran). LastsTo t r.result.state cs (run_as r.result.answer (to - s.clock.0) s)) to row (λ _. nowhere l) (ticks_lasts (to - s.clock.0) good k l)

  after_lasts : (es : List Call) {s : State} {cs : List Activity} → Good s → Kept t s cs → Lasts s cs → LastsTo t (after s es) cs (history s es)
  unfolding after history
  after_lasts [] good k l = nowhere l
  after_lasts (e ∷ es) {s} good k l =
      let r = call_lasts e good k l in
      lasts_on (happens s e) (history (apply s e) es) r.long (after_lasts es (apply_good e good) (kept_call e s good k) r.lasts)

pub all_long : (usual : ℕ) (t : Table) → table_answer usual t ≡ Done → (cs : List Call) → All Long (overs usual t cs)
all_long usual t e cs = (after_lasts cs (begins_good usual t e) (kept_start usual t e) first).long
  where
    no : 0 < 0 → ⊥
    no h = omega arith

    past : Past (start usual t).clock.0 all_quiet
    past a l = rw (quiet_at apps a) (λ h. absurd (no h))

    first : Lasts (start usual t) all_quiet
    first = all_past (start usual t) all_quiet (length-replicate apps quiet) past
