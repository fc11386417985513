-- Every stretch that is over lasted at least one tick: while a moment is open to completions and leaving, all that hold began before
-- it, and one that began at a moment has a contending thread, so that its tick is not idle.
use Rattle.std.specs.Prelude.{◌≡◌, Bool, ◌&&◌, List, [], ◌∷◌, T, eqb, ltb, length, take, set}
use Rattle.std.proofs.Math.Path.{refl}
use Rattle.std.proofs.Common.{sym, ap, ◌∙◌, subst, eq-eqb, ltb-true, ltb-false, get_or-set_other}
use Rattle.std.proofs.Math.Bool.{true, false, cond}
use Prim.Native.Nat.{ℕ, ◌+◌, ◌≤◌, ◌<◌}
use Rattle.std.proofs.Math.Decide.{ℕ_discrete}
use native.Mathlib.Omega.{arith}
use Rattle.lists.specs.Sum.{sum_by, sum_map}
use Rattle.lists.specs.Take.{sum_put, sum_at, sum_zero}
use Rattle.lists.specs.MapTo.{map_to}
use Rattle.lists.specs.All.{All, none}
use Rattle.rules.specs.Limits.{apps, nobody}
use Rattle.rules.specs.Threads.{Thread, State, Phase, Inactive, Contending, NonContending, with_jobs, with_rows, blank, at, contends, is_inactive}
use Rattle.rules.specs.Table.{Table}
use Rattle.rules.specs.Leaving.{leave, gone}
use Rattle.rules.specs.Arrival.{arrive_as, arrive}
use Rattle.rules.specs.Fitting.{fit_in, fitted, room_of}
use Rattle.rules.specs.Choice.{chosen}
use Rattle.rules.specs.Step.{ready}
use Rattle.rules.specs.History.{became_active, leaving_to, leavings}
use Rattle.rules.specs.Stretches.{Activity, quiet, activity_at, wakes, noted, activities, stretches, app_of}
use Rattle.promises.specs.Branches.{by_fitting}
use Rattle.promises.specs.Ready.{Ready, gone_beside, none_contends}
use Rattle.stretches.specs.Standing.{Held, Kept}
use Rattle.stretches.specs.Puts.{among}
use Rattle.stretches.specs.Leavings.{goes_leaving_to}
use Rattle.stretches.specs.Lasting.{Long, Past, past_all, leaving_to_rests}

-- how many threads of the application a contend
unfoldable pub running : ℕ → Thread → ℕ
running a x = cond (contends x && eqb x.app a) 1 0

-- a stretch that holds and did not begin before the moment now has a contending thread
abbrev pub Fresh : ℕ → ℕ → List Thread → List Activity → Type 0
Fresh m now xs cs = (a : ℕ) → a < apps → 0 < (activity_at cs a).active → ltb (activity_at cs a).stretch.since.0 now ≡ false → 0 < sum_by (running a) (take m xs)

pub past_fresh : (m now : ℕ) (xs : List Thread) (cs : List Activity) → length cs ≡ apps → Past now cs → Fresh m now xs cs
past_fresh m now xs cs e p a l h f = absurd (no (p a (omega (arith, e)) h) (ltb-false _ _ f))
  where
    no : (activity_at cs a).stretch.since.0 < now → now ≤ (activity_at cs a).stretch.since.0 → ⊥
    no h k = omega arith

-- ---- between any two calls
pub record Lasts (s : State) (cs : List Activity) : Type 0 where
  pub open_past : s.closed ≡ false → Past s.clock.0 cs
  pub fresh : Fresh s.count s.clock.0 s.threads cs

-- after leaving
pub gone_lasts : {t : Table} (s : State) {cs : List Activity} → Kept t s cs → Lasts s cs
    → Fresh s.count s.clock.0 (gone s).threads (activities (app_of t) cs (leavings s)) × All Long (stretches (app_of t) cs (leavings s))
unfolding gone leavings activities stretches
gone_lasts {t} s {cs} k l = go s.closed refl
  where
    now : ℕ
    now = s.clock.0

    go : (b : Bool) → s.closed ≡ b
        → Fresh s.count now (cond b s (with_rows s (map_to s.count (leave now) s.threads))).threads (activities (app_of t) cs (cond b [] (leaving_to now s.threads s.count)))
        × All Long (stretches (app_of t) cs (cond b [] (leaving_to now s.threads s.count)))
    go true e = (l.fresh, none)
    go false e =
        let g = goes_leaving_to k s.count (omega arith) in
        let p = past_all (app_of t) now cs (leaving_to now s.threads s.count) (leaving_to_rests now s.threads s.count) g.suited (l.open_past e) in
        (past_fresh s.count now (map_to s.count (leave now) s.threads) (activities (app_of t) cs (leaving_to now s.threads s.count)) g.held.sixteen p.0, p.1)

-- ---- an idle tick: no thread contends at the choice
same_running : (a : ℕ) (s : State) → sum_by (running a) (take s.count (fitted s).threads) ≡ sum_by (running a) (take s.count s.threads)
unfolding fitted running
same_running a s = sum_map (running a) (fit_in s) (λ x. by_fitting (λ (y : Thread). running a y ≡ running a x) (room_of s x) x refl (λ _ _. refl)) s.count s.count s.threads

rests_running : (a : ℕ) (x : Thread) → (T (contends x) → ⊥) → running a x ≡ 0
unfolding running
rests_running a x f = go (contends x) f
  where
    go : (b : Bool) → (T b → ⊥) → ◌≡◌ {A = ℕ} (cond (b && eqb x.app a) 1 0) 0
    go true f = absurd (f tt)
    go false f = refl

pub idle_past : (s : State) (cs : List Activity) → length cs ≡ apps → Fresh s.count s.clock.0 (gone s).threads cs → Ready (ready s) → chosen (ready s) ≡ nobody
    → Past s.clock.0 cs
unfolding fitted
idle_past s cs e f y n a l h = go (ltb (activity_at cs a).stretch.since.0 s.clock.0) refl
  where
    none_runs : sum_by (running a) (take (gone s).count (ready s).threads) ≡ 0
    none_runs = sum_zero (running a) (gone s).count (ready s).threads blank (λ j k. rests_running a (at (ready s).threads j) (none_contends y n j k))

    still_runs : sum_by (running a) (take s.count (gone s).threads) ≡ 0
    still_runs = ap (λ m. sum_by (running a) (take m (gone s).threads)) (sym (gone_beside s).count) ∙ sym (same_running a (gone s)) ∙ none_runs

    go : (b : Bool) → ltb (activity_at cs a).stretch.since.0 s.clock.0 ≡ b → (activity_at cs a).stretch.since.0 < s.clock.0
    go true k = ltb-true _ _ k
    go false k = absurd (omega (arith, still_runs, f a (omega (arith, e)) h k))

-- ---- an arrival: its thread contends
module _ (a now : ℕ) (x : Thread) where
  arrive_runs : running a (arrive now x) ≡ cond (eqb x.app a) 1 0
  unfolding running arrive
  arrive_runs = go x.phase
    where
      go : (p : Phase) → running a (with_jobs (arrive_as p now x) (x.jobs + 1)) ≡ cond (eqb x.app a) 1 0
      go Inactive = refl
      go Contending = refl
      go NonContending = refl

  arrive_more : running a x ≤ running a (arrive now x)
  unfolding running
  arrive_more = rw arrive_runs (go (contends x) (eqb x.app a))
    where
      go : (b c : Bool) → cond (b && c) 1 0 ≤ cond c 1 0
      go true c = omega arith
      go false true = omega arith
      go false false = omega arith

module _ {t : Table} {q m now : ℕ} {xs : List Thread} {cs : List Activity} (h : Held t q m now xs cs) (i : ℕ) (inside : i < m) (f : Fresh m now xs cs) where
  abbrev x : Thread
  x = at xs i

  abbrev ys : List Thread
  ys = set xs i (arrive now x)

  more_run : (a : ℕ) → sum_by (running a) (take m xs) ≤ sum_by (running a) (take m ys)
  more_run a = omega (arith, sum_put (running a) m xs i (arrive now x) blank inside (among h.tied i inside), arrive_more a now x)

  own_runs : 0 < sum_by (running (app_of t i)) (take m ys)
  own_runs = omega (
    arith,
    sum_put (running (app_of t i)) m xs i (arrive now x) blank inside (among h.tied i inside),
    sum_at (running (app_of t i)) m xs i blank inside (among h.tied i inside),
    arrive_runs (app_of t i) now x,
    ap {B = ℕ} (λ b. cond b 1 0) (eq-eqb x.app (app_of t i) (h.tied.app_same i inside)),
  )

  pub arrive_fresh : Fresh m now ys (activities (app_of t) cs (cond (is_inactive x.phase) (became_active i now ∷ []) []))
  unfolding activities noted
  arrive_fresh a l = go (is_inactive x.phase)
    where
      b : ℕ
      b = app_of t i

      v : Activity
      v = wakes now (activity_at cs b)

      at_a : Dec (b ≡ a) → 0 < (activity_at (set cs b v) a).active → ltb (activity_at (set cs b v) a).stretch.since.0 now ≡ false → 0 < sum_by (running a) (take m ys)
      at_a (yes e) = λ _ _. subst (λ d. 0 < sum_by (running d) (take m ys)) e own_runs
      at_a (no k) = rw (get_or-set_other cs b a v quiet (λ e. k (sym e))) (λ p r. omega (arith, f a l p r, more_run a))

      go : (c : Bool) → let ds = activities (app_of t) cs (cond c (became_active i now ∷ []) []) in
          0 < (activity_at ds a).active → ltb (activity_at ds a).stretch.since.0 now ≡ false → 0 < sum_by (running a) (take m ys)
      go true = at_a (ℕ_discrete b a)
      go false = λ p r. omega (arith, f a l p r, more_run a)
