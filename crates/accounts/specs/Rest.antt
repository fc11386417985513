-- A thread becomes inactive: what the code needs for it, from where the applications stand before and after.
use Rattle.std.specs.Prelude.{◌≡◌, true, false, cond, List, [], ◌∷◌, ℕ, ◌+◌, ◌*◌, ◌≤◌, ◌<◌, ℤ, ◌+ℤ◌, set}
use Rattle.std.proofs.Common.{sym, add-one, get_or-set_same, SFits}
use Rattle.std.proofs.Math.Path.{subst}
use native.Mathlib.Omega.{arith}
use Rattle.std.specs.Int.{w64}
use Rattle.lists.specs.MapTo.{map_to, map_at}
use Rattle.rules.specs.Limits.{max_q, max_threads, apps, clock_end}
use Rattle.rules.specs.Threads.{Thread, State, Amount, amt, blank, at}
use Rattle.rules.specs.Table.{Table}
use Rattle.rules.specs.Leaving.{leave}
use Rattle.rules.specs.Completion.{freed}
use Rattle.rules.specs.History.{Fate, left, became_inactive, leaves, leaving, leaving_to, leavings}
use Rattle.rules.specs.Stretches.{Activity, quiet, activity_at, lost_as, rests, noted, activities, ends, over_at, app_of}
use Rattle.rules.specs.Report.{over_lines, stand}
use Rattle.promises.specs.Good.{Good}
use Rattle.stretches.specs.Standing.{Held, Kept}
use Rattle.stretches.specs.Goes.{Suits, Suited, next, Goes}
use Rattle.stretches.specs.Leavings.{goes_leaving, goes_leaving_to}
use Rattle.text.specs.Put.{Put}
use Rattle.text.specs.Wide.{wide}
use Rattle.accounts.specs.Told.{Tells, tells_none, tells_one, tells_then}
use Rattle.accounts.specs.Lines.{Lined, lined, lost_fits}

-- thread i becomes inactive at the moment now, and z is lost
pub record Rests (t : Table) (cs : List Activity) (i : ℕ) (z : ℤ) (now : ℕ) : Type 0 where
  pub inside : i < max_threads
  pub app_max : app_of t i < apps
  pub some : 0 < (activity_at cs (app_of t i)).active
  pub fits : SFits w64 ((activity_at cs (app_of t i)).stretch.lost.0 +ℤ z)
  pub lines : Lined t (app_of t i) now (rests z (activity_at cs (app_of t i)))

module _ {t : Table} {q m now : ℕ} {xs : List Thread} {cs : List Activity} (i : ℕ) (z : ℤ) (f : Fate) (inside : i < m) (q_max : q ≤ max_q) (time : now ≤ clock_end) where
  rests_by : Held t q m now xs (noted (app_of t) cs (became_inactive i now z f)) → Suits (app_of t) cs (became_inactive i now z f) → Rests t cs i (lost_as f z) now
  unfolding noted rests
  rests_by h s =
      let l = h.tied.app_max i inside in
      let k : Lined t (app_of t i) now (rests (lost_as f z) (activity_at cs (app_of t i))) = subst (Lined t (app_of t i) now) (get_or-set_same cs (app_of t i) _ quiet s.0) (lined h q_max time (app_of t i) l) in
      record {
        inside = omega (arith, h.tied.few);
        app_max = l;
        some = s.1;
        fits = lost_fits k;
        lines = k;
      }

  -- the one happening of a history
  pub rests_goes : Goes t q m now xs cs (became_inactive i now z f ∷ []) → Rests t cs i (lost_as f z) now
  unfolding activities
  rests_goes g = rests_by g.held (only g.suited)
    where
      only : Suited (app_of t) cs (became_inactive i now z f ∷ []) → Suits (app_of t) cs (became_inactive i now z f)
      only (next p r) = p

-- ---- what is told of it
module _ {t : Table} {cs : List Activity} {out out' : List ℕ} {from used : ℕ} {cs' : List Activity} where
  pub tells_rest : (i now : ℕ) (z : ℤ) (f : Fate) → Put out from (over_lines t (over_at now (app_of t i) (rests (lost_as f z) (activity_at cs (app_of t i))))) out' used → cs' ≡ set cs (app_of t i) (rests (lost_as f z) (activity_at cs (app_of t i))) → Tells t cs (became_inactive i now z f ∷ []) out from out' used cs'
  unfolding noted ends
  tells_rest i now z f p e = tells_one (became_inactive i now z f) p e

-- ---- the first i threads have left
pub record Left (t : Table) (cs : List Activity) (s : State) (i : ℕ) (out : List ℕ) (from : ℕ) (out' : List ℕ) (used : ℕ) (cs' : List Activity) : Type 0 where
  pub most : i ≤ s.count
  pub tells : Tells t cs (leaving_to s.clock.0 s.threads i) out from out' used cs'
  pub short : used ≤ from + i * wide

module _ {t : Table} {cs : List Activity} {s : State} (good : Good s) (k : Kept t s cs) where
  pub left_none : (out : List ℕ) (from : ℕ) → Left t cs s 0 out from out from cs
  unfolding leaving_to
  left_none out from = record { most = omega arith; tells = tells_none; short = omega arith }

  module _ {i : ℕ} {out out' : List ℕ} {from used : ℕ} {cs' : List Activity} (l : Left t cs s i out from out' used cs') (inside : i < s.count) where
    abbrev x : Thread
    x = at s.threads i

    goes : Goes t s.q s.count s.clock.0 (set (map_to i (leave s.clock.0) s.threads) i (leave s.clock.0 x)) cs' (leaving s.clock.0 i x)
    goes =
        subst (λ (ds : List Activity). Goes t s.q s.count s.clock.0 (set (map_to i (leave s.clock.0) s.threads) i (leave s.clock.0 x)) ds (leaving s.clock.0 i x)) (sym l.tells.stands)
        (subst (λ (y : Thread). Goes t s.q s.count s.clock.0 (set (map_to i (leave s.clock.0) s.threads) i (leave s.clock.0 y)) (stand t cs (leaving_to s.clock.0 s.threads i)) (leaving s.clock.0 i y)) (map_at i (leave s.clock.0) s.threads i blank (omega arith))
        (goes_leaving (goes_leaving_to k i l.most).held i inside))

    pub left_rests : leaves s.clock.0 x ≡ true → Rests t cs' i (freed s.clock.0 x) s.clock.0
    left_rests e = rests_goes i (freed s.clock.0 x) left inside good.q_max good.time (subst (λ b. Goes t s.q s.count s.clock.0 (set (map_to i (leave s.clock.0) s.threads) i (leave s.clock.0 x)) cs' (cond b (became_inactive i s.clock.0 (freed s.clock.0 x) left ∷ []) [])) e goes)

    more : {out'' : List ℕ} {used'' : ℕ} {cs'' : List Activity} → Tells t cs' (leaving s.clock.0 i x) out' used out'' used'' cs'' → used'' ≤ used + wide → Left t cs s (i + 1) out from out'' used'' cs''
    unfolding leaving_to
    more {out''} {used''} {cs''} d h = record {
      most = omega arith;
      tells = subst (λ n. Tells t cs (leaving_to s.clock.0 s.threads n) out from out'' used'' cs'') (sym (add-one i)) (tells_then (leaving_to s.clock.0 s.threads i) (leaving s.clock.0 i x) l.tells d);
      short = omega (arith, l.short);
    }

    -- thread i stays
    pub left_stays : leaves s.clock.0 x ≡ false → Left t cs s (i + 1) out from out' used cs'
    left_stays e = more (subst (λ b. Tells t cs' (cond b (became_inactive i s.clock.0 (freed s.clock.0 x) left ∷ []) []) out' used out' used cs') (sym e) tells_none) (omega arith)

    -- .. or leaves
    pub left_goes : leaves s.clock.0 x ≡ true → {out'' : List ℕ} {used'' : ℕ} {cs'' : List Activity} (z : Amount) → z ≡ amt (freed s.clock.0 x)
        → Put out' used (over_lines t (over_at s.clock.0 (app_of t i) (rests z.0 (activity_at cs' (app_of t i))))) out'' used''
        → cs'' ≡ set cs' (app_of t i) (rests z.0 (activity_at cs' (app_of t i))) → used'' ≤ used + wide → Left t cs s (i + 1) out from out'' used'' cs''
    left_goes e {out''} {used''} {cs''} z ez p es h =
        let d = tells_rest i s.clock.0 (freed s.clock.0 x) left (rw ez at p) (rw ez at es) in
        more (subst (λ b. Tells t cs' (cond b (became_inactive i s.clock.0 (freed s.clock.0 x) left ∷ []) []) out' used out'' used'' cs'') (sym e) d) h

  -- all threads
  pub left_all : {i : ℕ} {out out' : List ℕ} {from used : ℕ} {cs' : List Activity} → Left t cs s i out from out' used cs' → s.closed ≡ false → s.count ≤ i → Tells t cs (leavings s) out from out' used cs' × (used ≤ from + max_threads * wide)
  unfolding leavings
  left_all {i} {out} {out'} {from} {used} {cs'} l e h =
      let n : i ≡ s.count = omega (arith, l.most) in
      (rw e (subst (λ j. Tells t cs (leaving_to s.clock.0 s.threads j) out from out' used cs') n l.tells), omega (arith, l.short, l.most, good.rows.few))

  -- a closed moment has had it
  pub left_closed : (out : List ℕ) (from : ℕ) → s.closed ≡ true → Tells t cs (leavings s) out from out from cs
  unfolding leavings
  left_closed out from e = rw e tells_none
