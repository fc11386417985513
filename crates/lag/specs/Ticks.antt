-- The ticks that a stretch of a thread has are those of the history from its beginning on, and those of an application are those of its
-- threads together.
use Rattle.std.specs.Prelude.{◌≡◌, Bool, cond, List, ◌∷◌, ℕ, ◌+◌, ◌≤◌, ◌<◌, eqb, leb, ℤ}
use Rattle.std.proofs.Math.Path.{sym}
use Rattle.std.proofs.Math.Bool.{true, false}
use Rattle.std.proofs.Common.{not-suc-le-zero, le-leb}
use native.Mathlib.Omega.{arith}
use Rattle.std.proofs.lemmas.Bool.{eqb-false, lt-leb}
use Rattle.rules.specs.History.{Happening, completed, arrived, dropped_to_head, granted, idle_tick, became_active, became_inactive}
use Rattle.rules.specs.Stretches.{Stretch, Activity, wakes, runs, rests, forgets, lost_as}
use Rattle.promises.specs.Cases.{by_test}
use Rattle.lag.specs.Own.{tick_from, granted_from, over_to}
use Rattle.lag.specs.Sums.{over_none, over_add, over_one}
use Rattle.lag.specs.Mine.{mine_of, mine}
use Rattle.lag.specs.Paced.{Next, Paced, still, next}

-- ---- one thread
-- c is where a thread stands at the moment t, which was granted had m ticks from m on
pub record Counted (had : ℕ → ℕ) (t : ℕ) (c : Activity) : Type 0 where
  pub none_yet : (m : ℕ) → t ≤ m → had m ≡ 0
  pub begun : 0 < c.active → c.stretch.since.0 ≤ t
  pub same : 0 < c.active → c.stretch.granted ≡ had c.stretch.since.0

module _ (i : ℕ) where
  -- the tick of one happening, and the ticks of a history
  abbrev tick : ℕ → Happening → ℕ
  tick m h = tick_from (λ j. j) i m h

  abbrev ticks : ℕ → List Happening → ℕ
  ticks m hs = granted_from (λ j. j) i m hs

  module _ {had : ℕ → ℕ} {t : ℕ} {c : Activity} (k : Counted had t c) where
    -- nothing that counts
    unticked : Counted (λ m. had m + 0) t c
    unticked = record { none_yet = λ m l. omega (arith, k.none_yet m l); begun = k.begun; same = λ p. omega (arith, k.same p) }

    -- a tick of thread j
    ticked : (b : Bool) → Counted (λ m. had m + cond b (cond (leb m t) 1 0) 0) (t + 1) (cond b (runs c) c)
    unfolding runs
    ticked true = record {
      none_yet = λ m l. rw (lt-leb m t (omega arith)) (omega (arith, k.none_yet m (omega arith)));
      begun = λ p. omega (arith, k.begun p);
      same = λ p. rw (le-leb c.stretch.since.0 t (k.begun p)) (omega (arith, k.same p));
    }
    ticked false = record { none_yet = λ m l. omega (arith, k.none_yet m (omega arith)); begun = λ p. omega (arith, k.begun p); same = λ p. omega (arith, k.same p) }

    forgot : Counted (λ m. had m + 0) (t + 1) (forgets c)
    unfolding forgets
    forgot = record { none_yet = λ m l. omega (arith, k.none_yet m (omega arith)); begun = λ p. absurd (not-suc-le-zero p); same = λ p. absurd (not-suc-le-zero p) }

    woke : (b : Bool) → Counted (λ m. had m + 0) t (cond b (wakes t c) c)
    unfolding wakes
    woke false = unticked
    woke true = by_test (λ (x : Stretch). Counted (λ m. had m + 0) t (record { active = c.active + 1; stretch = x })) (eqb c.active 0)
        (λ _. record { none_yet = unticked.none_yet; begun = λ _. omega arith; same = λ _. omega (arith, k.none_yet t (omega arith)) })
        (λ e. let p = positive (eqb-false c.active 0 e) in record { none_yet = unticked.none_yet; begun = λ _. k.begun p; same = λ _. unticked.same p })
      where
        positive : (c.active ≡ 0 → ⊥) → 0 < c.active
        positive f = omega arith

    rested : (b : Bool) (z : ℤ) → Counted (λ m. had m + 0) t (cond b (rests z c) c)
    unfolding rests
    rested false z = unticked
    rested true z = record { none_yet = unticked.none_yet; begun = λ p. k.begun (omega arith); same = λ p. unticked.same (omega arith) }

  one_counted : (n t t' : ℕ) {had : ℕ → ℕ} {c : Activity} (h : Happening) → Next n t h t' → Counted had t c → Counted (λ m. had m + tick m h) t' (mine_of i c h)
  unfolding mine_of
  one_counted n t t' (completed j m) p k = rw p (unticked k)
  one_counted n t t' (arrived j m) p k = rw p (unticked k)
  one_counted n t t' (dropped_to_head j m) p k = rw p (unticked k)
  one_counted n t t' (granted j m e) p k = rw (p.1, p.2) (ticked k (eqb j i))
  one_counted n t t' (idle_tick m) p k = rw p (forgot k)
  one_counted n t t' (became_active j m) p k = rw (p.0, p.1) (woke k (eqb j i))
  one_counted n t t' (became_inactive j m z f) p k = rw p (rested k (eqb j i) (lost_as f z))

  pub all_counted : {n t u : ℕ} {hs : List Happening} {had : ℕ → ℕ} {c : Activity} → Paced n t hs u → Counted had t c → Counted (λ m. had m + ticks m hs) u (mine i c hs)
  unfolding mine granted_from
  all_counted still k = unticked k
  all_counted {n} {hs = h ∷ hs} (next {t} {t'} p r) k = let d = all_counted r (one_counted n t t' h p k) in record {
    none_yet = λ m l. omega (arith, d.none_yet m l);
    begun = d.begun;
    same = λ p. omega (arith, d.same p);
  }

-- ---- the threads of an application together
module _ (app : ℕ → ℕ) (a m : ℕ) where
  over_tick : (n t t' : ℕ) (h : Happening) → Next n t h t' → tick_from app a m h ≡ over_to app a (λ i. tick i m h) n
  over_tick n t t' (completed j k) p = sym (over_none app a n)
  over_tick n t t' (arrived j k) p = sym (over_none app a n)
  over_tick n t t' (dropped_to_head j k) p = sym (over_none app a n)
  over_tick n t t' (granted j k e) p = sym (over_one app a j (cond (leb m k) 1 0) n p.0)
  over_tick n t t' (idle_tick k) p = sym (over_none app a n)
  over_tick n t t' (became_active j k) p = sym (over_none app a n)
  over_tick n t t' (became_inactive j k z f) p = sym (over_none app a n)

  pub over_ticks : {n t u : ℕ} {hs : List Happening} → Paced n t hs u → granted_from app a m hs ≡ over_to app a (λ i. ticks i m hs) n
  unfolding granted_from
  over_ticks {n} still = sym (over_none app a n)
  over_ticks {n} {hs = h ∷ hs} (next {t} {t'} p r) = omega (arith, over_tick n t t' h p, over_ticks r, over_add app a (λ i. tick i m h) (λ i. ticks i m hs) n)
