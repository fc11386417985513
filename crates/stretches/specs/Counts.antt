-- Nothing is left out: the stretches of an application have every tick that it was granted and every loss of it.
use Rattle.std.specs.Prelude.{◌≡◌, Bool, true, false, cond, eqb, ◌+ℤ◌, length}
use Rattle.std.proofs.Math.Path.{refl, ap}
use Rattle.std.proofs.Common.{sym, ◌∙◌, subst, not-suc-le-zero, arith, eq-eqb, ne_eqb, eqb-true}
use mathlib.Core.List.{List, [], ◌∷◌, ◌++◌}
use Prim.Native.Nat.{ℕ, zero, suc, ◌+◌, ◌-◌, ◌≤◌, ◌<◌}
use Rattle.std.proofs.Math.Decide.{ℕ_discrete}
use Rattle.std.proofs.lemmas.Bool.{eqb-false}
use Rattle.std.proofs.Math.IntN.{ℤ, pos}
use Rattle.integers.specs.Parts.{add_parts, same_parts}
use Rattle.rules.specs.Stretches.{Stretch, Activity, activity_at, begins, wakes, runs, rests, forgets, Over, over_at, cut_at, cut_to}
use Rattle.promises.specs.Cases.{by_test}
use Rattle.stretches.specs.Item8.{granted_by, lost_by, granted_now, lost_now}

-- ---- the application a, from c to c', with the stretches os over, g ticks granted and z lost
pub record Counts (a : ℕ) (c c' : Activity) (os : List Over) (g : ℕ) (z : ℤ) : Type 0 where
  pub ticks : granted_now c + g ≡ granted_by a os + granted_now c'
  pub losses : lost_now c +ℤ z ≡ lost_by a os +ℤ lost_now c'

-- a stretch holds, or none does
now_some : (c : Activity) → 0 < c.active → (granted_now c ≡ c.stretch.granted) × (lost_now c ≡ c.stretch.lost.0)
now_some c h = let e = ne_eqb c.active 0 (λ k. omega arith) in (rw e refl, rw e refl)

now_none : (c : Activity) → c.active ≡ 0 → (granted_now c ≡ 0) × (lost_now c ≡ pos 0)
now_none c k = let e = eq-eqb c.active 0 k in (rw e refl, rw e refl)

-- nothing happens to it
pub counts_same : (a : ℕ) (c : Activity) → Counts a c c [] 0 (pos 0)
unfolding granted_by lost_by
counts_same a c = record {
  ticks = omega arith;
  losses = same_parts _ _ (omega (arith, add_parts (lost_now c) (pos 0), add_parts (pos 0) (lost_now c)));
}

-- ---- what each happening does to its own application
module _ (a : ℕ) (c : Activity) where
  pub counts_runs : 0 < c.active → Counts a c (runs c) [] 1 (pos 0)
  unfolding granted_by lost_by runs
  counts_runs h =
      let p = now_some c h in
      let r = now_some (runs c) h in
      record {
        ticks = omega (arith, p.0, r.0);
        losses = (counts_same a c).losses;
      }

  pub counts_wakes : (t : ℕ) → Counts a c (wakes t c) [] 0 (pos 0)
  unfolding granted_by lost_by wakes
  counts_wakes t = by_test (λ (x : Stretch). Counts a c (record { active = c.active + 1; stretch = x }) [] 0 (pos 0)) (eqb c.active 0)
      (λ e. let p = now_none c (eqb-true c.active 0 e) in let r = now_some (next_as (begins t)) (omega arith) in record { ticks = omega (arith, p.0, r.0); losses = rw (p.1, r.1) refl })
      (λ e. let p = now_some c (positive (eqb-false c.active 0 e)) in let r = now_some (next_as c.stretch) (omega arith) in record {
        ticks = omega (arith, p.0, r.0);
        losses = rw (p.1, r.1) (same_parts _ _ (omega (arith, add_parts c.stretch.lost.0 (pos 0), add_parts (pos 0) c.stretch.lost.0)));
      })
    where
      next_as : Stretch → Activity
      next_as x = record { active = c.active + 1; stretch = x }

      positive : (c.active ≡ 0 → ⊥) → 0 < c.active
      positive f = omega arith

  pub counts_rests : (t : ℕ) (z : ℤ) → 0 < c.active → Counts a c (rests z c) (over_at t a (rests z c)) 0 z
  unfolding granted_by lost_by rests
  counts_rests t z h = let p = now_some c h in record { ticks = rw p.0 (ticks (eqb (c.active - 1) 0)); losses = rw p.1 (losses (eqb (c.active - 1) 0)) }
    where
      g : ℕ
      g = c.stretch.granted

      y : ℤ
      y = c.stretch.lost.0 +ℤ z

      over : Over
      over = record { application = a; stretch = (rests z c).stretch; until = t; idle = false }

      ticks : (b : Bool) → g + 0 ≡ granted_by a (cond b (over ∷ []) []) + cond b 0 g
      ticks true = rw (eq-eqb a a refl) (omega arith)
      ticks false = omega arith

      losses : (b : Bool) → y ≡ lost_by a (cond b (over ∷ []) []) +ℤ cond b (pos 0) y
      losses true = rw (eq-eqb a a refl) (same_parts _ _ (omega (arith, add_parts y (pos 0), add_parts (y +ℤ pos 0) (pos 0))))
      losses false = same_parts _ _ (omega (arith, add_parts (pos 0) y))

-- ---- stretches that are over, of the application a and of others
abbrev pub Totals : ℕ → List Over → ℕ → ℤ → Type 0
Totals a os g z = (granted_by a os ≡ g) × (lost_by a os ≡ z)

pub totals_append : (a : ℕ) (os ps : List Over) {g : ℕ} {z : ℤ} → Totals a ps g z → Totals a (os ++ ps) (granted_by a os + g) (lost_by a os +ℤ z)
unfolding granted_by lost_by
totals_append a [] ps {z = z} p = (omega (arith, p.0), p.1 ∙ same_parts _ _ (omega (arith, add_parts (pos 0) z)))
totals_append a (o ∷ os) ps {z = z} p =
    let r = totals_append a os ps p in
    let y = cond (eqb o.application a) o.stretch.lost.0 (pos 0) in
    (omega (arith, r.0), ap (λ i. y +ℤ i) r.1 ∙ same_parts _ _ (omega (arith, add_parts y (lost_by a os +ℤ z), add_parts (lost_by a os) z, add_parts y (lost_by a os), add_parts (y +ℤ lost_by a os) z)))

pub totals_none : (a : ℕ) → Totals a [] 0 (pos 0)
unfolding granted_by lost_by
totals_none a = (refl, refl)

-- one of its own, one of another application
own_total : (a : ℕ) (o : Over) → o.application ≡ a → Totals a (o ∷ []) o.stretch.granted o.stretch.lost.0
unfolding granted_by lost_by
own_total a o e = (rw (eq-eqb o.application a e) (omega arith), rw (eq-eqb o.application a e) (same_parts _ _ (omega (arith, add_parts o.stretch.lost.0 (pos 0)))))

pub other_total : (a : ℕ) (o : Over) → (o.application ≡ a → ⊥) → Totals a (o ∷ []) 0 (pos 0)
unfolding granted_by lost_by
other_total a o f = (rw (ne_eqb o.application a f) refl, rw (ne_eqb o.application a f) refl)

-- ---- an idle tick: each stretch that holds is over
module _ (t a : ℕ) where
  cut_own : (c : Activity) → Totals a (cut_at t a c) (granted_now c) (lost_now c)
  cut_own c = go (eqb c.active 0)
    where
      over : Over
      over = record { application = a; stretch = c.stretch; until = t; idle = true }

      go : (b : Bool) → Totals a (cond b [] (over ∷ [])) (cond b 0 c.stretch.granted) (cond b (pos 0) c.stretch.lost.0)
      go true = totals_none a
      go false = own_total a over refl

  cut_other : (b : ℕ) (c : Activity) → (b ≡ a → ⊥) → Totals a (cut_at t b c) 0 (pos 0)
  cut_other b c f = by_test (λ os. Totals a os 0 (pos 0)) (eqb c.active 0) (λ _. totals_none a) (λ _. other_total a _ f)

  module _ (cs : List Activity) where
    cut_before : (n : ℕ) → n ≤ a → Totals a (cut_to t cs n) 0 (pos 0)
    unfolding cut_to
    cut_before zero h = totals_none a
    cut_before (suc b) h =
        let r = cut_before b (omega arith) in
        let p = totals_append a (cut_to t cs b) (cut_at t b (activity_at cs b)) (cut_other b (activity_at cs b) (λ e. omega arith)) in
        (omega (arith, p.0, r.0), p.1 ∙ ap (λ i. i +ℤ pos 0) r.1)

    cut_all : (n : ℕ) → a < n → Totals a (cut_to t cs n) (granted_now (activity_at cs a)) (lost_now (activity_at cs a))
    unfolding cut_to
    cut_all zero h = absurd (not-suc-le-zero h)
    cut_all (suc b) h = go (ℕ_discrete b a) (cut_all b)
      where
        y : ℤ
        y = lost_now (activity_at cs a)

        go : Dec (b ≡ a) → (a < b → Totals a (cut_to t cs b) (granted_now (activity_at cs a)) y) → Totals a (cut_to t cs b ++ cut_at t b (activity_at cs b)) (granted_now (activity_at cs a)) y
        go (yes e) i =
            let r = cut_before b (omega arith) in
            let p = totals_append a (cut_to t cs b) (cut_at t b (activity_at cs b)) (subst (λ d. Totals a (cut_at t d (activity_at cs d)) (granted_now (activity_at cs a)) y) (sym e) (cut_own (activity_at cs a))) in
            (omega (arith, p.0, r.0), p.1 ∙ ap (λ i. i +ℤ y) r.1 ∙ same_parts _ _ (omega (arith, add_parts (pos 0) y)))
        go (no f) i =
            let r = i (omega arith) in
            let p = totals_append a (cut_to t cs b) (cut_at t b (activity_at cs b)) (cut_other b (activity_at cs b) f) in
            (omega (arith, p.0, r.0), p.1 ∙ ap (λ i. i +ℤ pos 0) r.1 ∙ same_parts _ _ (omega (arith, add_parts y (pos 0))))

    pub counts_idle : a < length cs → Counts a (activity_at cs a) (forgets (activity_at cs a)) (cut_to t cs (length cs)) 0 (pos 0)
    unfolding forgets
    counts_idle h = let p = cut_all (length cs) h in record { ticks = omega (arith, p.0); losses = ap (λ i. i +ℤ pos 0) (sym p.1) }
