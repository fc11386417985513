-- Ticks and losses are counted happening by happening, over a whole history.
use Rattle.std.specs.Prelude.{◌≡◌, refl, cond, ℕ, ◌+◌, ◌<◌, eqb, ℤ, pos, ◌+ℤ◌, length, set}
use Rattle.std.proofs.Common.{sym, ap, ◌∙◌, subst, arith, eq-eqb, ne_eqb, length-set, get_or-set_same, get_or-set_other}
use mathlib.Core.List.{List, [], ◌∷◌, ◌++◌}
use Rattle.std.proofs.Math.Decide.{ℕ_discrete}
use Rattle.integers.specs.Parts.{add_parts, same_parts, pos_none}
use Rattle.lists.specs.MapTo.{map_length, map_has}
use Rattle.rules.specs.History.{Happening, completed, arrived, dropped_to_head, granted, idle_tick, became_active, became_inactive}
use Rattle.rules.specs.Stretches.{Activity, quiet, activity_at, wakes, runs, rests, forgets, noted, activities, Over, over_at, ends, stretches, lost_as, lost_in, granted_in}
use Rattle.promises.specs.Cases.{by_test}
use Rattle.stretches.specs.Item8.{granted_by, lost_by, lost_now}
use Rattle.stretches.specs.Goes.{Suits, Suited, still, next}
use Rattle.stretches.specs.Counts.{Counts, Totals, totals_append, totals_none, other_total, counts_same, counts_runs, counts_wakes, counts_rests, counts_idle}

-- ---- what one happening grants the application a, and what it loses by it
abbrev ticked : (ℕ → ℕ) → ℕ → Happening → ℕ
ticked app a (completed i t) = 0
ticked app a (arrived i t) = 0
ticked app a (dropped_to_head i t) = 0
ticked app a (granted i t e) = cond (eqb (app i) a) 1 0
ticked app a (idle_tick t) = 0
ticked app a (became_active i t) = 0
ticked app a (became_inactive i t z f) = 0

abbrev lost_by_one : (ℕ → ℕ) → ℕ → Happening → ℤ
lost_by_one app a (completed i t) = pos 0
lost_by_one app a (arrived i t) = pos 0
lost_by_one app a (dropped_to_head i t) = pos 0
lost_by_one app a (granted i t e) = pos 0
lost_by_one app a (idle_tick t) = pos 0
lost_by_one app a (became_active i t) = pos 0
lost_by_one app a (became_inactive i t z f) = cond (eqb (app i) a) (lost_as f z) (pos 0)

ticked_first : (app : ℕ → ℕ) (a : ℕ) (h : Happening) (hs : List Happening) → ticked app a h + granted_in app a hs ≡ granted_in app a (h ∷ hs)
unfolding granted_in
ticked_first app a (completed i t) hs = omega arith
ticked_first app a (arrived i t) hs = omega arith
ticked_first app a (dropped_to_head i t) hs = omega arith
ticked_first app a (granted i t e) hs = refl
ticked_first app a (idle_tick t) hs = omega arith
ticked_first app a (became_active i t) hs = omega arith
ticked_first app a (became_inactive i t z f) hs = omega arith

lost_first : (app : ℕ → ℕ) (a : ℕ) (h : Happening) (hs : List Happening) → lost_by_one app a h +ℤ lost_in app a hs ≡ lost_in app a (h ∷ hs)
unfolding lost_in
lost_first app a (completed i t) hs = pos_none (lost_in app a hs)
lost_first app a (arrived i t) hs = pos_none (lost_in app a hs)
lost_first app a (dropped_to_head i t) hs = pos_none (lost_in app a hs)
lost_first app a (granted i t e) hs = pos_none (lost_in app a hs)
lost_first app a (idle_tick t) hs = pos_none (lost_in app a hs)
lost_first app a (became_active i t) hs = pos_none (lost_in app a hs)
lost_first app a (became_inactive i t z f) hs = refl

-- ---- one happening
-- stretches of other applications are over
counts_none : (a : ℕ) (c : Activity) (os : List Over) → Totals a os 0 (pos 0) → Counts a c c os 0 (pos 0)
unfolding granted_by lost_by
counts_none a c os p = record { ticks = omega (arith, p.0); losses = (counts_same a c).losses ∙ ap (λ z. z +ℤ lost_now c) (sym p.1) }

module _ (app : ℕ → ℕ) (cs : List Activity) (a : ℕ) (l : a < length cs) where
  -- the activity of the application b is another
  counts_at : (b : ℕ) (v : Activity) (os : List Over) (g : ℕ) (z : ℤ) → b < length cs → (b ≡ a → Counts a (activity_at cs b) v os g z)
      → ((b ≡ a → ⊥) → Counts a (activity_at cs a) (activity_at cs a) os g z) → Counts a (activity_at cs a) (activity_at (set cs b v) a) os g z
  counts_at b v os g z k own other = go (ℕ_discrete b a)
    where
      go : Dec (b ≡ a) → Counts a (activity_at cs a) (activity_at (set cs b v) a) os g z
      go (yes e) = subst (λ d. Counts a (activity_at cs d) (activity_at (set cs b v) d) os g z) e (subst (λ w. Counts a (activity_at cs b) w os g z) (sym (get_or-set_same cs b v quiet k)) (own e))
      go (no f) = subst (λ w. Counts a (activity_at cs a) w os g z) (sym (get_or-set_other cs b a v quiet (λ e. f (sym e)))) (other f)

  over_other : (t b : ℕ) (c : Activity) → (b ≡ a → ⊥) → Totals a (over_at t b c) 0 (pos 0)
  over_other t b c f = by_test (λ os. Totals a os 0 (pos 0)) (eqb c.active 0) (λ _. other_total a _ f) (λ _. totals_none a)

  one_counts : (h : Happening) → Suits app cs h → Counts a (activity_at cs a) (activity_at (noted app cs h) a) (ends app cs h) (ticked app a h) (lost_by_one app a h)
  unfolding noted ends
  one_counts (completed i t) s = counts_same a (activity_at cs a)
  one_counts (arrived i t) s = counts_same a (activity_at cs a)
  one_counts (dropped_to_head i t) s = counts_same a (activity_at cs a)
  one_counts (granted i t e) s =
      counts_at (app i) (runs (activity_at cs (app i))) [] (cond (eqb (app i) a) 1 0) (pos 0) s.0
      (λ k. rw (eq-eqb (app i) a k) (counts_runs a (activity_at cs (app i)) s.1)) (λ f. rw (ne_eqb (app i) a f) (counts_same a (activity_at cs a)))
  one_counts (idle_tick t) s = rw (map_has (length cs) forgets cs a quiet l l) (counts_idle t a cs l)
  one_counts (became_active i t) s =
      counts_at (app i) (wakes t (activity_at cs (app i))) [] 0 (pos 0) s (λ k. counts_wakes a (activity_at cs (app i)) t) (λ f. counts_same a (activity_at cs a))
  one_counts (became_inactive i t z f) s =
      let c = activity_at cs (app i) in
      let y = lost_as f z in
      counts_at (app i) (rests y c) (over_at t (app i) (rests y c)) 0 (cond (eqb (app i) a) y (pos 0)) s.0
      (λ k. rw (eq-eqb (app i) a k) (subst (λ d. Counts a c (rests y c) (over_at t d (rests y c)) 0 y) (sym k) (counts_rests a c t y s.1)))
      (λ k. rw (ne_eqb (app i) a k) (counts_none a (activity_at cs a) (over_at t (app i) (rests y c)) (over_other t (app i) (rests y c) k)))

-- ---- a history
counts_then : {a : ℕ} {c d e : Activity} {os ps : List Over} {g k : ℕ} {y z : ℤ} → Counts a c d os g y → Counts a d e ps k z → Counts a c e (os ++ ps) (g + k) (y +ℤ z)
counts_then {a} {c} {d} {e} {os} {ps} {g} {k} {y} {z} p q =
    let t = totals_append a os ps (refl, refl) in
    record {
      ticks = omega (arith, p.ticks, q.ticks, t.0);
      losses =
          same_parts _ _ (omega (arith, add_parts (lost_now c) (y +ℤ z), add_parts y z, add_parts (lost_now c +ℤ y) z, add_parts (lost_now c) y))
          ∙ ap (λ i. i +ℤ z) p.losses
          ∙ same_parts _ _ (omega (arith, add_parts (lost_by a os +ℤ lost_now d) z, add_parts (lost_by a os) (lost_now d), add_parts (lost_by a os) (lost_now d +ℤ z), add_parts (lost_now d) z))
          ∙ ap (λ i. lost_by a os +ℤ i) q.losses
          ∙ same_parts _ _ (omega (arith, add_parts (lost_by a os) (lost_by a ps +ℤ lost_now e), add_parts (lost_by a ps) (lost_now e), add_parts (lost_by a os +ℤ lost_by a ps) (lost_now e), add_parts (lost_by a os) (lost_by a ps)))
          ∙ ap (λ i. i +ℤ lost_now e) (sym t.1);
    }

pub noted_length : (app : ℕ → ℕ) (cs : List Activity) (h : Happening) → length (noted app cs h) ≡ length cs
unfolding noted
noted_length app cs (completed i t) = refl
noted_length app cs (arrived i t) = refl
noted_length app cs (dropped_to_head i t) = refl
noted_length app cs (granted i t e) = length-set cs (app i) (runs (activity_at cs (app i)))
noted_length app cs (idle_tick t) = map_length (length cs) forgets cs
noted_length app cs (became_active i t) = length-set cs (app i) (wakes t (activity_at cs (app i)))
noted_length app cs (became_inactive i t z f) = length-set cs (app i) (rests (lost_as f z) (activity_at cs (app i)))

pub counted : (app : ℕ → ℕ) (a : ℕ) (cs : List Activity) (hs : List Happening) → Suited app cs hs → a < length cs
    → Counts a (activity_at cs a) (activity_at (activities app cs hs) a) (stretches app cs hs) (granted_in app a hs) (lost_in app a hs)
unfolding activities stretches granted_in lost_in
counted app a cs [] still l = counts_same a (activity_at cs a)
counted app a cs (h ∷ hs) (next p r) l =
    rw (← ticked_first app a h hs, ← lost_first app a h hs) (counts_then (one_counts app cs a l h p) (counted app a (noted app cs h) hs r (omega (arith, noted_length app cs h))))
