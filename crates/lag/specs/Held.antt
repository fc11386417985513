-- What holds between a thread and its own stretch, and what each change of the thread does to it.
use Rattle.std.specs.Prelude.{◌≡◌, Bool, true, false, not, cond, ◌&&◌, [], ◌∷◌, ℕ, ◌+◌, ◌*◌, ◌≤◌, ◌<◌, T, eqb, ℤ, pos, ◌+ℤ◌, ◌-ℤ◌}
use Rattle.std.proofs.Math.Path.{refl}
use native.Mathlib.Omega.{arith}
use Rattle.std.proofs.Common.{eq-eqb}
use Rattle.std.specs.Int.Signed.{lt_z}
use Rattle.integers.specs.Parts.{up, dn, plus_parts, minus_parts, sub_parts, lt_z-true}
use Rattle.rules.specs.Threads.{Thread, Phase, Inactive, Contending, NonContending, with_jobs, scaled, is_inactive, is_contending, is_non, contends, idle, loses}
use Rattle.rules.specs.Completion.{goes_on, stays, freed}
use Rattle.rules.specs.Leaving.{leave}
use Rattle.rules.specs.Arrival.{arrive_as, arrive}
use Rattle.rules.specs.Fitting.{fit}
use Rattle.rules.specs.Charge.{gains}
use Rattle.rules.specs.History.{became_active, became_inactive, left, leaving}
use Rattle.rules.specs.Stretches.{Activity, wakes, runs, rests, forgets}
use Rattle.promises.specs.Cases.{by_test}
use Rattle.promises.specs.Branches.{by_fitting}
use Rattle.lag.specs.Mine.{mine_of, mine}

-- of an active thread with share u, period p, W = w and E = e, active since s with g ticks since: W ≤ u × s + Q × g and
-- E < u × s + Q × g + Q + u × P
pub record Since (q u p t : ℕ) (c : Activity) (w e : ℤ) : Type 0 where
  pub one : c.active ≡ 1
  pub begun : c.stretch.since.0 ≤ t
  pub w_most : up w ≤ u * c.stretch.since.0 + q * c.stretch.granted + dn w
  pub e_less : up e < u * c.stretch.since.0 + q * c.stretch.granted + q + u * p + dn e

abbrev pub HeldAs : Phase → ℕ → ℕ → ℕ → ℕ → Activity → ℤ → ℤ → Type 0
HeldAs Inactive q u p t c w e = c.active ≡ 0
HeldAs Contending q u p t c w e = Since q u p t c w e
HeldAs NonContending q u p t c w e = Since q u p t c w e

-- the thread x and its own stretch at the moment t
pub record Held (q t : ℕ) (c : Activity) (x : Thread) : Type 0 where
  pub stage : HeldAs x.phase q x.share x.period t c x.w.0 x.e.0

-- ---- by phase
contending_active : (f : Phase) → T (is_contending f) → T (not (is_inactive f))
contending_active Inactive a = a
contending_active Contending a = tt
contending_active NonContending a = tt

module _ {q u p t : ℕ} {c : Activity} {w e : ℤ} where
  -- another W and E that keep the two bounds
  held_as : (f : Phase) {w' e' : ℤ} → (Since q u p t c w e → Since q u p t c w' e') → HeldAs f q u p t c w e → HeldAs f q u p t c w' e'
  held_as Inactive k h = h
  held_as Contending k h = k h
  held_as NonContending k h = k h

  held_active : (f : Phase) → T (not (is_inactive f)) → HeldAs f q u p t c w e → Since q u p t c w e
  held_active Inactive a h = absurd a
  held_active Contending a h = h
  held_active NonContending a h = h

  -- E that becomes W + u × P, or stays
  next_e : 0 < q → Since q u p t c w e → Since q u p t c w (w +ℤ pos (u * p))
  next_e k h = let s = plus_parts w (u * p) in record { one = h.one; begun = h.begun; w_most = h.w_most; e_less = omega (arith, h.w_most) }

  less_w : (r : ℕ) → Since q u p t c w e → Since q u p t c (w -ℤ pos r) e
  less_w r h = let s = minus_parts w r in record { one = h.one; begun = h.begun; w_most = omega (arith, h.w_most); e_less = h.e_less }

  more_w : (r : ℕ) → r ≤ q → Since q u p t c w e → Since q u p t (runs c) (w +ℤ pos r) e
  unfolding runs
  more_w r l h = let s = plus_parts w r in record { one = h.one; begun = h.begun; w_most = omega (arith, h.w_most); e_less = omega (arith, h.e_less) }

-- ---- the changes of the thread x
module _ {q t : ℕ} {c : Activity} (x : Thread) (h : Held q t c x) where
  pub lose_held : (r : ℕ) → Held q t c (loses (pos r) x)
  lose_held r = record { stage = held_as x.phase (less_w r) h.stage }

  pub fit_held : (room : ℕ) → room ≤ q → Held q t c (fit room x)
  fit_held room l = by_fitting (Held q t c) room x h (λ _ e. record { stage = held_as x.phase (later (lt_z-true (x.e.0 -ℤ x.w.0) (pos room) e)) h.stage })
    where
      later : up (x.e.0 -ℤ x.w.0) + 0 < room + dn (x.e.0 -ℤ x.w.0) → Since q x.share x.period t c x.w.0 x.e.0
          → Since q x.share x.period t c x.w.0 (x.e.0 +ℤ pos (x.share * x.period))
      later k s =
          let d = sub_parts x.e.0 x.w.0 in
          let a = plus_parts x.e.0 (x.share * x.period) in
          record { one = s.one; begun = s.begun; w_most = s.w_most; e_less = omega (arith, s.w_most, d.eq) }

  pub gain_held : (room : ℕ) → room ≤ q → T (contends x) → Held q t (runs c) (gains room x)
  gain_held room l k = record { stage = go x.phase k h.stage }
    where
      go : (f : Phase) → T (is_contending f) → HeldAs f q x.share x.period t c x.w.0 x.e.0 → HeldAs f q x.share x.period t (runs c) (x.w.0 +ℤ pos room) x.e.0
      go Inactive k s = absurd k
      go Contending k s = more_w room l s
      go NonContending k s = absurd k

  pub idle_held : Held q t (forgets c) (idle x)
  unfolding forgets
  idle_held = record { stage = refl }

  pub jobs_held : (n : ℕ) → Held q t c (with_jobs x n)
  jobs_held n = record { stage = h.stage }

  pub later_held : {t' : ℕ} → t ≤ t' → Held q t' c x
  later_held {t'} l = record { stage = go x.phase h.stage }
    where
      on : Since q x.share x.period t c x.w.0 x.e.0 → Since q x.share x.period t' c x.w.0 x.e.0
      on s = let b = s.begun in record { one = s.one; begun = omega arith; w_most = s.w_most; e_less = s.e_less }

      go : (f : Phase) → HeldAs f q x.share x.period t c x.w.0 x.e.0 → HeldAs f q x.share x.period t' c x.w.0 x.e.0
      go Inactive s = s
      go Contending s = on s
      go NonContending s = on s

  -- it becomes inactive
  at_most_one : c.active ≤ 1
  at_most_one = go x.phase h.stage
    where
      go : (f : Phase) → HeldAs f q x.share x.period t c x.w.0 x.e.0 → c.active ≤ 1
      go Inactive s = omega arith
      go Contending s = let o = s.one in omega arith
      go NonContending s = let o = s.one in omega arith

  pub rest_held : (z : ℤ) (n : ℕ) → Held q t (rests z c) (with_jobs (idle x) n)
  unfolding rests
  rest_held z n = record { stage = let m = at_most_one in omega arith }

  -- ---- a completion
  pub goes_held : 0 < q → Held q t c (goes_on x)
  goes_held k = record { stage = by_test (λ (e : ℤ). HeldAs x.phase q x.share x.period t c x.w.0 e) (lt_z x.e.0 (x.w.0 +ℤ scaled x x.period)) (λ _. held_as x.phase (next_e k) h.stage) (λ _. h.stage) }

  pub stays_held : T (contends x) → Held q t c (stays x)
  stays_held k = record { stage = held_active x.phase (contending_active x.phase k) h.stage }

  -- ---- leaving, of thread i
  pub leave_held : (i : ℕ) → Held q t (mine i c (leaving t i x)) (leave t x)
  unfolding mine mine_of leave
  leave_held i = go (is_non x.phase) (lt_z (scaled x t) x.w.0)
    where
      left_so : Held q t (cond (eqb i i) (rests (freed t x) c) c) (idle x)
      left_so = rw (eq-eqb i i refl) (rest_held (freed t x) x.jobs)

      go : (n l : Bool) → Held q t (mine i c (cond (n && not l) (became_inactive i t (freed t x) left ∷ []) [])) (cond n (cond l x (idle x)) x)
      go true true = h
      go true false = left_so
      go false l = h

  -- ---- an arrival, of thread i
  pub arrive_held : 0 < q → (i : ℕ) → Held q t (mine i c (cond (is_inactive x.phase) (became_active i t ∷ []) [])) (arrive t x)
  unfolding mine mine_of arrive wakes
  arrive_held k i = go x.phase h.stage
    where
      woken : c.active ≡ 0 → Since q x.share x.period t (cond (eqb i i) (wakes t c) c) (scaled x t) (scaled x t +ℤ scaled x x.period)
      woken z = rw (eq-eqb i i refl, z) (record { one = refl; begun = omega arith; w_most = omega arith; e_less = omega arith })

      go : (f : Phase) → HeldAs f q x.share x.period t c x.w.0 x.e.0 → Held q t (mine i c (cond (is_inactive f) (became_active i t ∷ []) [])) (with_jobs (arrive_as f t x) (x.jobs + 1))
      go Inactive s = record { stage = woken s }
      go Contending s = record { stage = s }
      go NonContending s = record { stage = next_e k s }
