-- What each happening does to where one application stands, in numbers alone.
use Rattle.std.specs.Prelude.{◌≡◌, refl, ℕ, ◌+◌, ◌*◌, ◌-◌, ◌≤◌, ◌<◌, eqb, pos, ◌+ℤ◌}
use Rattle.std.proofs.Math.Path.{ap}
use Rattle.std.proofs.Math.Nat.{mul-le-mul}
use native.Mathlib.Omega.{arith}
use borrow.Author.Tests.{eqb-true, eqb-false}
use Rattle.integers.specs.Parts.{up, Sum, add_parts}
use Rattle.rules.specs.Stretches.{Activity, Stretch, wakes, runs, rests, forgets, elapsed}
use Rattle.promises.specs.Cases.{by_test}
use Rattle.stretches.specs.Standing.{Stands}

module _ {q share t n u d : ℕ} {c : Activity} (s : Stands q share t n u d c) where
  -- W − u × t is the same
  pub stand_same : {n' u' d' : ℕ} → n' ≡ n → u' + d ≡ u + d' → Stands q share t n' u' d' c
  stand_same e f = record {
    active = omega (arith, s.active);
    since = s.since;
    whole = s.whole;
    equal = λ h. omega (arith, s.equal (omega arith));
    small = s.small;
  }

  -- a thread becomes active; if it is the first, W − u × t of it is 0
  pub stand_wakes : {n' u' d' : ℕ} → n' ≡ n + 1 → u' + d ≡ u + d' → (n ≡ 0 → u' ≡ d') → Stands q share t n' u' d' (wakes t c)
  unfolding wakes
  stand_wakes {n'} {u'} {d'} k e first =
      by_test (λ (x : Stretch). Stands q share t n' u' d' (record { active = c.active + 1; stretch = x })) (eqb c.active 0)
      (λ z. record {
        active = omega (arith, s.active);
        since = omega arith;
        whole = refl;
        equal = λ _. omega (arith, first (omega (arith, s.active, eqb-true c.active 0 z)), ap (λ (i : ℕ). share * i) now);
        small = omega arith;
      })
      (λ z. let some = eqb-false c.active 0 z in record {
        active = omega (arith, s.active);
        since = s.since;
        whole = s.whole;
        equal = λ _. omega (arith, s.equal (omega (arith, s.active)));
        small = s.small;
      })
    where
      now : t - t ≡ 0
      now = omega arith

  -- a thread becomes inactive, and f is lost: the equation holds still, also where no thread is active any more
  module _ (n' u' d' f : ℕ) (less : n ≡ n' + 1) (e : u' + d ≡ u + d' + f) where
    lost : Sum c.stretch.lost.0 (pos f) (c.stretch.lost.0 +ℤ pos f)
    lost = add_parts c.stretch.lost.0 (pos f)

    pub rests_equal : u' + share * elapsed t c.stretch ≡ q * c.stretch.granted + up (c.stretch.lost.0 +ℤ pos f) + d'
    rests_equal = omega (arith, s.equal (omega arith), lost, s.whole)

    pub stand_rests : u' ≤ 64 * (q * t) → share ≤ q → Stands q share t n' u' d' (rests (pos f) c)
    unfolding rests
    stand_rests low fair = record {
      active = omega (arith, s.active);
      since = s.since;
      whole = omega (arith, s.whole, lost);
      equal = λ _. rests_equal;
      small = omega (arith, rests_equal, mul-le-mul {n₁ = share} {m₁ = elapsed t c.stretch} {n₂ = q} {m₂ = t} fair (omega arith));
    }

  -- ---- the clock
  later : elapsed (t + 1) c.stretch ≡ elapsed t c.stretch + 1
  later = omega (arith, s.since)

  more : share * elapsed (t + 1) c.stretch ≡ share * elapsed t c.stretch + share
  more = omega (arith, ap (λ (i : ℕ). share * i) later)

  -- a tick of the application
  pub stand_runs : {n' u' d' : ℕ} → 0 < n → n' ≡ n → u' + d + share ≡ u + d' + q → Stands q share (t + 1) n' u' d' (runs c)
  unfolding runs
  stand_runs h k e = record {
    active = omega (arith, s.active);
    since = omega (arith, s.since);
    whole = s.whole;
    equal = λ _. omega (arith, more, s.equal h);
    small = omega (arith, s.small);
  }

  -- a tick of another one
  pub stand_waits : {n' u' d' : ℕ} → n' ≡ n → (0 < n → u' + d + share ≡ u + d') → Stands q share (t + 1) n' u' d' c
  stand_waits k e = record {
    active = omega (arith, s.active);
    since = omega (arith, s.since);
    whole = s.whole;
    equal = λ h. omega (arith, more, s.equal (omega arith), e (omega arith));
    small = omega (arith, s.small);
  }

  -- an idle tick
  pub stand_forgets : {n' u' d' : ℕ} → n' ≡ 0 → Stands q share (t + 1) n' u' d' (forgets c)
  unfolding forgets
  stand_forgets e = record {
    active = omega arith;
    since = omega (arith, s.since);
    whole = s.whole;
    equal = λ h. absurd (omega arith);
    small = omega (arith, s.small);
  }
