-- The threads of a table change while the clock stands: what that does to where the applications stand.
use Rattle.std.specs.Prelude.{◌≡◌, List, [], ◌∷◌, ℕ, ◌+◌, ◌*◌, ◌-◌, ◌<◌, eqb, ℤ, ◌+ℤ◌, length, take}
use Rattle.std.proofs.Math.Path.{refl}
use Rattle.std.proofs.Common.{mul-le-mul_right, arith, eqb-true}
use Rattle.std.proofs.Math.IntN.{pos}
use Rattle.integers.specs.Parts.{up, as_nat}
use Rattle.lists.specs.Sum.{sum_by}
use Rattle.lists.specs.All.{All, none, more}
use Rattle.rules.specs.Limits.{apps}
use Rattle.rules.specs.Threads.{Thread}
use Rattle.rules.specs.Table.{Table}
use Rattle.rules.specs.History.{Fate, became_active, became_inactive}
use Rattle.rules.specs.Stretches.{Activity, activity_at, wakes, rests, noted, ends, over_at, elapsed, lost_as, app_of, share_of}
use Rattle.promises.specs.Cases.{by_test}
use Rattle.stretches.specs.Item8.{one, Even}
use Rattle.stretches.specs.Standing.{ups, downs, StandsIn, Tied, Low, Held}
use Rattle.stretches.specs.Stand.{stand_same, stand_wakes, rests_equal, stand_rests}
use Rattle.stretches.specs.Figures.{none_active, ups_low}
use Rattle.stretches.specs.Goes.{Goes, goes_one, held_set}

-- ---- the application a, with the threads of ys instead of those of xs: as many are active, and as far ahead of the clock
module _ (a now m : ℕ) (xs ys : List Thread) where
  pub record Same : Type 0 where
    pub ones : sum_by (one a) (take m ys) ≡ sum_by (one a) (take m xs)
    pub amounts : sum_by (ups a) (take m ys) + sum_by (downs a now) (take m xs) ≡ sum_by (ups a) (take m xs) + sum_by (downs a now) (take m ys)

  -- one more is active, and they are as far ahead
  pub record Rises : Type 0 where
    pub ones : sum_by (one a) (take m ys) ≡ sum_by (one a) (take m xs) + 1
    pub amounts : sum_by (ups a) (take m ys) + sum_by (downs a now) (take m xs) ≡ sum_by (ups a) (take m xs) + sum_by (downs a now) (take m ys)

  -- one less is active, and they are g further ahead
  pub record Falls (g : ℕ) : Type 0 where
    pub ones : sum_by (one a) (take m xs) ≡ sum_by (one a) (take m ys) + 1
    pub amounts : sum_by (ups a) (take m ys) + sum_by (downs a now) (take m xs) ≡ sum_by (ups a) (take m xs) + sum_by (downs a now) (take m ys) + g

module _ {t : Table} {q m now : ℕ} {xs : List Thread} {cs : List Activity} (h : Held t q m now xs cs) {ys : List Thread} (tied : Tied t q m ys) (low : All (Low q now) (take m ys)) where
  -- an application of which nothing changes
  alike : (a : ℕ) → a < apps → Same a now m xs ys → StandsIn t q m now ys a (activity_at cs a)
  alike a l k = stand_same (h.stands a l) k.ones k.amounts

  pub held_same : ((a : ℕ) → Same a now m xs ys) → Held t q m now ys cs
  held_same f = record { tied = tied; low = low; sixteen = h.sixteen; stands = λ a l. alike a l (f a) }

  -- ---- thread i, of the application b
  module _ (i : ℕ) (inside : i < m) (others : (a : ℕ) → (app_of t i ≡ a → ⊥) → Same a now m xs ys) where
    abbrev b : ℕ
    b = app_of t i

    abbrev c : Activity
    c = activity_at cs b

    b_in : b < apps
    b_in = tied.app_max i inside

    s : StandsIn t q m now xs b c
    s = h.stands b b_in

    known : b < length cs
    known = omega (arith, b_in, h.sixteen)

    -- becomes active
    pub goes_wakes : Rises b now m xs ys → Goes t q m now ys cs (became_active i now ∷ [])
    unfolding noted ends
    goes_wakes r = goes_one (became_active i now)
        (held_set cs tied low h.sixteen b (wakes now c) b_in
        (stand_wakes s r.ones r.amounts (λ e. let k = none_active b now (take m xs) e in omega (arith, r.amounts, k.0, k.1)))
        (λ a l f. alike a l (others a f)))
        none known

    -- becomes inactive, and g is lost
    module _ (g : ℕ) (r : Falls b now m xs ys g) where
      stands : StandsIn t q m now ys b (rests (pos g) c)
      stands = stand_rests s _ _ _ g r.ones r.amounts (omega (arith, ups_low b q now m ys low, mul-le-mul_right (q * now) tied.few)) (tied.share_max b)

      -- .. the last of its application: its capacity and what it used or lost are even
      last : sum_by (one b) (take m ys) ≡ 0 → share_of b t * elapsed now c.stretch ≡ q * c.stretch.granted + up (c.stretch.lost.0 +ℤ pos g)
      last e = let k = none_active b now (take m ys) e in omega (arith, rests_equal s _ _ _ g r.ones r.amounts, k.0, k.1)

      evens : All (Even t) (over_at now b (rests (pos g) c))
      unfolding rests
      evens = by_test (All (Even t)) (eqb (c.active - 1) 0) (λ e. more (λ _. even (eqb-true (c.active - 1) 0 e)) none) (λ _. none)
        where
          even : c.active - 1 ≡ 0 → pos (share_of b t * elapsed now c.stretch) ≡ pos (t.q * c.stretch.granted) +ℤ (c.stretch.lost.0 +ℤ pos g)
          even e = rw (as_nat (c.stretch.lost.0 +ℤ pos g) (omega (arith, stands.whole)), ← tied.q_same, last (omega (arith, e, stands.active))) refl

      pub goes_rests : (z : ℤ) (f : Fate) → lost_as f z ≡ pos g → Goes t q m now ys cs (became_inactive i now z f ∷ [])
      unfolding noted ends
      goes_rests z f e = goes_one (became_inactive i now z f)
          (rw e (held_set cs tied low h.sixteen b (rests (pos g) c) b_in stands (λ a l f. alike a l (others a f))))
          (rw e evens)
          (known, omega (arith, s.active, r.ones))
