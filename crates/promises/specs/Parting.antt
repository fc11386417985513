-- Item 3 says no less than its words: what just meets its predicates and what misses them by one, and what follows from its
-- statement alone, whatever proves that.
use Rattle.std.specs.Prelude.{◌≡◌, refl, Bool, true, false, ℕ, ◌+◌, ◌*◌, ◌^◌, ◌<◌, ℤ, pos, negsuc, ◌-ℤ◌}
use Rattle.std.proofs.Common.{sym, ap, ◌∙◌, arith, lt-ltb, le-ltb, eq-eqb}
use Rattle.std.proofs.lemmas.Bool.{false≢true}
use Rattle.std.specs.Int.Signed.{lt_z}
use Rattle.integers.specs.Parts.{up, dn}
use Rattle.rules.specs.Threads.{Thread, State, Less, Equal, Contending, amt, at, contends, compare, is_earlier}
use Rattle.rules.specs.Fitting.{fit}
use Rattle.rules.specs.Step.{ready}
use Rattle.rules.specs.Calls.{Given}
use Rattle.promises.specs.Item3.{Deadline, deadline_of, later, NotNegative, Told, Narrow, FitsByPeriod, OfThreads, Promised}

-- a thread of the share u, with W = 0 and E = e
abbrev due : ℕ → ℤ → Thread
due u e = record { app = 0; phase = Contending; share = u; period = 4; jobs = 1; w = amt (pos 0); e = amt e }

-- ---- "Deadlines are not negative here.": E = 0, and E one below it
pub deadline_0 : NotNegative (due 5 (pos 0))
deadline_0 = refl

pub deadline_below_0 : NotNegative (due 5 (negsuc 0)) → ⊥
deadline_below_0 h = let n = ap dn h in omega arith

-- ---- "No answer changes.": 24/2 and 60/5; 25/2 and 61/5, in one whole tick; 25/2 and 65/5, in two; a deadline below 0 is taken as 0
pub tie_told : Told (due 2 (pos 24)) (due 5 (pos 60))
tie_told = refl

pub remainders_told : Told (due 2 (pos 25)) (due 5 (pos 61))
remainders_told = refl

pub whole_parts_told : Told (due 2 (pos 25)) (due 5 (pos 65))
whole_parts_told = refl

pub below_0_untold : Told (due 5 (negsuc 0)) (due 5 (pos 0)) → ⊥
below_0_untold h = false≢true (sym (ap is_earlier h))

-- ---- below 4,096²: the greatest remainder and the greatest share, and each of them one more
pub greatest_product : Narrow (due 4096 (pos 4095)) (due 4096 (pos 0))
greatest_product = omega arith

pub greater_product : Narrow (due 4097 (pos 4096)) (due 4097 (pos 0)) → ⊥
greater_product h = omega (arith, h)

-- ---- fitting: a deadline below 0 would not stay what it is but for a period
pub below_0_unfit : FitsByPeriod (due 5 (negsuc 0)) → ⊥
unfolding fit
below_0_unfit h = let n = ap (λ (d : Deadline). d.whole) (h 10) in omega arith

-- ---- from the statement alone: of a given state and at its choice
pub between_calls : Promised → (s : State) → Given s → OfThreads s
between_calls p s g = (p s g).0

pub at_the_choice : Promised → (s : State) → Given s → OfThreads (ready s)
at_the_choice p s g = (p s g).1

-- .. and so of two threads
module _ (s : State) (p : OfThreads s) (i j : ℕ) (h : i < s.count) (k : j < s.count) where
  abbrev x : Thread
  x = at s.threads i

  abbrev y : Thread
  y = at s.threads j

  abbrev d : Deadline
  d = deadline_of x

  abbrev o : Deadline
  o = deadline_of y

  pub two_parts : (up x.e.0 ≡ d.whole * x.share + d.remainder) × (dn x.e.0 ≡ 0)
  two_parts = let n = (p i j h k).not_negative in (ap up n, ap dn n)

  -- fewer whole ticks
  pub earlier_by_whole_part : d.whole < o.whole → compare x y ≡ Less
  earlier_by_whole_part l = rw ((p i j h k).told, lt-ltb d.whole o.whole l)

  -- as many, and a lesser remainder
  pub earlier_by_remainder : d.whole ≡ o.whole → d.remainder * y.share < o.remainder * x.share → compare x y ≡ Less
  earlier_by_remainder e l =
      rw (
        (p i j h k).told,
        le-ltb d.whole o.whole (omega arith),
        eq-eqb d.whole o.whole e,
        lt-ltb (d.remainder * y.share) (o.remainder * x.share) l,
      )

  -- as many, and an equal remainder
  pub equal_by_parts : d.whole ≡ o.whole → d.remainder * y.share ≡ o.remainder * x.share → compare x y ≡ Equal
  equal_by_parts e l =
      rw (
        (p i j h k).told,
        le-ltb d.whole o.whole (omega arith),
        le-ltb o.whole d.whole (omega arith),
        le-ltb (d.remainder * y.share) (o.remainder * x.share) (omega arith),
        le-ltb (o.remainder * x.share) (d.remainder * y.share) (omega arith),
        eq-eqb d.whole o.whole e,
        eq-eqb o.whole d.whole (sym e),
      )

  pub in_24_bits : d.remainder * y.share < 2 ^ 24
  in_24_bits = omega (arith, (p i j h k).narrow)

  -- a thread that is fitted has P whole ticks more and the same remainder; one that is not has the same deadline
  module _ (room : ℕ) where
    abbrev Below : Bool → Type 0
    Below t = lt_z (x.e.0 -ℤ x.w.0) (pos room) ≡ t

    pub fitted_a_period_later : contends x ≡ true → Below true → deadline_of (fit room x) ≡ later x.period d
    fitted_a_period_later c t = (p i j h k).fits room ∙ rw (c, t)

    pub not_contending_unfitted : contends x ≡ false → deadline_of (fit room x) ≡ d
    not_contending_unfitted c = (p i j h k).fits room ∙ rw c

    pub fitting_unfitted : contends x ≡ true → Below false → deadline_of (fit room x) ≡ d
    fitting_unfitted c t = (p i j h k).fits room ∙ rw (c, t)
