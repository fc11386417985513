-- Item 3 holds, and what the code's comparison rests on.
use Rattle.std.specs.Prelude.{◌≡◌, refl, Bool, true, false, cond, ◌&&◌, [], ◌∷◌, ℕ, ◌+◌, ◌*◌, ◌/◌, ◌≤◌, ◌<◌, ltb, pos, ◌-ℤ◌}
use Rattle.std.proofs.Common.{sym, ap, ◌∙◌, subst, mod-lt, arith, lt-ltb, le-ltb, eq-eqb, ne_eqb, lit<}
use Rattle.std.specs.Int.Signed.{lt_z}
use Rattle.integers.specs.Parts.{up, as_nat}
use Rattle.integers.specs.Fractions.{order, apart, remainder_small, more_whole, more_remainder}
use Rattle.rules.specs.Limits.{max_q, usual_period}
use Rattle.rules.specs.Threads.{Thread, State, Less, Equal, Greater, at, contends, compare, is_earlier, sooner}
use Rattle.rules.specs.Table.{opening}
use Rattle.rules.specs.Fitting.{postpone, fit}
use Rattle.rules.specs.Calls.{Given, arrive, after}
use Rattle.promises.specs.Ready.{ready_ready}
use Rattle.promises.specs.Always.{given_good}
use Rattle.promises.specs.Sound.{RowOk, Sound, sound, given_sound}
use Rattle.promises.specs.Item3.{Deadline, deadline_of, compare_parts, by_parts, later, NotNegative, FitsByPeriod, Item3, OfThreads, Promised}
use Rattle.promises.specs.Witness.{halves, Computed}

-- what the comparison asks of a deadline
pub record Parted (d : Deadline) : Type 0 where
  pub below : d.remainder < d.share
  pub share_max : d.share ≤ max_q

-- every thread within bounds has such a deadline
pub parted : {x : Thread} → RowOk x → Parted (deadline_of x)
parted {x} k = record { below = mod-lt (up x.e.0) k.share_min; share_max = k.share_max }

pub parted_is : {x : Thread} {d : Deadline} → RowOk x → d ≡ deadline_of x → Parted d
parted_is k e = subst Parted (sym e) (parted k)

-- ---- the comparison
-- the order by whole part and remainder is the order of the fractions
pub parts_order : {d o : Deadline} → Parted d → Parted o → compare_parts d o ≡ by_parts d o
parts_order {d} {o} p q =
    rw (
      order d.whole d.remainder d.share o.whole o.remainder o.share p.below q.below,
      order o.whole o.remainder o.share d.whole d.remainder d.share q.below p.below,
    )

-- .. of which there are three cases
module _ {d o : Deadline} (p : Parted d) (q : Parted o) where
  pub fewer_ticks : d.whole < o.whole → compare_parts d o ≡ Less
  fewer_ticks h = rw (parts_order p q, lt-ltb d.whole o.whole h)

  pub more_ticks : o.whole < d.whole → compare_parts d o ≡ Greater
  more_ticks h =
      rw (
        parts_order p q,
        le-ltb d.whole o.whole (omega arith),
        ne_eqb d.whole o.whole (λ e. omega arith),
        lt-ltb o.whole d.whole h,
      )

  abbrev x : ℕ
  x = d.remainder * o.share

  abbrev y : ℕ
  y = o.remainder * d.share

  pub same_ticks : d.whole ≡ o.whole → compare_parts d o ≡ cond (ltb x y) Less (cond (ltb y x) Greater Equal)
  same_ticks e =
      rw (
        parts_order p q,
        le-ltb d.whole o.whole (omega arith),
        le-ltb o.whole d.whole (omega arith),
        eq-eqb d.whole o.whole e,
        eq-eqb o.whole d.whole (sym e),
      )

-- each product of a remainder with the other's share is below 4,096², and so fits 32 bits
pub products_small : {d o : Deadline} → Parted d → Parted o → d.remainder * o.share < max_q * max_q
products_small {d} {o} p q = remainder_small d.remainder d.share o.share max_q p.below p.share_max q.share_max

-- a deadline is its two parts
number : {x : Thread} → RowOk x → x.e.0 ≡ pos (up x.e.0)
number {x} k = as_nat x.e.0 (omega (arith, k.e_whole))

not_negative : {x : Thread} → RowOk x → NotNegative x
not_negative {x} k = number k ∙ ap pos (sym (apart (up x.e.0) x.share))

-- two deadlines in parts stand to each other as the threads' do
pub parts_compare : {x y : Thread} → RowOk x → RowOk y → compare_parts (deadline_of x) (deadline_of y) ≡ compare x y
parts_compare {x} {y} f g = rw (apart (up x.e.0) x.share, apart (up y.e.0) y.share, number f, number g)

-- .. so where d and o are the deadlines of x and y
pub parts_sooner : {x y : Thread} {d o : Deadline} → RowOk x → RowOk y → d ≡ deadline_of x → o ≡ deadline_of y
    → is_earlier (compare_parts d o) ≡ sooner x y
parts_sooner f g d o = rw (d, o, parts_compare f g)

-- ---- fitting
-- u × P more of E is P whole ticks more and the same remainder
postponed : {x : Thread} → RowOk x → deadline_of (postpone x) ≡ later x.period (deadline_of x)
postponed {x} k = rw (number k) (λ i. record { whole = wholes i; remainder = more_remainder n x.share x.period i; share = x.share })
  where
    n : ℕ
    n = up x.e.0

    wholes : (n + x.share * x.period) / x.share ≡ n / x.share + x.period
    wholes = more_whole n x.share x.period k.share_min

pub fits_by_period : {x : Thread} → RowOk x → FitsByPeriod x
unfolding fit
fits_by_period {x} k room = by (contends x) (lt_z (x.e.0 -ℤ x.w.0) (pos room))
  where
    by : (c t : Bool) → deadline_of (cond c (cond t (postpone x) x) x) ≡ cond (c && t) (later x.period (deadline_of x)) (deadline_of x)
    by true true = postponed k
    by true false = refl
    by false t = refl

-- ---- of every given state
of_sound : {s : State} → Sound s → OfThreads s
of_sound g i j h k =
    let x = g.ok i h in
    let y = g.ok j k in
    record {
      not_negative = not_negative x;
      told = sym (parts_compare x y) ∙ parts_order (parted x) (parted y);
      narrow = products_small (parted x) (parted y);
      fits = fits_by_period x;
    }

pub item_3 : Promised
item_3 s g = (of_sound (given_sound g), of_sound (sound (ready_ready (given_good g)).sound))

-- .. of which there are some: two threads that contend, by calls from their table on
abbrev two : State
two = after (opening usual_period halves).state (arrive 0 ∷ arrive 1 ∷ [])

two_given : Given two
two_given = record { usual = usual_period; table = halves; calls = arrive 0 ∷ arrive 1 ∷ []; came = refl }

pub item_3_met :
    let x = at two.threads 0 in let y = at two.threads 1 in Item3 x y × (contends x ≡ true) × (contends y ≡ true)
unfolding Computed opening after
item_3_met = ((item_3 two two_given).0 0 1 (lit< tt) (lit< tt), refl, refl)
