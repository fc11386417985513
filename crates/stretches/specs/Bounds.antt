-- What a report of the stretches computes with is in range, at every moment of the clock.
use Rattle.std.specs.Prelude.{◌≡◌, cond, List, [], ◌∷◌, ℕ, zero, suc, ◌*◌, ◌^◌, ◌≤◌, ◌<◌, ℤ, pos, ◌+ℤ◌, ◌-ℤ◌, take}
use Rattle.std.proofs.Common.{mul-le-mul, arith, SFits}
use Rattle.std.specs.Int.{w64}
use Rattle.integers.specs.Parts.{up, dn, Sum, add_parts, Diff, sub_parts, sfits_parts}
use Rattle.lists.specs.Sum.{sum_by}
use Rattle.rules.specs.Limits.{max_q, apps, clock_end}
use Rattle.rules.specs.Threads.{Thread, active_in}
use Rattle.rules.specs.Table.{Table}
use Rattle.rules.specs.Stretches.{Activity, activity_at, elapsed, share_of, balance}
use Rattle.promises.specs.Cases.{test}
use Rattle.stretches.specs.Item8.{one}
use Rattle.stretches.specs.Standing.{StandsIn, Held}

-- at most one thread a row is active
one_le : (a : ℕ) (x : Thread) → one a x ≤ 1
one_le a x = test (λ c. cond c 1 0 ≤ 1) (active_in a x) (λ _. omega arith) (λ _. omega arith)

ones_le : (a n : ℕ) (xs : List Thread) → sum_by (one a) (take n xs) ≤ n
unfolding sum_by
ones_le a zero xs = omega arith
ones_le a (suc n) [] = omega arith
ones_le a (suc n) (x ∷ xs) = omega (arith, one_le a x, ones_le a n xs)

-- what is in range of an application, which stands at c, at the moment now
pub record InRange (q share now : ℕ) (c : Activity) : Type 0 where
  pub active_max : c.active ≤ 64
  pub since_max : c.stretch.since.0 ≤ now
  pub granted_max : c.stretch.granted ≤ now
  pub lost_min : dn c.stretch.lost.0 ≡ 0
  pub lost_max : up c.stretch.lost.0 < 2 ^ 50
  pub capacity_max : share * elapsed now c.stretch < 2 ^ 43
  pub given_max : q * c.stretch.granted < 2 ^ 43
  pub balance_up : up (balance q share now c.stretch) < 2 ^ 51
  pub balance_dn : dn (balance q share now c.stretch) < 2 ^ 43

module _ {t : Table} {q m now : ℕ} {xs : List Thread} {cs : List Activity} (h : Held t q m now xs cs) (q_max : q ≤ max_q) (time : now ≤ clock_end) where
  pub in_range : (a : ℕ) → a < apps → InRange q (share_of a t) now (activity_at cs a)
  in_range a l = record {
    active_max = omega (arith, s.active, ones_le a m xs, h.tied.few);
    since_max = omega (arith, s.since);
    granted_max = omega (arith, s.since);
    lost_min = s.whole;
    lost_max = omega (arith, s.small, whole);
    capacity_max = capacity;
    given_max = given;
    balance_up = omega (arith, both, part, s.small, whole, given);
    balance_dn = omega (arith, both, part, s.whole, capacity);
  }
    where
      c : Activity
      c = activity_at cs a

      s : StandsIn t q m now xs a c
      s = h.stands a l

      whole : q * now ≤ max_q * clock_end
      whole = mul-le-mul q_max time

      capacity : share_of a t * elapsed now c.stretch < 2 ^ 43
      capacity = omega (arith, mul-le-mul {n₁ = share_of a t} {m₁ = elapsed now c.stretch} {n₂ = max_q} {m₂ = clock_end} (omega (arith, h.tied.share_max a)) (omega arith))

      given : q * c.stretch.granted < 2 ^ 43
      given = omega (arith, mul-le-mul {n₁ = q} {m₁ = c.stretch.granted} {n₂ = max_q} {m₂ = clock_end} q_max (omega (arith, s.since)))

      ahead : ℤ
      ahead = pos (q * c.stretch.granted) -ℤ pos (share_of a t * elapsed now c.stretch)

      part : Diff (pos (q * c.stretch.granted)) (pos (share_of a t * elapsed now c.stretch)) ahead
      part = sub_parts (pos (q * c.stretch.granted)) (pos (share_of a t * elapsed now c.stretch))

      both : Sum ahead c.stretch.lost.0 (ahead +ℤ c.stretch.lost.0)
      both = add_parts ahead c.stretch.lost.0

-- .. and so it fits into 64 bits
module _ {q share now : ℕ} {c : Activity} (r : InRange q share now c) where
  pub lost_fits : SFits w64 c.stretch.lost.0
  lost_fits = sfits_parts w64 _ (omega (arith, r.lost_max)) (omega (arith, r.lost_min))
