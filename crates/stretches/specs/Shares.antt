-- The shares of an application: those of its active threads and its free share come to its total share, by the rows of the table.
use Rattle.std.specs.Prelude.{◌≡◌, Bool, true, false, not, ◌&&◌, List, [], ◌∷◌, eqb, take}
use Rattle.std.proofs.Math.Path.{refl}
use Rattle.std.proofs.Math.Bool.{cond}
use Prim.Native.Nat.{ℕ, zero, suc, ◌+◌, ◌*◌, ◌≤◌}
use Rattle.std.proofs.Math.Numerals.{add-one}
use Rattle.std.proofs.Common.{arith}
use Rattle.integers.specs.Parts.{dn}
use Rattle.lists.specs.Sum.{sum_by, sum_none, sum_more, sum_le}
use Rattle.rules.specs.Threads.{Thread, blank, at, is_inactive, free_share}
use Rattle.rules.specs.Table.{Table, row_at}
use Rattle.rules.specs.Stretches.{share_to, share_of}
use Rattle.stretches.specs.Standing.{downs, Tied}

-- the share of a thread of the application a
unfoldable pub own_share : ℕ → Thread → ℕ
own_share a x = cond (eqb x.app a) x.share 0

-- at the next moment an active thread is behind by its share more
one_later : (a now : ℕ) (x : Thread) → downs a (now + 1) x + free_share a x ≡ downs a now x + own_share a x
unfolding downs free_share own_share
one_later a now x = go (is_inactive x.phase) (eqb x.app a)
  where
    go : (b c : Bool) → cond (not b && c) (dn x.w.0 + x.share * (now + 1)) 0 + cond (b && c) x.share 0 ≡ cond (not b && c) (dn x.w.0 + x.share * now) 0 + cond c x.share 0
    go true c = refl
    go false true = omega arith
    go false false = refl

pub downs_later : (a now : ℕ) (xs : List Thread) → sum_by (downs a (now + 1)) xs + sum_by (free_share a) xs ≡ sum_by (downs a now) xs + sum_by (own_share a) xs
unfolding sum_by
downs_later a now [] = refl
downs_later a now (x ∷ xs) = omega (arith, one_later a now x, downs_later a now xs)

-- the rows add up to the total share
module _ {t : Table} {q m : ℕ} {xs : List Thread} (k : Tied t q m xs) (a : ℕ) where
  rows_to : (i : ℕ) → i ≤ m → sum_by (own_share a) (take i xs) ≡ share_to a t.rows i
  unfolding share_to own_share
  rows_to zero l = sum_none (own_share a) xs
  rows_to (suc i) l = rw (← add-one i) (omega (arith, sum_more (own_share a) xs i blank (omega (arith, k.few, k.long)), rows_to i (omega arith), row))
    where
      row : cond (eqb (at xs i).app a) (at xs i).share 0 ≡ cond (eqb (row_at t.rows i).app a) (row_at t.rows i).share 0
      row = rw (k.app_same i (omega arith), k.share_same i (omega arith)) refl

  pub own_shares : sum_by (own_share a) (take m xs) ≡ share_of a t
  own_shares = rw (← k.count_same) (rows_to m (omega arith))

-- a free share is a part of the total one
free_le : (a : ℕ) (x : Thread) → free_share a x ≤ own_share a x
unfolding free_share own_share
free_le a x = go (is_inactive x.phase) (eqb x.app a)
  where
    go : (b c : Bool) → cond (b && c) x.share 0 ≤ cond c x.share 0
    go true c = omega arith
    go false true = omega arith
    go false false = omega arith

pub free_part : (a : ℕ) (xs : List Thread) → sum_by (free_share a) xs ≤ sum_by (own_share a) xs
free_part a xs = sum_le (free_share a) (own_share a) (free_le a) xs
