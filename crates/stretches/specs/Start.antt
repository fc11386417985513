-- The fresh start of an admitted table: no thread is active, and no application has a stretch.
use Rattle.std.specs.Prelude.{◌≡◌, refl, Bool, true, false, cond, List, ℕ, zero, suc, ◌≤◌, ◌<◌, eqb, take, replicate}
use Rattle.std.proofs.Common.{sym, arith}
use Rattle.std.proofs.Math.Path.{ap, subst}
use Rattle.std.proofs.lemmas.List.{length-replicate}
use Rattle.lists.specs.Take.{sum_zero}
use Rattle.lists.specs.Sum.{sum_by}
use Rattle.rules.specs.Limits.{max_threads, apps}
use Rattle.rules.specs.Threads.{blank, at}
use Rattle.rules.specs.Table.{Row, Table, Done, head_answer, row_at, shares_to, rows_answer, table_answer, opened, start}
use Rattle.rules.specs.Stretches.{quiet, all_quiet, activity_at, share_to}
use Rattle.promises.specs.Good.{Good}
use Rattle.promises.specs.Keep.{fine_at}
use Rattle.promises.specs.Begin.{both_done, head_admitted, shares_within, opened_at, start_good}
use Rattle.stretches.specs.Item8.{one}
use Rattle.stretches.specs.Standing.{Tied, Kept}
use Rattle.stretches.specs.Ticks.{low_all}

pub quiet_at : (n a : ℕ) → activity_at (replicate n quiet) a ≡ quiet
quiet_at zero a = refl
quiet_at (suc n) zero = refl
quiet_at (suc n) (suc a) = quiet_at n a

-- an application has no more than all have
share_part : (a : ℕ) (rows : List Row) (n : ℕ) → share_to a rows n ≤ shares_to rows n
unfolding share_to shares_to
share_part a rows zero = omega arith
share_part a rows (suc i) = omega (arith, share_part a rows i, row (eqb (row_at rows i).app a))
  where
    row : (b : Bool) → cond b (row_at rows i).share 0 ≤ (row_at rows i).share
    row true = omega arith
    row false = omega arith

module _ (usual : ℕ) (t : Table) (e : table_answer usual t ≡ Done) where
  pub begins_good : Good (start usual t)
  begins_good = start_good usual t e

  few : t.threads ≤ max_threads
  unfolding table_answer
  few = (head_admitted t.q t.threads (both_done (head_answer t.q t.threads) (rows_answer usual t.q t.rows t.threads) e).0).few

  rows_done : rows_answer usual t.q t.rows t.threads ≡ Done
  unfolding table_answer
  rows_done = (both_done (head_answer t.q t.threads) (rows_answer usual t.q t.rows t.threads) e).1

  -- a thread begins with its row
  row_is : (i : ℕ) → i < t.threads → at (start usual t).threads i ≡ opened usual (row_at t.rows i)
  unfolding start
  row_is i h = opened_at usual t.q t.rows t.threads few i h

  start_tied : Tied t (start usual t).q (start usual t).count (start usual t).threads
  unfolding start
  start_tied = record {
    q_same = refl;
    count_same = refl;
    few = few;
    long = begins_good.rows.long;
    app_same = λ i h. ap (λ x. x.app) (row_is i h);
    share_same = λ i h. ap (λ x. x.share) (row_is i h);
    app_max = λ i h. subst (λ a. a < apps) (ap (λ x. x.app) (row_is i h)) (fine_at begins_good.rows i h).app_max;
    share_max = λ a. omega (arith, share_part a t.rows t.threads, shares_within usual t.q t.rows t.threads rows_done);
  }

  none_one : (a : ℕ) → sum_by (one a) (take (start usual t).count (start usual t).threads) ≡ 0
  unfolding start
  none_one a = sum_zero (one a) t.threads (start usual t).threads blank (λ i h. ap (one a) (row_is i h))

  pub kept_start : Kept t (start usual t) all_quiet
  kept_start = record {
    tied = start_tied;
    low = low_all begins_good.rows.fine;
    sixteen = length-replicate apps quiet;
    stands = λ a l. rw (quiet_at apps a) (record {
      active = sym (none_one a);
      since = omega arith;
      whole = refl;
      equal = λ h. absurd (omega (arith, none_one a));
      small = omega arith;
    });
  }
