-- Demand 3 holds, from what holds of every given state.
use Rattle.std.specs.Prelude.{◌≡◌, List, ℕ, ◌≤◌, ◌<◌}
use Rattle.std.proofs.Math.Path.{refl, ap, subst}
use Rattle.std.proofs.Common.{arith}
use Rattle.integers.specs.Parts.{parts_le}
use Rattle.lists.specs.Sum.{sum_by}
use Rattle.rules.specs.Limits.{max_threads}
use Rattle.rules.specs.Threads.{Thread, State, at}
use Rattle.rules.specs.Table.{Table, Done, row_at, table_answer, head_answer, rows_answer, opened, start}
use Rattle.rules.specs.Calls.{Call}
use Rattle.rules.specs.History.{no_jobs}
use Rattle.promises.specs.Good.{Good}
use Rattle.promises.specs.Keep.{fine_at}
use Rattle.promises.specs.Begin.{both_done, head_admitted, opened_at, start_good}
use Rattle.promises.specs.Ready.{Steady, steady, ready_ready}
use Rattle.promises.specs.Always.{after_good}
use Rattle.promises.specs.Grants.{Shares, history_in_time}
use Rattle.promises.specs.Books.{Books, first_books}
use Rattle.promises.specs.Ledger.{after_books}
use Rattle.promises.specs.Counted.{moments_counted, ticks_counted, history_fed}
use Rattle.promises.specs.Demand3.{WithinDeadline, Demand3, share_of, past, Promised}
use Rattle.promises.specs.Restated as again
use Rattle.promises.specs.Derivation.{follows}

within : {s : State} → Steady s → WithinDeadline s
within g i h = parts_le _ _ (fine_at g.rows i h).ordered

module _ (usual : ℕ) (t : Table) (e : table_answer usual t ≡ Done) where
  begins_good : Good (start usual t)
  begins_good = start_good usual t e

  few : t.threads ≤ max_threads
  unfolding table_answer
  few = (head_admitted t.q t.threads (both_done (head_answer t.q t.threads) (rows_answer usual t.q t.rows t.threads) e).0).few

  -- a thread begins with its row
  row_is : (i : ℕ) → i < t.threads → at (start usual t).threads i ≡ opened usual (row_at t.rows i)
  unfolding start
  row_is i h = opened_at usual t.q t.rows t.threads few i h

  shares_are : Shares (λ i. (row_at t.rows i).share) (start usual t)
  unfolding start
  shares_are i h = ap (λ x. x.share) (row_is i h)

  first : (i : ℕ) → i < t.threads → Books t.q (row_at t.rows i).share (opened usual (row_at t.rows i)).period i no_jobs (start usual t)
  unfolding start
  first i h = subst (λ (x : Thread). Books t.q x.share x.period i no_jobs (start usual t)) (row_is i h) (first_books few refl h (ap (λ x. x.phase) (row_is i h)) (ap (λ x. x.jobs) (row_is i h)))

  holds : (cs : List Call) → Demand3 usual t cs
  unfolding sum_by
  holds cs = record {
    virtual_time = let g = after_good cs begins_good in (within (steady g), within (ready_ready g).sound);
    granted_ticks = history_in_time cs shares_are begins_good;
    jobs = λ i h. (after_books cs begins_good (first i h)).on_time;
    all_jobs = λ i h. moments_counted t.q (share_of usual t cs i) i (past usual t cs) no_jobs (history_fed cs begins_good (first i h));
    all_ticks = λ i h. omega (arith, ticks_counted t.q (share_of usual t cs i) i (past usual t cs) no_jobs (history_fed cs begins_good (first i h)) tt);
  }

pub demand_3 : Promised
demand_3 usual t e cs = holds usual t e cs

-- .. and so what is claimed a second time
pub demand_3_restated : again.Promised
demand_3_restated = follows demand_3
