-- The state that an admitted table begins with.
use Rattle.std.specs.Prelude.{◌≡◌, Bool, true, false, cond, List, eqb, ltb, length, take, set}
use Rattle.std.proofs.Math.Path.{refl, subst}
use Rattle.std.proofs.Common.{sym, ap, ◌∙◌, not-suc-le-zero, add-one, ltb-false, get_or-set_same}
use Prim.Native.Nat.{ℕ, zero, suc, ◌+◌, ◌*◌, ◌≤◌, ◌<◌}
use Rattle.std.proofs.Math.Decide.{ℕ_discrete}
use native.Mathlib.Omega.{arith}
use Rattle.std.proofs.lemmas.Bool.{eqb-false}
use Rattle.std.proofs.Math.ListN.{length-set, length-replicate}
use Rattle.std.proofs.Math.Seq.{get_or-set_other}
use Rattle.lists.specs.Sum.{sum_by, sum_none, sum_more}
use Rattle.lists.specs.All.{none, all_of}
use Rattle.rules.specs.Limits.{max_q, max_threads, max_app, max_period, nobody}
use Rattle.rules.specs.Threads.{Thread, blank, at}
use Rattle.rules.specs.Table.{Row, Table, Answer, Done, Refused, first, meant, head_answer, row_answer, row_at, shares_to, rows_answer, table_answer, opened, opened_to, start, no_schedule, opened_as, opening}
use Rattle.promises.specs.Good.{share, deficit, Fine, Rows, Good}
use Rattle.promises.specs.Tick.{late_claims}

-- ---- what is not refused
-- one test passed
pub peel : (b : Bool) (k : ℕ) (a : Answer) → cond b (Refused k) a ≡ Done → (b ≡ false) × (a ≡ Done)
peel true k a e = let z : ◌≡◌ {A = ℕ} 0 1 = cc in absurd (omega arith)
peel false k a e = (refl, e)

pub both_done : (a b : Answer) → first a b ≡ Done → (a ≡ Done) × (b ≡ Done)
both_done Done b e = (refl, e)
both_done (Refused n) b e = let z : ◌≡◌ {A = ℕ} 0 1 = cc in absurd (omega arith)

-- what an admitted row has
pub record Admitted (usual q before : ℕ) (x : Row) : Type 0 where
  pub app_max : x.app ≤ max_app
  pub share_min : 0 < x.share
  pub share_max : x.share ≤ q
  pub period_max : meant usual x.period ≤ max_period
  pub long : q ≤ x.share * meant usual x.period
  pub sum_max : before + x.share ≤ q

row_admitted : (usual q before : ℕ) (x : Row) → row_answer usual q before x ≡ Done → Admitted usual q before x
unfolding row_answer
row_admitted usual q before x e =
    let p3 = peel (ltb max_app x.app) 3 _ e in
    let p4 = peel (eqb x.share 0) 4 _ p3.1 in
    let p4' = peel (ltb q x.share) 4 _ p4.1 in
    let p5 = peel (ltb max_period (meant usual x.period)) 5 _ p4'.1 in
    let p6 = peel (ltb (x.share * meant usual x.period) q) 6 _ p5.1 in
    let p7 = peel (ltb q (before + x.share)) 7 Done p6.1 in
    let nz = eqb-false x.share 0 p4.0 in
    record {
      app_max = ltb-false max_app x.app p3.0;
      share_min = omega arith;
      share_max = ltb-false q x.share p4'.0;
      period_max = ltb-false max_period (meant usual x.period) p5.0;
      long = ltb-false (x.share * meant usual x.period) q p6.0;
      sum_max = ltb-false q (before + x.share) p7.0;
    }

pub record Headed (q n : ℕ) : Type 0 where
  pub q_max : q ≤ max_q
  pub some : n ≡ 0 → ⊥
  pub few : n ≤ max_threads

pub head_admitted : (q n : ℕ) → head_answer q n ≡ Done → Headed q n
unfolding head_answer
head_admitted q n e =
    let p1 = peel (eqb q 0) 1 _ e in
    let p1' = peel (ltb max_q q) 1 _ p1.1 in
    let p2 = peel (eqb n 0) 2 _ p1'.1 in
    let p2' = peel (ltb max_threads n) 2 Done p2.1 in
    record { q_max = ltb-false max_q q p1'.0; some = eqb-false n 0 p2.0; few = ltb-false max_threads n p2'.0 }

module _ (usual q : ℕ) (rows : List Row) where
  -- each of the first n rows is admitted
  pub rows_admitted : (n : ℕ) → rows_answer usual q rows n ≡ Done → (j : ℕ) → j < n → Admitted usual q (shares_to rows j) (row_at rows j)
  unfolding rows_answer
  rows_admitted zero e j h = absurd (not-suc-le-zero h)
  rows_admitted (suc n) e j h = go (both_done (rows_answer usual q rows n) _ e) (λ f. rows_admitted n f j) (ℕ_discrete j n)
    where
      go : (rows_answer usual q rows n ≡ Done) × (row_answer usual q (shares_to rows n) (row_at rows n) ≡ Done)
          → (rows_answer usual q rows n ≡ Done → j < n → Admitted usual q (shares_to rows j) (row_at rows j)) → Dec (j ≡ n)
          → Admitted usual q (shares_to rows j) (row_at rows j)
      go p ih (yes e) = subst (λ (k : ℕ). Admitted usual q (shares_to rows k) (row_at rows k)) (sym e) (row_admitted usual q (shares_to rows n) (row_at rows n) p.1)
      go p ih (no f) = ih p.0 (omega arith)

  pub shares_within : (n : ℕ) → rows_answer usual q rows n ≡ Done → shares_to rows n ≤ q
  unfolding shares_to
  shares_within zero e = omega arith
  shares_within (suc n) e = (rows_admitted (suc n) e n (omega arith)).sum_max

  -- ---- the threads that it begins with
  opened_length : (n : ℕ) → length (opened_to usual rows n) ≡ max_threads
  unfolding opened_to
  opened_length zero = length-replicate max_threads blank
  opened_length (suc n) = length-set (opened_to usual rows n) n _ ∙ opened_length n

  pub opened_at : (n : ℕ) → n ≤ max_threads → (j : ℕ) → j < n → at (opened_to usual rows n) j ≡ opened usual (row_at rows j)
  unfolding opened_to
  opened_at zero l j h = absurd (not-suc-le-zero h)
  opened_at (suc n) l j h = go (opened_at n (omega arith) j) (ℕ_discrete j n)
    where
      go : (j < n → at (opened_to usual rows n) j ≡ opened usual (row_at rows j)) → Dec (j ≡ n)
          → at (set (opened_to usual rows n) n (opened usual (row_at rows n))) j ≡ opened usual (row_at rows j)
      go ih (yes e) = subst (λ (k : ℕ). at (set (opened_to usual rows n) n (opened usual (row_at rows n))) k ≡ opened usual (row_at rows k)) (sym e) (get_or-set_same (opened_to usual rows n) n _ blank (omega (arith, opened_length n)))
      go ih (no f) = get_or-set_other (opened_to usual rows n) n j _ blank f ∙ ih (omega arith)

  module _ (n : ℕ) (few : n ≤ max_threads) where
    -- a sum over them, row by row
    opened_sum : (f : Thread → ℕ) (g : ℕ → ℕ) → g 0 ≡ 0 → ((j : ℕ) → j < n → g (suc j) ≡ g j + f (opened usual (row_at rows j))) → (i : ℕ) → i ≤ n
        → sum_by f (take i (opened_to usual rows n)) ≡ g i
    opened_sum f g z s zero l = sum_none f (opened_to usual rows n) ∙ sym z
    opened_sum f g z s (suc i) l =
        subst (λ (k : ℕ). sum_by f (take k (opened_to usual rows n)) ≡ g (suc i)) (add-one i)
        (omega (arith, sum_more f (opened_to usual rows n) i blank (omega (arith, opened_length n)), opened_sum f g z s i (omega arith), s i (omega arith), ap f (opened_at n few i (omega arith))))

    opened_shares : sum_by share (take n (opened_to usual rows n)) ≡ shares_to rows n
    unfolding shares_to
    opened_shares = opened_sum share (shares_to rows) refl (λ j h. refl) n (omega arith)

    opened_debts : sum_by (deficit 0) (take n (opened_to usual rows n)) ≡ 0
    unfolding deficit
    opened_debts = opened_sum (deficit 0) (λ _. 0) refl (λ j h. refl) n (omega arith)

    opened_rows : rows_answer usual q rows n ≡ Done → Rows n q 0 (opened_to usual rows n)
    opened_rows e = record {
      long = opened_length n;
      few = few;
      shares = omega (arith, opened_shares, shares_within n e);
      fine = all_of n (opened_to usual rows n) blank long_enough (λ j h. rw (opened_at n few j h) (fresh_fine (rows_admitted n e j h)));
      debts = omega (arith, opened_debts);
      claims = λ k m k1 h. late_claims 0 k m h (all_of n (opened_to usual rows n) blank long_enough (λ j i. rw (opened_at n few j i) tt));
    }
      where
        long_enough : n ≤ length (opened_to usual rows n)
        long_enough = omega (arith, opened_length n)

        fresh_fine : {x : Row} {before : ℕ} → Admitted usual q before x → Fine q 0 (opened usual x)
        fresh_fine a = record {
          app_max = let k = a.app_max in omega arith;
          share_min = a.share_min;
          share_max = a.share_max;
          period_max = a.period_max;
          long = a.long;
          jobs_max = omega arith;
          shape = (refl, refl, refl);
          ordered = omega arith;
          due = λ c. absurd c;
          e_whole = refl;
          w_up = omega arith;
          e_up = omega arith;
        }

pub start_good : (usual : ℕ) (t : Table) → table_answer usual t ≡ Done → Good (start usual t)
unfolding table_answer start
start_good usual t e =
    let p = both_done (head_answer t.q t.threads) _ e in
    let h = head_admitted t.q t.threads p.0 in
    record {
      time = omega arith;
      q_max = h.q_max;
      rows = opened_rows usual t.q t.rows t.threads h.few p.1;
      head_start = λ _ _ k. absurd (no h.few k);
      left = λ c. let z : ◌≡◌ {A = ℕ} 0 1 = cc in absurd (omega arith);
    }
  where
    no : t.threads ≤ max_threads → nobody < t.threads → ⊥
    no f k = omega arith

-- .. and what a refused table hands out in its place
no_schedule_good : Good no_schedule
unfolding sum_by
no_schedule_good = record {
  time = omega arith;
  q_max = omega arith;
  rows = record {
    long = length-replicate max_threads blank;
    few = omega arith;
    shares = omega arith;
    fine = none;
    debts = omega arith;
    claims = λ k n k1 h. omega arith;
  };
  head_start = λ _ _ k. absurd (not-suc-le-zero k);
  left = λ c. let z : ◌≡◌ {A = ℕ} 0 1 = cc in absurd (omega arith);
}

pub opening_good : (usual : ℕ) (t : Table) → Good (opening usual t).state
unfolding opening
opening_good usual t = go (table_answer usual t) refl
  where
    go : (a : Answer) → table_answer usual t ≡ a → Good (opened_as a (start usual t)).state
    go Done e = start_good usual t e
    go (Refused n) e = no_schedule_good
