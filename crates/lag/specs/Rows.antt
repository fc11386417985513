-- The threads after leaving have the rows of the table: the shares of all, and of one application.
use Rattle.std.specs.Prelude.{◌≡◌, List, ℕ, zero, suc, ◌+◌, ◌≤◌, ◌<◌, eqb, length, take}
use Rattle.std.proofs.Math.Path.{refl, ap}
use Rattle.std.proofs.Common.{sym, ◌∙◌, subst, add-one, arith}
use Rattle.std.proofs.Math.Bool.{cond}
use Rattle.lists.specs.MapTo.{map_same}
use Rattle.lists.specs.Sum.{sum_by, sum_none, sum_more, sum_le}
use Rattle.rules.specs.Limits.{max_threads}
use Rattle.rules.specs.Threads.{Thread, State, blank, at}
use Rattle.rules.specs.Table.{Table, Done, head_answer, rows_answer, row_at, shares_to, table_answer, meant, opened, start}
use Rattle.rules.specs.Leaving.{leave, gone}
use Rattle.rules.specs.Calls.{Call, after}
use Rattle.rules.specs.Stretches.{share_of}
use Rattle.promises.specs.Cases.{by_test, test}
use Rattle.promises.specs.Branches.{by_leaving}
use Rattle.promises.specs.Good.{share}
use Rattle.promises.specs.Begin.{both_done, head_admitted, opened_at, start_good}
use Rattle.promises.specs.Ready.{Steady, gone_good}
use Rattle.promises.specs.Always.{after_good}
use Rattle.promises.specs.Unchanged.{calls_same}
use Rattle.stretches.specs.Standing.{Tied}
use Rattle.stretches.specs.Shares.{own_share, own_shares}
use Rattle.stretches.specs.Proved.{kept_left}

-- leaving changes nothing that f sees, where it does not see phase, W and E
gone_keeps : {A : Type 0} (f : Thread → A) → ((t : ℕ) (x : Thread) → f (leave t x) ≡ f x) → (s : State) (i : ℕ) → f (at (gone s).threads i) ≡ f (at s.threads i)
unfolding gone
gone_keeps f h s i = by_test (λ (z : State). f (at z.threads i) ≡ f (at s.threads i)) s.closed (λ _. refl) (λ _. map_same f (leave s.clock.0) (h s.clock.0) s.count s.threads i blank)

-- a sum over the first n elements, one by one
sum_steps : (f : Thread → ℕ) (g : ℕ → ℕ) (xs : List Thread) → g 0 ≡ 0 → (n : ℕ) → n ≤ length xs → ((i : ℕ) → i < n → g (suc i) ≡ g i + f (at xs i)) → sum_by f (take n xs) ≡ g n
sum_steps f g xs z zero l s = sum_none f xs ∙ sym z
sum_steps f g xs z (suc n) l s =
    subst (λ (k : ℕ). sum_by f (take k xs) ≡ g (suc n)) (add-one n)
    (omega (arith, sum_more f xs n blank (omega arith), sum_steps f g xs z n (omega arith) (λ i h. s i (omega arith)), s n (omega arith)))

-- an admitted table after any calls
module _ (usual : ℕ) (t : Table) (ok : table_answer usual t ≡ Done) (cs : List Call) where
  abbrev s : State
  s = gone (after (start usual t) cs)

  pub few : t.threads ≤ max_threads
  unfolding table_answer
  few = (head_admitted t.q t.threads (both_done (head_answer t.q t.threads) (rows_answer usual t.q t.rows t.threads) ok).0).few

  pub begun_at : (i : ℕ) → i < t.threads → at (start usual t).threads i ≡ opened usual (row_at t.rows i)
  unfolding start
  begun_at i h = opened_at usual t.q t.rows t.threads few i h

  pub left_good : Steady s
  left_good = (gone_good (after_good cs (start_good usual t ok))).0

  pub tied : Tied t s.q s.count s.threads
  tied = (kept_left usual t ok cs).tied

  pub share_is : (i : ℕ) → i < t.threads → (at s.threads i).share ≡ (row_at t.rows i).share
  share_is i h = tied.share_same i (omega (arith, tied.count_same))

  pub period_is : (i : ℕ) → i < t.threads → (at s.threads i).period ≡ meant usual (row_at t.rows i).period
  period_is i h = gone_keeps (λ (x : Thread). x.period) (λ t x. by_leaving (λ (y : Thread). y.period ≡ x.period) t x refl (λ _ _. refl)) (after (start usual t) cs) i
      ∙ ((calls_same cs (start usual t)).row i).2 ∙ ap (λ (x : Thread). x.period) (begun_at i h)

  pub q_is : s.q ≡ t.q
  q_is = tied.q_same

  long : t.threads ≤ length s.threads
  long = omega (arith, few, left_good.rows.long)

  pub all_shares : sum_by share (take s.count s.threads) ≡ shares_to t.rows t.threads
  unfolding shares_to
  all_shares = rw tied.count_same (sum_steps share (shares_to t.rows) s.threads refl t.threads long (λ i h. ap (λ (u : ℕ). shares_to t.rows i + u) (sym (share_is i h))))

  pub own_within : (a : ℕ) → share_of a t ≤ shares_to t.rows t.threads
  unfolding own_share
  own_within a = omega (arith, own_shares tied a, all_shares, sum_le (own_share a) share one (take s.count s.threads))
    where
      one : (x : Thread) → own_share a x ≤ share x
      one x = test (λ c. cond c x.share 0 ≤ x.share) (eqb x.app a) (λ _. omega arith) (λ _. omega arith)
