-- Every call keeps the books: the account that is read off the history agrees with the thread, and its completed jobs are on time.
use Rattle.std.specs.Prelude.{◌≡◌, Bool, false, cond, T, eqb, length, take, set}
use Rattle.std.proofs.Common.{sym, ap, ◌∙◌, arith, eqb-true}
use Rattle.std.proofs.Math.Path.{subst}
use mathlib.Core.List.{List, [], ◌∷◌, ◌++◌}
use Prim.Native.Nat.{ℕ, zero, suc, ◌*◌, ◌-◌, ◌<◌}
use Rattle.lists.specs.All.{All}
use Rattle.lists.specs.Take.{at_put}
use Rattle.rules.specs.Threads.{Thread, State, with_rows, blank, at, contends}
use Rattle.rules.specs.Table.{Answered}
use Rattle.rules.specs.Completion.{after_completion, completion}
use Rattle.rules.specs.Leaving.{gone}
use Rattle.rules.specs.Arrival.{arrived, arrival}
use Rattle.rules.specs.Drop.{head_only, dropped}
use Rattle.rules.specs.Choice.{chosen}
use Rattle.rules.specs.Step.{Stepped, ready, stepped}
use Rattle.rules.specs.Run.{Ran, state_after, ran}
use Rattle.rules.specs.Calls as calls
use Rattle.rules.specs.Calls.{Call, apply, after}
use Rattle.rules.specs.History.{arrived as arrived-at, completed, granted, idle_tick, dropped_to_head, if_done, retiring, waking, leavings, tick_as, tick_of, ticks_of, run_as, happens, history, Account, complete_head, with_waiting, account, account_of}
use Rattle.promises.specs.Cases.{by_test, true_false}
use Rattle.promises.specs.Branches.{by_completion, by_arrival, by_drop, by_step, by_run}
use Rattle.promises.specs.Accounts.{account_append, account_still, account_after, leavings_unseen, waking_unseen, retiring_unseen}
use Rattle.promises.specs.Good.{Fine, Good}
use Rattle.promises.specs.Keep.{inside, fine_at}
use Rattle.promises.specs.Ready.{gone_beside, ready_ready, chosen_leads, none_contends}
use Rattle.promises.specs.Always.{steps_good, apply_good}
use Rattle.promises.specs.Books.{Books, Standing, gone_standing, ready_standing, same_finished, idle_books, grant_books, arrived_books, completing_agrees}
use Rattle.promises.specs.Demand3.{OnTime}
use Rattle.promises.specs.Jobs.{Agrees, Close, Completes, drop_agrees, drop_close, completes}

-- ---- the calls, but for a run
module _ {q u p i : ℕ} {g : Account} {s : State} (good : Good s) (b : Books q u p i g s) where
  q_pos : 0 < q
  q_pos = let f = fine_at good.rows i b.inside in omega (arith, b.q_same, f.share_min, f.share_max)

  among : i < length s.threads
  among = inside good.rows b.inside

  tick_books : Books q u p i (account q u i g (tick_of s)) (stepped s).state
  unfolding tick_of account
  tick_books =
      by_step s After (λ _. b)
      (λ _ e. rw (account_after q u i (leavings_unseen q u i s) g (idle_tick s.clock.0 ∷ [])) (idle_books k (none_contends (ready_ready good) e i k.inside)))
      (λ _ n. rw (account_after q u i (leavings_unseen q u i s) g (granted (chosen z) s.clock.0 (at z.threads (chosen z)).e.0 ∷ [])) (grant_books k (chosen z) (chosen_leads (ready_ready good) n).leads.runs))
    where
      z : State
      z = ready s

      k : Standing q u p i g z
      k = ready_standing good b

      After : Stepped → Type 0
      After r = Books q u p i (account q u i g (tick_as r.outcome s)) r.state

  arrival_books : (j : ℕ) → Books q u p i (account q u i g (happens s (calls.arrive j))) (arrival s j).state
  unfolding account
  arrival_books j =
      by_arrival s After j (λ _. b)
      (λ _ _. rw (
        account_after q u i (leavings_unseen q u i s) g (waking (gone s) j ++ (arrived-at j s.clock.0 ∷ [])),
        account_after q u i (waking_unseen q u i (gone s) j) g (arrived-at j s.clock.0 ∷ []),
      ) (subst (λ t. Books q u p i (account_of q u i g (arrived-at j t)) (arrived (gone s) j)) (ap (λ m. m.0) (gone_beside s).clock) (arrived_books (gone_standing good b) q_pos j)))
    where
      After : Answered → Type 0
      After r = Books q u p i (account q u i g (if_done r.answer (leavings s ++ (waking (gone s) j ++ (arrived-at j s.clock.0 ∷ []))))) r.state

  drop_books : (j : ℕ) → Books q u p i (account q u i g (happens s (calls.drop j))) (dropped s j).state
  unfolding account head_only
  drop_books j = by_drop s After j (λ _. b) (λ _. into)
    where
      After : Answered → Type 0
      After r = Books q u p i (account q u i g (if_done r.answer (dropped_to_head j s.clock.0 ∷ []))) r.state

      h : Bool → Account
      h d = cond d (with_waiting g (take 1 g.waiting)) g

      xs : List Thread
      xs = s.threads

      into : Books q u p i (h (eqb j i)) (with_rows s (set xs j (head_only (at xs j))))
      into = record {
        q_same = b.q_same;
        inside = b.inside;
        agrees = at_put (λ d. Agrees q u p (h d)) xs j i (head_only (at xs j)) blank among (λ e. rw e (drop_agrees (at xs i) b.agrees)) b.agrees;
        soon = λ c d l. at_put (λ d x. Close q u p (h d).previous x.e.0 (h d).waiting) xs j i (head_only (at xs j)) blank among (λ e. rw e (drop_close (b.soon c d l))) (b.soon c d l);
        on_time = same_finished g b.on_time (eqb j i) (take 1 g.waiting);
      }

  -- who completes contends, and its deadline is not past
  in_time : s.closed ≡ false → s.completed ≡ false → s.had ≡ i → Completes q u p (complete_head q u s.clock.0 g g.waiting) (at s.threads i)
  in_time c d l = completes s.clock.0 (at s.threads i) b.agrees (b.soon c d l) q_pos (omega (arith, f.due runs, ap (λ (v : ℕ). v * s.clock.0) b.agrees.share_same)) f.e_whole b.on_time
    where
      f : Fine s.q s.clock.0 (at s.threads i)
      f = fine_at good.rows i b.inside

      runs : T (contends (at s.threads i))
      runs = subst (λ j. T (contends (at s.threads j))) l (good.head_start c d (omega (arith, b.inside))).runs

  completion_books : (j : ℕ) → Books q u p i (account q u i g (happens s (calls.complete j))) (completion s j).state
  unfolding after_completion account
  completion_books j =
      by_completion s After j (λ _. b)
      (λ _ c d e. rw (account_still q u i (retiring_unseen q u i s j) (cond (eqb j i) h g)) (into (λ o. subst (λ k. Completes q u p h (at s.threads k)) (sym o) (in_time c d (sym e ∙ o)))))
    where
      After : Answered → Type 0
      After r = Books q u p i (account q u i g (if_done r.answer (completed j s.clock.0 ∷ retiring s j))) r.state

      h : Account
      h = complete_head q u s.clock.0 g g.waiting

      into : (j ≡ i → Completes q u p h (at s.threads j)) → Books q u p i (cond (eqb j i) h g) (after_completion s j)
      into own = record {
        q_same = b.q_same;
        inside = b.inside;
        agrees = completing_agrees s.clock.0 s.count s.threads j among b.agrees own;
        soon = λ _ e _. absurd (true_false e);
        on_time = by_test (λ (a : Account). All (OnTime u p) a.finished) (eqb j i) (λ e. (own (eqb-true j i e)).on_time) (λ _. b.on_time);
      }

-- ---- every call, and every sequence of calls
module _ {q u p i : ℕ} where
  pub ticks_books : (k : ℕ) {g : Account} {s : State} → Good s → Books q u p i g s → Books q u p i (account q u i g (ticks_of k s)) (state_after k s)
  unfolding state_after ticks_of account
  ticks_books zero good b = b
  ticks_books (suc k) {g} {s} good b = rw (account_append q u i g (ticks_of k s) (tick_of (state_after k s))) (tick_books (steps_good k good) (ticks_books k good b))

  run_books : (to : ℕ) (row : List ℕ) {g : Account} {s : State} → Good s → Books q u p i g s
      → Books q u p i (account q u i g (happens s (calls.run to row))) (ran s to row).result.state
  unfolding account
  run_books to row {g} {s} good b = by_run s After to row (λ _. b) (ticks_books (to - s.clock.0) good b)
    where
      After : Ran → Type 0
      After r = Books q u p i (account q u i g (run_as r.result.answer (to - s.clock.0) s)) r.result.state

  pub call_books : (c : Call) {g : Account} {s : State} → Good s → Books q u p i g s → Books q u p i (account q u i g (happens s c)) (apply s c)
  call_books (calls.complete j) good b = completion_books good b j
  call_books (calls.arrive j) good b = arrival_books good b j
  call_books (calls.drop j) good b = drop_books good b j
  call_books calls.step good b = tick_books good b
  call_books (calls.run to row) good b = run_books to row good b

  pub after_books : (cs : List Call) {g : Account} {s : State} → Good s → Books q u p i g s → Books q u p i (account q u i g (history s cs)) (after s cs)
  unfolding account history after
  after_books [] good b = b
  after_books (c ∷ cs) {g} {s} good b = rw (account_append q u i g (happens s c) (history (apply s c) cs)) (after_books cs (apply_good c good) (call_books c good b))
