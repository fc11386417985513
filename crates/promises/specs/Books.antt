-- The books of one thread, and what each change of the table does to them.
use Rattle.std.specs.Prelude.{◌≡◌, refl, Bool, true, false, cond, List, [], ◌∷◌, ◌++◌, T, eqb, ltb, pos, length, set}
use Rattle.std.proofs.Common.{sym, ◌∙◌, subst, arith, eq-eqb}
use Prim.Native.Nat.{ℕ, ◌≤◌, ◌<◌}
use Rattle.std.specs.Int.Signed.{lt_z}
use Rattle.lists.specs.MapTo.{map_keeps}
use Rattle.lists.specs.All.{All, none}
use Rattle.lists.specs.Take.{at_put}
use Rattle.rules.specs.Limits.{max_threads, nobody, apps}
use Rattle.rules.specs.Threads.{Thread, State, Inactive, blank, at, scaled, contends, idle}
use Rattle.rules.specs.Completion.{goes_on, stays, ends, receiver, gives, completing}
use Rattle.rules.specs.Leaving.{leave, gone}
use Rattle.rules.specs.Arrival.{arrive, arrived}
use Rattle.rules.specs.Fitting.{fit_in, fitted, room_of}
use Rattle.rules.specs.Choice.{idled}
use Rattle.rules.specs.Charge.{gains, benefited, charged, moved}
use Rattle.rules.specs.Step.{ready}
use Rattle.rules.specs.History.{Job, Finished, arrived as arrived-at, Account, no_jobs, longer, with_waiting, account_of}
use Rattle.promises.specs.Cases.{by_test, true_T, true_false}
use Rattle.promises.specs.Good.{Rows, Good}
use Rattle.promises.specs.Keep.{inside, lose_at_lem, benefits_at, benefits_length}
use Rattle.promises.specs.Events.{freed_nat}
use Rattle.promises.specs.Ready.{gone_beside, gone_good, ready_beside, ready_ready}
use Rattle.promises.specs.Demand3.{OnTime}
use Rattle.promises.specs.Jobs.{resting, Agrees, Close, Completes, lose_agrees, fit_agrees, idle_agrees, leave_agrees, gain_agrees, arrive_agrees}

-- g is the account of thread i, whose share is u and whose period is p
pub record Books (q u p i : ℕ) (g : Account) (s : State) : Type 0 where
  pub q_same : s.q ≡ q
  pub inside : i < s.count
  pub agrees : Agrees q u p g (at s.threads i)
  -- while its completion may still be accepted
  pub soon : s.closed ≡ false → s.completed ≡ false → s.had ≡ i → Close q u p g.previous (at s.threads i).e.0 g.waiting
  pub on_time : All (OnTime u p) g.finished

-- nobody's number is no thread's
outside : {i n : ℕ} → i < n → n ≤ max_threads → nobody ≡ i → ⊥
outside h k e = omega arith

-- before the thread's first job
pub first_books : {i : ℕ} {s : State} → s.count ≤ max_threads → s.had ≡ nobody → i < s.count → (at s.threads i).phase ≡ Inactive
    → (at s.threads i).jobs ≡ 0 → Books s.q (at s.threads i).share (at s.threads i).period i no_jobs s
first_books {i} {s} few had inside rests empty = record {
  q_same = refl;
  inside = inside;
  agrees = record { share_same = refl; period_same = refl; count = empty; stage = rw rests resting };
  soon = λ _ _ e. absurd (outside inside few (sym had ∙ e));
  on_time = none;
}

-- ---- the books between the parts of a step
pub record Standing (q u p i : ℕ) (g : Account) (s : State) : Type 0 where
  pub q_same : s.q ≡ q
  pub inside : i < s.count
  pub rows : Rows s.count s.q s.clock.0 s.threads
  pub agrees : Agrees q u p g (at s.threads i)
  pub on_time : All (OnTime u p) g.finished

module _ {q u p : ℕ} {g : Account} (i : ℕ) (s : State) where
  gone_agrees : Agrees q u p g (at s.threads i) → Agrees q u p g (at (gone s).threads i)
  unfolding gone
  gone_agrees a = by_test (λ (z : State). Agrees q u p g (at z.threads i)) s.closed (λ _. a) (λ _. map_keeps {P = Agrees q u p g} s.count (leave s.clock.0) (λ x k. leave_agrees x k s.clock.0) s.threads i blank a)

  fitted_agrees : s.q ≡ q → Agrees q u p g (at s.threads i) → Agrees q u p g (at (fitted s).threads i)
  unfolding fitted
  fitted_agrees e a = map_keeps {P = Agrees q u p g} s.count (fit_in s) (λ x k. fit_agrees x k (room_of s x) (omega (arith, e))) s.threads i blank a

module _ {q u p i : ℕ} {g : Account} {s : State} (good : Good s) (b : Books q u p i g s) where
  pub gone_standing : Standing q u p i g (gone s)
  gone_standing = let z = gone_beside s in record {
    q_same = z.q ∙ b.q_same;
    inside = omega (arith, z.count, b.inside);
    rows = (gone_good good).0.rows;
    agrees = gone_agrees i s b.agrees;
    on_time = b.on_time;
  }

  pub ready_standing : Standing q u p i g (ready s)
  ready_standing = let z = ready_beside s in record {
    q_same = z.q ∙ b.q_same;
    inside = omega (arith, z.count, b.inside);
    rows = (ready_ready good).sound.rows;
    agrees = fitted_agrees i (gone s) ((gone_beside s).q ∙ b.q_same) (gone_agrees i s b.agrees);
    on_time = b.on_time;
  }

-- what happens to the jobs that wait leaves the completed ones as they are
pub same_finished : {P : Finished → Type 0} (g : Account) → All P g.finished → (d : Bool) (js : List Job) → All P (cond d (with_waiting g js) g).finished
same_finished {P} g o d js = by_test (λ (h : Account). All P h.finished) d (λ _. o) (λ _. o)

-- ---- an idle tick, a tick of thread c, and an arrival for thread j
module _ {q u p i : ℕ} {g : Account} {z : State} (k : Standing q u p i g z) where
  pub idle_books : (T (contends (at z.threads i)) → ⊥) → Books q u p i g (moved (idled z) nobody)
  unfolding idled moved
  idle_books rests = record {
    q_same = k.q_same;
    inside = k.inside;
    agrees = (map_keeps {P = Rests} z.count idle (λ x r. (idle_agrees x r.0 r.1, λ c. c)) z.threads i blank (k.agrees, rests)).0;
    soon = λ _ _ h. absurd (outside k.inside k.rows.few h);
    on_time = k.on_time;
  }
    where
      Rests : Thread → Type 0
      Rests x = Agrees q u p g x × (T (contends x) → ⊥)

  pub grant_books : (c : ℕ) → T (contends (at z.threads c)) → Books q u p i (cond (eqb c i) (with_waiting g (longer g.waiting)) g) (moved (charged z c) c)
  unfolding charged moved
  grant_books c t = record { q_same = k.q_same; inside = k.inside; agrees = r.0; soon = λ _ _ h. r.1 (true_T (eq-eqb c i h)); on_time = same_finished g k.on_time (eqb c i) (longer g.waiting) }
    where
      own : ℕ
      own = (at z.threads c).app

      ys : List Thread
      ys = benefited own z

      room : ℕ
      room = room_of z (at z.threads c)

      -- the thread before the tick, which is its own if c is i
      Runs : Thread → Type 0
      Runs x = Agrees q u p g x × (c ≡ i → T (contends x))

      runs : Runs (at ys i)
      runs = benefits_at own z Runs (λ r x b. (lose_agrees x b.0 (pos r) refl, b.1)) i apps z.threads (k.agrees, λ e. subst (λ j. T (contends (at z.threads j))) e t)

      among : i < length ys
      among = omega (arith, benefits_length own z apps z.threads, inside k.rows k.inside)

      -- .. and after it, d saying whether it was its own
      Had : Bool → Thread → Type 0
      Had d x = let h = cond d (with_waiting g (longer g.waiting)) g in Agrees q u p h x × (T d → Close q u p h.previous x.e.0 h.waiting)

      had : T (contends (at ys i)) → Had true (gains room (at ys i))
      had h = let r = gain_agrees (at ys i) runs.0 room (omega (arith, k.q_same)) h in (r.0, λ _. r.1)

      r : Had (eqb c i) (at (set ys c (gains room (at ys c))) i)
      r = at_put Had ys c i (gains room (at ys c)) blank among (λ e. subst (λ j. Had true (gains room (at ys j))) (sym e) (had (runs.1 e))) (runs.0, λ f. absurd f)

  pub arrived_books : 0 < q → (j : ℕ) → Books q u p i (account_of q u i g (arrived-at j z.clock.0)) (arrived z j)
  arrived_books q-min j = record {
    q_same = k.q_same;
    inside = k.inside;
    agrees = at_put (λ d. Agrees q u p (cond d (with_waiting g js) g)) z.threads j i (arrive z.clock.0 (at z.threads j)) blank (inside k.rows k.inside) (λ e. rw e (arrive_agrees (at z.threads i) k.agrees q-min z.clock.0)) k.agrees;
    soon = λ c _ _. absurd (true_false c);
    on_time = same_finished g k.on_time (eqb j i) js;
  }
    where
      js : List Job
      js = g.waiting ++ (record { arrival = z.clock.0; length = 0 } ∷ [])

-- ---- a completion by thread j
pub completing_agrees : {q u p i : ℕ} {g h : Account} (t n : ℕ) (xs : List Thread) (j : ℕ) → i < length xs → Agrees q u p g (at xs i)
    → (j ≡ i → Completes q u p h (at xs j)) → Agrees q u p (cond (eqb j i) h g) (at (completing t n j (at xs j) xs) i)
unfolding completing gives
completing_agrees {q} {u} {p} {i} {g} {h} t n xs j among a own =
    by_test Kept (ltb 1 x.jobs) (λ m. put (goes_on x) (λ e. (own e).to_next m))
    (λ m. by_test Kept (lt_z (scaled x t) x.w.0) (λ _. put (stays x) (λ e. (own e).to_wait m))
    (λ l. let f = freed_nat t x l in rw f.1 (lose_at_lem f.0 ys (receiver n x ys) Held (λ y b. lose_agrees y b (pos f.0) refl) i (put (ends x) (λ e. (own e).to_rest m)))))
  where
    x : Thread
    x = at xs j

    ys : List Thread
    ys = set xs j (ends x)

    Held : Thread → Type 0
    Held y = Agrees q u p (cond (eqb j i) h g) y

    Kept : List Thread → Type 0
    Kept zs = Held (at zs i)

    put : (y : Thread) → (j ≡ i → Agrees q u p h y) → Kept (set xs j y)
    put y f = at_put (λ d. Agrees q u p (cond d h g)) xs j i y blank among f a
