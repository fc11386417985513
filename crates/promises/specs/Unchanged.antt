-- No call changes a thread's application, share or period, nor Q, nor the number of threads.
use Rattle.std.specs.Prelude.{◌≡◌, refl, Bool, true, false, cond, List, [], ◌∷◌, ℕ, zero, suc, ◌+◌, ◌-◌, eqb, ltb, ℤ, pos, set}
use Rattle.std.proofs.Common.{◌∙◌}
use Rattle.std.specs.Int.Signed.{lt_z}
use Rattle.lists.specs.MapTo.{map_to, map_keeps}
use Rattle.lists.specs.Take.{at_upd}
use Rattle.rules.specs.Limits.{apps, nobody}
use Rattle.rules.specs.Threads.{Thread, State, Phase, Inactive, Contending, NonContending, with_jobs, with_rows, blank, at, scaled, idle, loses, lose_at, free_of}
use Rattle.rules.specs.Table.{Answered}
use Rattle.rules.specs.Completion.{goes_on, stays, ends, freed, gives, completing, after_completion, completion}
use Rattle.rules.specs.Leaving.{leave, gone}
use Rattle.rules.specs.Arrival.{arrive_as, arrive, arrival}
use Rattle.rules.specs.Drop.{head_only, dropped}
use Rattle.rules.specs.Fitting.{fit, fit_in, fitted, room_of}
use Rattle.rules.specs.Choice.{chosen, idled}
use Rattle.rules.specs.Charge.{gains, beneficiary, benefits, benefited, charged, moved}
use Rattle.rules.specs.Step.{Stepped, ready, stepped}
use Rattle.rules.specs.Run.{Ran, state_after, ran}
use Rattle.rules.specs.Calls as calls
use Rattle.rules.specs.Calls.{Call, apply, after}
use Rattle.promises.specs.Cases.{by_test}
use Rattle.promises.specs.Branches.{by_leaving, by_fitting, by_completion, by_arrival, by_drop, by_step, by_run}

-- y has the row of x: application, share and period
abbrev SameRow : Thread → Thread → Type 0
SameRow x y = (y.app ≡ x.app) × (y.share ≡ x.share) × (y.period ≡ x.period)

-- z has the table of s
pub record SameTable (s z : State) : Type 0 where
  pub count : z.count ≡ s.count
  pub q : z.q ≡ s.q
  pub row : (i : ℕ) → SameRow (at s.threads i) (at z.threads i)

same_row : (x : Thread) → SameRow x x
same_row x = (refl, refl, refl)

same_table : (s : State) → SameTable s s
same_table s = record { count = refl; q = refl; row = λ i. same_row (at s.threads i) }

same_then : {s z y : State} → SameTable s z → SameTable z y → SameTable s y
same_then a b = record {
  count = b.count ∙ a.count;
  q = b.q ∙ a.q;
  row = λ i. ((b.row i).0 ∙ (a.row i).0, (b.row i).1 ∙ (a.row i).1, (b.row i).2 ∙ (a.row i).2);
}

-- ---- the changes of one thread
module _ (x y : Thread) (k : SameRow x y) where
  row_leave : (t : ℕ) → SameRow x (leave t y)
  row_leave t = by_leaving (SameRow x) t y k (λ _ _. k)

  row_fit : (room : ℕ) → SameRow x (fit room y)
  row_fit room = by_fitting (SameRow x) room y k (λ _ _. k)

  row_arrive : (t : ℕ) → SameRow x (arrive t y)
  unfolding arrive
  row_arrive t = go y.phase
    where
      go : (p : Phase) → SameRow x (with_jobs (arrive_as p t y) (y.jobs + 1))
      go Inactive = k
      go Contending = k
      go NonContending = k

  row_head : SameRow x (head_only y)
  unfolding head_only
  row_head = k

-- ---- the changes of the threads
-- one thread by a change of it
row_set : (h : Thread → Thread) → ((x y : Thread) → SameRow x y → SameRow x (h y)) → (xs ys : List Thread) (c : ℕ)
    → ((i : ℕ) → SameRow (at xs i) (at ys i)) → (i : ℕ) → SameRow (at xs i) (at (set ys c (h (at ys c))) i)
row_set h f xs ys c k i = at_upd {P = SameRow (at xs i)} h (f (at xs i)) ys c i blank (k i)

row_lose : (z : ℤ) (xs ys : List Thread) (c : ℕ) → ((i : ℕ) → SameRow (at xs i) (at ys i)) → (i : ℕ) → SameRow (at xs i) (at (lose_at z ys c) i)
unfolding lose_at
row_lose z xs ys c k i = by_test (λ (zs : List Thread). SameRow (at xs i) (at zs i)) (eqb c nobody) (λ _. k i) (λ _. row_set (loses z) (λ x y a. a) xs ys c k i)

row_benefits : (own : ℕ) (s : State) (n : ℕ) (xs : List Thread) (i : ℕ) → SameRow (at xs i) (at (benefits own s n xs) i)
unfolding benefits
row_benefits own s zero xs i = same_row (at xs i)
row_benefits own s (suc a) xs i = go (eqb a own) (row_benefits own s a xs)
  where
    go : (b : Bool) → ((i : ℕ) → SameRow (at xs i) (at (benefits own s a xs) i))
        → SameRow (at xs i) (at (cond b (benefits own s a xs) (lose_at (pos (free_of a s)) (benefits own s a xs) (beneficiary a s))) i)
    go true k = k i
    go false k = row_lose (pos (free_of a s)) xs (benefits own s a xs) (beneficiary a s) k i

-- ---- the parts of a step
-- every thread by a change of it
mapped_same : (s : State) (h : Thread → Thread) → ((x y : Thread) → SameRow x y → SameRow x (h y)) → SameTable s (with_rows s (map_to s.count h s.threads))
mapped_same s h f = record {
  count = refl;
  q = refl;
  row = λ i. let x = at s.threads i in map_keeps {P = SameRow x} s.count h (f x) s.threads i blank (same_row x);
}

gone_same : (s : State) → SameTable s (gone s)
unfolding gone
gone_same s =
    by_test (SameTable s) s.closed (λ _. same_table s)
    (λ _. mapped_same s (leave s.clock.0) (λ x y k. row_leave x y k s.clock.0))

fitted_same : (s : State) → SameTable s (fitted s)
unfolding fitted
fitted_same s = mapped_same s (fit_in s) (λ x y k. row_fit x y k (room_of s y))

pub ready_same : (s : State) → SameTable s (ready s)
ready_same s = same_then (gone_same s) (fitted_same (gone s))

idle_same : (s : State) → SameTable s (moved (idled s) nobody)
unfolding moved idled
idle_same s = let m = mapped_same s idle (λ x y k. k) in record { count = m.count; q = m.q; row = m.row }

charge_same : (s : State) (c : ℕ) → SameTable s (moved (charged s c) c)
unfolding moved charged
charge_same s c = let x = at s.threads c in record {
  count = refl;
  q = refl;
  row = row_set (gains (room_of s x)) (λ x y k. k) s.threads (benefited x.app s) c (row_benefits x.app s apps s.threads);
}

pub step_same : (s : State) → SameTable s (stepped s).state
step_same s =
    by_step s (λ (r : Stepped). SameTable s r.state) (λ _. same_table s)
    (λ _ _. same_then (ready_same s) (idle_same (ready s)))
    (λ _ _. same_then (ready_same s) (charge_same (ready s) (chosen (ready s))))

pub steps_same : (n : ℕ) (s : State) → SameTable s (state_after n s)
unfolding state_after
steps_same zero s = same_table s
steps_same (suc n) s = same_then (steps_same n s) (step_same (state_after n s))

-- ---- the calls
completing_same : (t n c : ℕ) (xs : List Thread) (i : ℕ) → SameRow (at xs i) (at (completing t n c (at xs c) xs) i)
unfolding completing gives
completing_same t n c xs i =
    by_test P (ltb 1 (at xs c).jobs) (λ _. one goes_on (λ x y k. k) i)
    (λ _. by_test P (lt_z (scaled (at xs c) t) (at xs c).w.0) (λ _. one stays (λ x y k. k) i)
    (λ _. row_lose (freed t (at xs c)) xs (set xs c (ends (at xs c))) _ (one ends (λ x y k. k)) i))
  where
    P : List Thread → Type 0
    P ys = SameRow (at xs i) (at ys i)

    one : (h : Thread → Thread) → ((x y : Thread) → SameRow x y → SameRow x (h y)) → (i : ℕ) → SameRow (at xs i) (at (set xs c (h (at xs c))) i)
    one h f = row_set h f xs xs c (λ i. same_row (at xs i))

module _ (s : State) where
  abbrev Same : Answered → Type 0
  Same r = SameTable s r.state

  completion_same : (i : ℕ) → SameTable s (completion s i).state
  unfolding after_completion
  completion_same i =
      by_completion s Same i (λ _. same_table s)
      (λ _ _ _ _. record { count = refl; q = refl; row = completing_same s.clock.0 s.count i s.threads })

  arrival_same : (i : ℕ) → SameTable s (arrival s i).state
  arrival_same i = by_arrival s Same i (λ _. same_table s) (λ _ _. let g = gone_same s in record {
    count = g.count;
    q = g.q;
    row = row_set (arrive (gone s).clock.0) (λ x y k. row_arrive x y k (gone s).clock.0) s.threads (gone s).threads i g.row;
  })

  drop_same : (i : ℕ) → SameTable s (dropped s i).state
  drop_same i =
      by_drop s Same i (λ _. same_table s)
      (λ _. record { count = refl; q = refl; row = row_set head_only row_head s.threads s.threads i (λ j. same_row (at s.threads j)) })

  run_same : (to : ℕ) (row : List ℕ) → SameTable s (ran s to row).result.state
  run_same to row = by_run s (λ (r : Ran). SameTable s r.result.state) to row (λ _. same_table s) (steps_same (to - s.clock.0) s)

pub call_same : (c : Call) (s : State) → SameTable s (apply s c)
call_same (calls.complete i) s = completion_same s i
call_same (calls.arrive i) s = arrival_same s i
call_same (calls.drop i) s = drop_same s i
call_same calls.step s = step_same s
call_same (calls.run to row) s = run_same s to row

-- every sequence of calls leaves the table as it was
pub calls_same : (cs : List Call) (s : State) → SameTable s (after s cs)
unfolding after
calls_same [] s = same_table s
calls_same (c ∷ cs) s = same_then (call_same c s) (calls_same cs (apply s c))
