-- The figures of an account are the times of the restatement's dedicated processor.
use Rattle.std.proofs.Math.Path.{◌≡◌, refl, subst}
use Rattle.std.proofs.Common.{sym, ap, ◌∙◌}
use mathlib.Core.List.{List, [], ◌∷◌, ◌++◌, map}
use Rattle.std.specs.Prelude.{ℕ, ◌+◌, ◌*◌, ◌<◌, max, eqb}
use native.Mathlib.Omega.{arith}
use Rattle.lists.specs.All.{All, none, more}
use Rattle.rules.specs.History.{Happening, completed, arrived, dropped_to_head, granted, idle_tick, became_active, became_inactive, Job, Finished, Account, no_jobs, begins, figure_of, complete_head, account_of, account}
use Rattle.promises.specs.Cases.{by_test}
use Rattle.promises.specs.Demand3.{OnTime}
use Rattle.promises.specs.Restated.{Completed, done_by}
use Rattle.promises.specs.Turns.{as_completed}

module _ (q u : ℕ) where
  abbrev pub Figured : ℕ → List Finished → Type 0
  Figured free [] = Unit {0}
  Figured free (f ∷ fs) = (f.figure ≡ max (u * f.job.arrival) free + q * f.job.length) × Figured (max (u * f.job.arrival) free + q * f.job.length) fs

  -- when it is free after the completed jobs
  abbrev free_after : ℕ → List Finished → ℕ
  free_after free fs = done_by q u free (map as_completed fs)

  figured_end : (fs : List Finished) (free : ℕ) (f : Finished) → Figured free fs → f.figure ≡ max (u * f.job.arrival) (free_after free fs) + q * f.job.length → Figured free (fs ++ (f ∷ []))
  unfolding done_by
  figured_end [] free f h e = (e, tt)
  figured_end (g ∷ fs) free f h e = (h.0, figured_end fs (max (u * g.job.arrival) free + q * g.job.length) f h.1 e)

  free_end : (fs : List Finished) (free : ℕ) (f : Finished) → free_after free (fs ++ (f ∷ [])) ≡ max (u * f.job.arrival) (free_after free fs) + q * f.job.length
  unfolding done_by
  free_end [] free f = refl
  free_end (g ∷ fs) free f = free_end fs (max (u * g.job.arrival) free + q * g.job.length) f

  -- the account's figures, and where it would begin the next job
  pub record Right (g : Account) : Type 0 where
    pub figured : Figured 0 g.finished
    pub next : (j : Job) → begins u g.previous j ≡ max (u * j.arrival) (free_after 0 g.finished)

  pub right_first : Right no_jobs
  unfolding done_by
  right_first = record { figured = tt; next = λ j. omega arith }

  right_completed : (t : ℕ) (g : Account) (js : List Job) → Right g → Right (complete_head q u t g js)
  right_completed t g [] r = r
  right_completed t g (j ∷ js) r =
      let f : Finished = record { job = j; completion = t; figure = figure_of q u g.previous j } in
      let e : f.figure ≡ max (u * j.arrival) (free_after 0 g.finished) + q * j.length = ap (λ (n : ℕ). n + q * j.length) (r.next j) in
      record {
        figured = figured_end g.finished 0 f r.figured e;
        next = λ k. ap (λ (n : ℕ). max (u * k.arrival) n) (e ∙ sym (free_end g.finished 0 f));
      }

  right_one : (i : ℕ) (g : Account) (h : Happening) → Right g → Right (account_of q u i g h)
  right_one i g (completed k t) r = by_test Right (eqb k i) (λ _. right_completed t g g.waiting r) (λ _. r)
  right_one i g (arrived k t) r = by_test Right (eqb k i) (λ _. record { figured = r.figured; next = r.next }) (λ _. r)
  right_one i g (dropped_to_head k t) r = by_test Right (eqb k i) (λ _. record { figured = r.figured; next = r.next }) (λ _. r)
  right_one i g (granted k t e) r = by_test Right (eqb k i) (λ _. record { figured = r.figured; next = r.next }) (λ _. r)
  right_one i g (idle_tick t) r = r
  right_one i g (became_active k t) r = r
  right_one i g (became_inactive k t z f) r = r

  pub right_all : (i : ℕ) (hs : List Happening) (g : Account) → Right g → Right (account q u i g hs)
  unfolding account
  right_all i [] g r = r
  right_all i (h ∷ hs) g r = right_all i hs (account_of q u i g h) (right_one i g h r)

  -- so a job that is on time by its figure is so by the dedicated processor
  pub each_on_time : (p : ℕ) (fs : List Finished) (free : ℕ) → Figured free fs → All (OnTime u p) fs
      → (before : List Completed) (j : Completed) (rest : List Completed) → map as_completed fs ≡ before ++ (j ∷ rest)
      → u * j.completion < done_by q u free (before ++ (j ∷ [])) + u * p
  unfolding done_by
  each_on_time p [] free h none [] j rest e = let z : ◌≡◌ {A = ℕ} 0 1 = cc in omega arith
  each_on_time p [] free h none (c ∷ before) j rest e = let z : ◌≡◌ {A = ℕ} 0 1 = cc in omega arith
  each_on_time p (f ∷ fs) free h (more o a) [] j rest e = let k : as_completed f ≡ j = cc in subst (λ (c : Completed). u * c.completion < done_by q u free (c ∷ []) + u * p) k (omega (arith, h.0))
  each_on_time p (f ∷ fs) free h (more o a) (c ∷ before) j rest e =
      let k : as_completed f ≡ c = cc in
      let l : map as_completed fs ≡ before ++ (j ∷ rest) = cc in
      subst (λ (c : Completed). u * j.completion < done_by q u free (c ∷ (before ++ (j ∷ []))) + u * p) k (each_on_time p fs (max (u * f.job.arrival) free + q * f.job.length) h.1 a before j rest l)
