-- The steps of one thread and the calls by their branches: what holds on each branch holds of the whole.
use Rattle.std.specs.Prelude.{◌≡◌, true, false, List, ◌++◌, ℕ, ◌-◌, ◌<◌, eqb, ltb, pos, ◌-ℤ◌, length, drop, set}
use Rattle.std.proofs.Common.{eqb-true, ltb-true}
use Rattle.std.proofs.lemmas.Bool.{eqb-false}
use Rattle.std.specs.Int.Signed.{lt_z}
use Rattle.rules.specs.Limits.{nobody, max_jobs, clock_end}
use Rattle.rules.specs.Threads.{Thread, State, scaled, with_rows, at, idle, is_non, contends}
use Rattle.rules.specs.Table.{Answered, done, refused}
use Rattle.rules.specs.Completion.{completion, after_completion}
use Rattle.rules.specs.Leaving.{leave, gone}
use Rattle.rules.specs.Arrival.{arrival, arrived}
use Rattle.rules.specs.Drop.{head_only, dropped}
use Rattle.rules.specs.Fitting.{postpone, fit}
use Rattle.rules.specs.Choice.{chosen, idled}
use Rattle.rules.specs.Charge.{charged, moved}
use Rattle.rules.specs.Step.{Stepped, Grant, Idle, Refused, ready, stepped}
use Rattle.rules.specs.Run.{Ran, unrun, state_after, row_after, ran}
use Rattle.promises.specs.Cases.{by_test}

-- ---- one thread: it stays, or it is changed
pub by_leaving : (P : Thread → Type 0) (t : ℕ) (x : Thread) → P x → (is_non x.phase ≡ true → lt_z (scaled x t) x.w.0 ≡ false → P (idle x)) → P (leave t x)
unfolding leave
by_leaving P t x stay go = by_test P (is_non x.phase) (λ n. by_test P (lt_z (scaled x t) x.w.0) (λ _. stay) (go n)) (λ _. stay)

pub by_fitting : (P : Thread → Type 0) (room : ℕ) (x : Thread) → P x → (contends x ≡ true → lt_z (x.e.0 -ℤ x.w.0) (pos room) ≡ true → P (postpone x)) → P (fit room x)
unfolding fit
by_fitting P room x stay later = by_test P (contends x) (λ c. by_test P (lt_z (x.e.0 -ℤ x.w.0) (pos room)) (later c) (λ _. stay)) (λ _. stay)

-- ---- a call: it is refused, or it is accepted
module _ (s : State) where
  pub by_completion : (P : Answered → Type 0) (i : ℕ) → ((n : ℕ) → P (refused n s))
      → (i < s.count → s.closed ≡ false → s.completed ≡ false → i ≡ s.had → P (done (after_completion s i))) → P (completion s i)
  unfolding completion
  by_completion P i kept on =
      by_test P (ltb i s.count)
      (λ h. by_test P s.closed (λ _. kept 10)
      (λ c. by_test P (eqb i s.had)
      (λ e. by_test P s.completed (λ _. kept 9) (λ d. on (ltb-true i s.count h) c d (eqb-true i s.had e)))
      (λ _. kept 9)))
      (λ _. kept 8)

  pub by_arrival : (P : Answered → Type 0) (i : ℕ) → ((n : ℕ) → P (refused n s))
      → (i < s.count → (at s.threads i).jobs < max_jobs → P (done (arrived (gone s) i))) → P (arrival s i)
  unfolding arrival
  by_arrival P i kept on =
      by_test P (ltb i s.count)
      (λ h. by_test P (ltb (at s.threads i).jobs max_jobs) (λ j. on (ltb-true i s.count h) (ltb-true _ _ j)) (λ _. kept 11))
      (λ _. kept 8)

  pub by_drop : (P : Answered → Type 0) (i : ℕ) → ((n : ℕ) → P (refused n s))
      → (i < s.count → P (done (with_rows s (set s.threads i (head_only (at s.threads i)))))) → P (dropped s i)
  unfolding dropped
  by_drop P i kept on = by_test P (ltb i s.count) (λ h. on (ltb-true i s.count h)) (λ _. kept 8)

  -- a step is refused, idle or granted
  module _ (P : Stepped → Type 0) where
    abbrev z : State
    z = ready s

    abbrev early : Type 0
    early = s.clock.0 ≡ clock_end → ⊥

    pub by_step :
        (s.clock.0 ≡ clock_end → P (record { outcome = Refused 13; state = s }))
        → (early → chosen z ≡ nobody → P (record { outcome = Idle; state = moved (idled z) nobody }))
        → (early → (chosen z ≡ nobody → ⊥) → P (record { outcome = Grant (chosen z); state = moved (charged z (chosen z)) (chosen z) }))
        → P (stepped s)
    unfolding stepped
    by_step kept none some =
        by_test P (eqb s.clock.0 clock_end) (λ t. kept (eqb-true _ _ t))
        (λ t. by_test P (eqb (chosen z) nobody)
        (λ e. none (eqb-false _ _ t) (eqb-true (chosen z) nobody e))
        (λ e. some (eqb-false _ _ t) (eqb-false (chosen z) nobody e)))

  module _ (P : Ran → Type 0) (to : ℕ) (row : List ℕ) where
    abbrev ticks : ℕ
    ticks = to - s.clock.0

    pub by_run : ((n : ℕ) → P (unrun n s row)) → P (record { result = done (state_after ticks s); row = row_after ticks s ++ drop ticks row }) → P (ran s to row)
    unfolding ran
    by_run kept on =
        by_test P (ltb to s.clock.0) (λ _. kept 12)
        (λ _. by_test P (ltb clock_end to) (λ _. kept 13)
        (λ _. by_test P (ltb (length row) ticks) (λ _. kept 17) (λ _. on)))
