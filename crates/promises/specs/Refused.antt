-- Demand 1 holds of refused calls: "A refused call changes neither the schedule nor any lent row."
use Rattle.std.specs.Prelude.{◌≡◌, refl, Bool, true, false, cond, List, ◌++◌, ltb, length, drop}
use Prim.Native.Nat.{ℕ, ◌-◌, ◌≤◌}
use Rattle.std.proofs.Common.{le-ltb}
use Rattle.rules.specs.Limits.{clock_end}
use Rattle.rules.specs.Threads.{State}
use Rattle.rules.specs.Table.{Answered, number_of, done, refused}
use Rattle.rules.specs.Completion.{completion}
use Rattle.rules.specs.Arrival.{arrival}
use Rattle.rules.specs.Drop.{dropped}
use Rattle.rules.specs.Step.{Stepped, step_number, stepped}
use Rattle.rules.specs.Run.{Ran, unrun, ran, state_after, row_after, passed}
use Rattle.rules.specs.Calls as calls
use Rattle.rules.specs.Calls.{Call, apply, refusal_of}
use Rattle.promises.specs.Demand1.{Kept, RowKept, Promised}
use Rattle.promises.specs.Skipped as again
use Rattle.promises.specs.Skipped.{skipped}
use Rattle.promises.specs.Branches.{by_completion, by_arrival, by_drop, by_step, by_run}

module _ (s : State) where
  abbrev KeptBy : Answered → Type 0
  KeptBy r = Kept s (number_of r.answer) r.state

  completion_kept : (i : ℕ) → KeptBy (completion s i)
  completion_kept i = by_completion s KeptBy i (λ _ _. refl) (λ _ _ _ _ n. absurd (n refl))

  arrival_kept : (i : ℕ) → KeptBy (arrival s i)
  arrival_kept i = by_arrival s KeptBy i (λ _ _. refl) (λ _ _ n. absurd (n refl))

  drop_kept : (i : ℕ) → KeptBy (dropped s i)
  drop_kept i = by_drop s KeptBy i (λ _ _. refl) (λ _ n. absurd (n refl))

  step_kept : Kept s (step_number (stepped s).outcome) (stepped s).state
  step_kept = by_step s (λ (r : Stepped). Kept s (step_number r.outcome) r.state) (λ _ _. refl) (λ _ _ n. absurd (n refl)) (λ _ _ n. absurd (n refl))

  -- the state and the lent row
  pub run_kept : (to : ℕ) (row : List ℕ) → KeptBy (ran s to row).result × RowKept row (number_of (ran s to row).result.answer) (ran s to row).row
  run_kept to row = by_run s P to row (λ _. ((λ _. refl), (λ _. refl))) ((λ n. absurd (n refl)), (λ n. absurd (n refl)))
    where
      P : Ran → Type 0
      P r = KeptBy r.result × RowKept row (number_of r.result.answer) r.row

  -- a run without a row is that into any row that is long enough
  pub passed_ran : (to : ℕ) (row : List ℕ) → to - s.clock.0 ≤ length row → passed s to ≡ (ran s to row).result
  unfolding passed ran
  passed_ran to row h = rw (le-ltb _ _ h) (go (ltb to s.clock.0) (ltb clock_end to))
    where
      n : ℕ
      n = to - s.clock.0

      go : (b c : Bool)
          → cond b (refused 12 s) (cond c (refused 13 s) (done (state_after n s))) ≡ (cond b (unrun 12 s row) (cond c (unrun 13 s row) (record { result = done (state_after n s); row = row_after n s ++ drop n row }))).result
      go true c = refl
      go false true = refl
      go false false = refl

-- of every state, whatever the call
pub refused_kept : (c : Call) (s : State) → Kept s (refusal_of s c) (apply s c)
refused_kept (calls.complete i) s n = completion_kept s i n
refused_kept (calls.arrive i) s n = arrival_kept s i n
refused_kept (calls.drop i) s n = drop_kept s i n
refused_kept calls.step s n = step_kept s n
refused_kept (calls.run to row) s n = (run_kept s to row).0 n

pub demand_1 : Promised
demand_1 s = record { schedule = λ c. refused_kept c s; row = λ to row. (run_kept s to row).1 }

-- .. and so what is claimed a second time
pub demand_1_restated : again.Promised
demand_1_restated = skipped demand_1
