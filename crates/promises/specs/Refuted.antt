-- Just outside of what demands 1 and 3 promise: each predicate of theirs holds of what just meets it and refuses what misses it by
-- one, on numbers and in general, so that none of them says less than its name.
use Rattle.std.specs.Prelude.{◌≡◌, refl, false, List, [], ◌∷◌, ℕ, zero, suc, ◌+◌, ◌*◌, ◌≤◌, ◌<◌, ℤ, pos, get_or, length}
use Rattle.std.proofs.Common.{ap, not-suc-le-zero, le_of_suc-le-suc, arith}
use Rattle.std.proofs.Math.Option.{none}
use Rattle.std.specs.Int.Signed.{le_z_yes}
use Rattle.integers.specs.Parts.{up, ◌≺◌, le_parts}
use Rattle.lists.specs.Sum.{sum_by}
use Rattle.rules.specs.Limits.{idle_entry}
use Rattle.rules.specs.Threads.{State, Contending, amt, at}
use Rattle.rules.specs.Step.{Grant, ready}
use Rattle.rules.specs.History.{Happening, completed, granted, Job, Finished, Account, completions_of, grants_to}
use Rattle.promises.specs.Demand1.{Kept, RowKept}
use Rattle.promises.specs.Demand3.{WithinDeadline, EndsInTime, OnTime, EachCompletion, EachTick}
use Rattle.promises.specs.Restated.{NotPast, EndsAs, Completed, done_by, EachOnTime}

-- ---- "a thread's virtual time never passes its deadline"
-- one thread of share 5, with W and E, at the moment t
abbrev state_of : ℕ → ℤ → ℤ → State
state_of t w e = record {
  threads = record { app = 0; phase = Contending; share = 5; period = 4; jobs = 1; w = amt w; e = amt e } ∷ [];
  count = 1;
  had = 0;
  q = 10;
  clock = record { 0 = t };
  completed = false;
  closed = false;
}

-- W = E = 20, and W one above it
pub at_its_deadline : WithinDeadline (state_of 3 (pos 20) (pos 20))
at_its_deadline zero h = le_z_yes tt
at_its_deadline (suc i) h = absurd (not-suc-le-zero (le_of_suc-le-suc h))

pub past_its_deadline : WithinDeadline (state_of 3 (pos 21) (pos 20)) → ⊥
past_its_deadline h = omega (arith, le_parts _ _ (h 0 (omega arith)))

pub none_past_its_deadline : (s : State) (i : ℕ) → i < s.count → (at s.threads i).e.0 ≺ (at s.threads i).w.0
    → WithinDeadline s → ⊥
none_past_its_deadline s i l k h = omega (arith, le_parts _ _ (h i l))

-- ---- "a granted tick ends no later than the deadline it was granted under"
-- the tick 3 of a thread of share 5 ends at 4, under the deadline 4: 5 × (3 + 1) = E = 20; the tick 4 ends past it
pub ends_at_its_deadline : EndsInTime (λ _. 5) (granted 0 3 (pos 20))
ends_at_its_deadline = le_z_yes tt

pub ends_late : EndsInTime (λ _. 5) (granted 0 4 (pos 20)) → ⊥
ends_late h = omega (arith, le_parts _ _ h)

pub none_ends_late : (u : ℕ → ℕ) (i k : ℕ) (e : ℤ) → e ≺ pos (u i * (k + 1)) → EndsInTime u (granted i k e) → ⊥
none_ends_late u i k e l h = omega (arith, le_parts _ _ h)

-- ---- "each job completes strictly earlier than one period of its thread after [its dedicated completion]"
abbrev job_of : ℕ → ℕ → Job
job_of arrival length = record { arrival = arrival; length = length }

-- Q 10, u 2, P 5: the job that arrived at 3 and had a tick has the figure 2 × 3 + 10 × 1; at 12 it completes in time, and at 13
-- late by just one period, as 2 × 13 = 16 + 2 × 5
pub on_time : OnTime 2 5 (record { job = job_of 3 1; completion = 12; figure = 16 })
on_time = omega arith

pub late_by_a_period : OnTime 2 5 (record { job = job_of 3 1; completion = 13; figure = 16 }) → ⊥
late_by_a_period h = omega arith

pub none_late_by_a_period : (u p : ℕ) (f : Finished) → f.figure + u * p ≤ u * f.completion → OnTime u p f → ⊥
none_late_by_a_period u p f l h = omega arith

-- ---- nothing is left out
-- one completed job, at 13, and a job that waits and has had two ticks; with it just that history
abbrev books : Account
books = record {
  waiting = job_of 4 2 ∷ [];
  previous = none;
  finished = record { job = job_of 3 1; completion = 13; figure = 16 } ∷ [];
}

pub each_completion : EachCompletion 0 books (completed 0 13 ∷ completed 1 14 ∷ [])
unfolding completions_of
each_completion = refl

-- a completion that is in no job; one at another moment; a job without its completion
pub completion_missed : EachCompletion 0 books (completed 0 13 ∷ completed 0 14 ∷ []) → ⊥
unfolding completions_of
completion_missed h = let n = ap length h in omega arith

pub completion_moved : EachCompletion 0 books (completed 0 14 ∷ []) → ⊥
unfolding completions_of
completion_moved h = let n = ap (λ (l : List ℕ). get_or l 0 0) h in omega arith

pub completion_made_up : EachCompletion 0 books (completed 1 13 ∷ []) → ⊥
unfolding completions_of
completion_made_up h = let n = ap length h in omega arith

-- four ticks of the thread where its jobs have three, and three ticks of which one is another thread's
abbrev ticks : ℕ → List Happening
ticks i = granted 0 10 (pos 40) ∷ granted 0 11 (pos 40) ∷ granted i 12 (pos 40) ∷ []

pub each_tick : EachTick 0 books (ticks 0)
unfolding sum_by grants_to
each_tick = refl

pub tick_missed : EachTick 0 books (granted 0 9 (pos 40) ∷ ticks 0) → ⊥
unfolding sum_by grants_to
tick_missed h = omega arith

pub tick_made_up : EachTick 0 books (ticks 1) → ⊥
unfolding sum_by grants_to
tick_made_up h = omega arith

-- ---- the same of the restatement: late by just one period, also behind a job that was on time
abbrev done_of : ℕ → ℕ → ℕ → Completed
done_of arrival length completion = record { arrival = arrival; length = length; completion = completion }

pub again_late_by_a_period : EachOnTime 10 2 5 (done_of 3 1 13 ∷ []) → ⊥
unfolding done_by
again_late_by_a_period h = let k = h [] (done_of 3 1 13) [] refl in omega arith

pub second_late_by_a_period : EachOnTime 10 2 5 (done_of 3 1 12 ∷ done_of 4 1 18 ∷ []) → ⊥
unfolding done_by
second_late_by_a_period h = let k = h (done_of 3 1 12 ∷ []) (done_of 4 1 18) [] refl in omega arith

pub again_past_its_deadline : NotPast 0 (state_of 3 (pos 21) (pos 20)) → ⊥
again_past_its_deadline h = omega (arith, le_parts _ _ h)

pub again_ends_late : (z : State) (u : ℕ → ℕ) (i : ℕ) → (at (ready z).threads i).e.0 ≺ pos (u i * (z.clock.0 + 1))
    → EndsAs u z (Grant i) → ⊥
again_ends_late z u i l h = omega (arith, le_parts _ _ h)

-- ---- "A refused call changes neither the schedule nor any lent row."
-- a call refused 9 that moved the clock; one that took from W; a run refused 17 that wrote an entry, and one refused 12 that cut the row
nine : ◌≡◌ {A = ℕ} 9 0 → ⊥
nine e = omega arith

seventeen : ◌≡◌ {A = ℕ} 17 0 → ⊥
seventeen e = omega arith

twelve : ◌≡◌ {A = ℕ} 12 0 → ⊥
twelve e = omega arith

pub clock_moved : Kept (state_of 3 (pos 10) (pos 20)) 9 (state_of 4 (pos 10) (pos 20)) → ⊥
clock_moved k = let n = ap (λ (s : State). s.clock.0) (k nine) in omega arith

pub amount_taken : Kept (state_of 3 (pos 10) (pos 20)) 9 (state_of 3 (pos 9) (pos 20)) → ⊥
amount_taken k = let n = ap (λ (s : State). up (at s.threads 0).w.0) (k nine) in omega arith

pub entry_written : RowKept (7 ∷ 7 ∷ []) 17 (idle_entry ∷ 7 ∷ []) → ⊥
entry_written k = let n = ap (λ (l : List ℕ). get_or l 0 0) (k seventeen) in omega arith

pub row_cut : RowKept (7 ∷ 7 ∷ []) 12 (7 ∷ []) → ⊥
row_cut k = let n = ap length (k twelve) in omega arith
