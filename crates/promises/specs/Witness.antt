-- The restatement of demand 3 speaks of something: the turns of a sequence of calls, the jobs in them, and the dedicated
-- processor's times.
use Rattle.std.specs.Prelude.{◌≡◌, refl, List, [], ◌∷◌, map, ℕ, ◌+◌, ◌*◌, take}
use Rattle.std.proofs.Common.{arith}
use Rattle.lists.specs.Sum.{sum_by}
use Rattle.lists.specs.MapTo.{map_to}
use Rattle.rules.specs.Limits.{usual_period}
use Rattle.rules.specs.Threads.{free_share, earliest, lose_at}
use Rattle.rules.specs.Table.{Table, Done, head_answer, row_answer, shares_to, rows_answer, table_answer, opened_to, start}
use Rattle.rules.specs.Completion.{gives, completing, after_completion, completion}
use Rattle.rules.specs.Leaving.{leave, gone}
use Rattle.rules.specs.Arrival as arrivals
use Rattle.rules.specs.Arrival.{arrival}
use Rattle.rules.specs.Drop.{head_only, dropped}
use Rattle.rules.specs.Fitting.{fit, fitted}
use Rattle.rules.specs.Choice.{idled}
use Rattle.rules.specs.Charge.{benefits, charged, moved}
use Rattle.rules.specs.Step.{stepped}
use Rattle.rules.specs.Run.{state_after, row_after, ran}
use Rattle.rules.specs.Calls.{Call, complete, arrive, drop, run, step}
use Rattle.promises.specs.Restated.{Asked, completion_of, arrival_of, drop_of, tick, Turn, ticks, turns, Completed, jobs_after, done_by, moments, grants, all, jobs_of}

abbrev done : ℕ → ℕ → ℕ → Completed
done arrival length completion = record { arrival = arrival; length = length; completion = completion }

-- all the rules to compute with
unfoldable pub Computed : Type 0
unfolding sum_by map_to free_share earliest lose_at head_answer row_answer shares_to rows_answer table_answer opened_to start gives completing after_completion completion leave gone arrivals.arrive arrival head_only dropped fit fitted idled benefits charged moved stepped state_after row_after ran ticks turns jobs_after done_by moments grants
Computed = Unit {0}

-- ---- two threads, each with half of the processor: 0 has the ticks 0 and 2, and 1 the ticks 1 and 3
abbrev pub halves : Table
halves = record { q = 2; threads = 2; rows = record { app = 0; share = 1; period = 2 } ∷ record { app = 1; share = 1; period = 3 } ∷ [] }

-- a run of three ticks, a run whose row is too short, a completion by who did not have the tick just ended, and a second job dropped
abbrev made : List Call
made =
    arrive 0 ∷ arrive 1 ∷ arrive 1 ∷ run 3 (7 ∷ 7 ∷ 7 ∷ []) ∷ run 9 [] ∷ complete 1 ∷ complete 0 ∷ drop 1 ∷ step ∷ complete 1
    ∷ []

pub halves_admitted : table_answer usual_period halves ≡ Done
unfolding Computed
halves_admitted = refl

abbrev asked_so : List Asked
asked_so =
    arrival_of 0 ∷ arrival_of 1 ∷ arrival_of 1 ∷ tick ∷ tick ∷ tick ∷ completion_of 1 ∷ completion_of 0 ∷ drop_of 1 ∷ tick
    ∷ completion_of 1 ∷ []

pub turns_so : map (λ (m : Turn). m.asked) (all usual_period halves made) ≡ asked_so
unfolding Computed
turns_so = refl

pub moments_of_turns : map (λ (m : Turn). m.state.clock.0) (all usual_period halves made)
    ≡ 0 ∷ 0 ∷ 0 ∷ 0 ∷ 1 ∷ 2 ∷ 3 ∷ 3 ∷ 3 ∷ 3 ∷ 4 ∷ []
unfolding Computed
moments_of_turns = refl

pub first_jobs : jobs_of usual_period halves made 0 ≡ record { waiting = []; completed = done 0 2 3 ∷ [] }
unfolding Computed
first_jobs = refl

pub second_jobs : jobs_of usual_period halves made 1 ≡ record { waiting = []; completed = done 0 2 4 ∷ [] }
unfolding Computed
second_jobs = refl

abbrev turned : List Turn
turned = all usual_period halves made

pub counts_so : (moments 0 turned ≡ 3 ∷ []) × (grants 0 turned ≡ 2) × (moments 1 turned ≡ 4 ∷ []) × (grants 1 turned ≡ 2)
unfolding Computed
counts_so = (refl, refl, refl, refl)

-- ---- the dedicated processor
-- Q 2, u 1: 0 + 2 × 2; the greater of 2 and 4, plus 2 × 1; the greater of 7 and 6, plus 2 × 2
abbrev three : List Completed
three = done 0 2 2 ∷ done 2 1 3 ∷ done 7 2 9 ∷ []

pub done_by_so : (done_by 2 1 0 (take 1 three) ≡ 4) × (done_by 2 1 0 (take 2 three) ≡ 6) × (done_by 2 1 0 three ≡ 11)
unfolding Computed
done_by_so = (refl, refl, refl)

-- "For the first job the arrival alone counts.": Q 4, u 2, an arrival at 3: 2 × 3 + 4 × 1
pub first_so : done_by 4 2 0 (done 3 1 4 ∷ []) ≡ 10
unfolding Computed
first_so = refl

pub first_alone : (q u : ℕ) (j : Completed) → done_by q u 0 (j ∷ []) ≡ u * j.arrival + q * j.length
unfolding done_by
first_alone q u j = omega arith
