-- Theorem 2 of Lipari and Baruah, "A hierarchical extension to the constant bandwidth server framework", is not promised, and
-- does not hold of these rules:
--
--   "each partition of threads is guaranteed to complete under H-CBS all the jobs that it would complete in its first k
--   busy-periods no more than [its greatest period] later than the time it would complete if this partition were executing on a
--   dedicated processor."
--
-- Below are a table and calls under which application 0 has one job, of 3 ticks. A processor of its capacity, 4 of 10, is done
-- with 3 ticks at 7.5, and the greatest period of the application is 10; but it has its third tick only at 19. Thread 0, alone,
-- runs ahead on its own small share, and its deadline, 30, stays when the free share of thread 1 is taken from its W.
-- The lag bound holds of it, as of everything.
use Rattle.std.specs.Prelude.{◌≡◌, refl, false, List, [], ◌∷◌, ◌++◌, ℕ, zero, suc, ◌+◌, ◌*◌, ◌-◌, ◌<◌, max, pos, negsuc, replicate}
use Rattle.std.proofs.Common.{subst, not-suc-le-zero, le_of_suc-le-suc, arith, lit<}
use Rattle.std.specs.Int.Signed.{le_z_yes}
use Rattle.rules.specs.Limits.{usual_period}
use Rattle.rules.specs.Threads.{State, Inactive, Contending, blank, amt}
use Rattle.rules.specs.Table.{Table, Done, table_answer, start, row_at}
use Rattle.rules.specs.Run.{row_after}
use Rattle.rules.specs.Calls.{Call, arrive, step, run, complete, after}
use Rattle.rules.specs.History.{history, no_jobs, account}
use Rattle.rules.specs.Stretches.{share_of, ahead_of, app_of, granted_in}
use Rattle.lag.specs.Lag.{EachBehind, DueBy, Until, left, told, stands, others_of, LagsByNoMore}
use Rattle.lag.specs.LagProved.{lag_bound}
use Rattle.lag.specs.Computed.{Computed}

-- Q 10; application, share and period of three threads
abbrev table : Table
table = record {
  q = 10;
  threads = 3;
  rows = record { app = 0; share = 1; period = 10 } ∷ record { app = 0; share = 3; period = 4 } ∷ record { app = 1; share = 6; period = 3 } ∷ [];
}

-- an arrival of thread 0 at 0 and of thread 2 at 2; the ticks up to 18; tick 18 and the completion of thread 0 at 19
abbrev up_to_2 : List Call
up_to_2 = arrive 0 ∷ step ∷ step ∷ arrive 2 ∷ []

abbrev up_to_18 : List Call
up_to_18 = arrive 0 ∷ step ∷ step ∷ arrive 2 ∷ run 18 (replicate 16 0) ∷ []

abbrev up_to_19 : List Call
up_to_19 = arrive 0 ∷ step ∷ step ∷ arrive 2 ∷ run 18 (replicate 16 0) ∷ step ∷ complete 0 ∷ []

abbrev begin : State
begin = start usual_period table

pub admitted : table_answer usual_period table ≡ Done
unfolding Computed
admitted = refl

-- who has the ticks: 0 and 1 thread 0, 2 to 17 thread 2, 18 thread 0
pub ticks_0_1 : row_after 2 (after begin (arrive 0 ∷ [])) ≡ 0 ∷ 0 ∷ []
unfolding Computed
ticks_0_1 = refl

pub ticks_2_18 : row_after 17 (after begin up_to_2) ≡ replicate 16 2 ++ (0 ∷ [])
unfolding Computed
ticks_2_18 = refl

-- its one job arrives at 0, has 3 ticks and completes at 19
pub the_job : (account table.q 1 0 no_jobs (history begin up_to_19)).finished ≡ record { job = record { arrival = 0; length = 3 }; completion = 19; figure = 30 } ∷ []
unfolding Computed
the_job = refl

-- .. and the application has no other tick by then; thread 1 never arrives
pub all_its_ticks : granted_in (app_of table) 0 (history begin up_to_19) ≡ 3
unfolding Computed
all_its_ticks = refl

-- the capacity of the application, and its greatest period
pub capacity_is : share_of 0 table ≡ 4
unfolding Computed
capacity_is = refl

abbrev greatest : ℕ
greatest = max (row_at table.rows 0).period (row_at table.rows 1).period

-- 19 is more than the greatest period after 7.5 = 10 × 3 / 4, times 4: more than the theorem allows
pub too_late : table.q * 3 + share_of 0 table * greatest < share_of 0 table * 19
unfolding Computed
too_late = lit< tt

-- ---- what is promised instead, at the moment 18, after 2 of the 3 ticks
abbrev at_18 : State
at_18 = record {
  threads =
      record { app = 0; phase = Contending; share = 1; period = 10; jobs = 1; w = amt (negsuc 33); e = amt (pos 30) }
      ∷ record { app = 0; phase = Inactive; share = 3; period = 4; jobs = 0; w = amt (pos 0); e = amt (pos 0) }
      ∷ record { app = 1; phase = Contending; share = 6; period = 3; jobs = 1; w = amt (pos 172); e = amt (pos 174) }
      ∷ replicate 61 blank;
  count = 3;
  had = 2;
  q = 10;
  clock = record { 0 = 18 };
  completed = false;
  closed = false;
}

pub comes_to : left usual_period table up_to_18 ≡ at_18
unfolding Computed
comes_to = refl

-- the application is 52 behind, which is 4 × 18 − 10 × 2, and nothing is lost
pub behind_by : ahead_of 0 at_18 ≡ negsuc 51
unfolding Computed
behind_by = refl

pub stands_so : stands table (told usual_period table up_to_18) 0 ≡ record { active = 1; stretch = record { since = record { 0 = 0 }; granted = 2; lost = amt (pos 0) } }
unfolding Computed
stands_so = refl

-- the others' share of the time left until 30, the deadline of thread 0, which waits and is behind: 6 × (30 − 18)
pub others_share : others_of 0 table * (30 - 1 * 18) ≡ 72
unfolding Computed
others_share = refl

latest : EachBehind 0 at_18 (DueBy 1 30)
latest zero h o c b = le_z_yes tt
latest (suc zero) h o c b = absurd c
latest (suc (suc zero)) h o c b = absurd (no o)
  where
    no : ◌≡◌ {A = ℕ} 1 0 → ⊥
    no e = omega arith
latest (suc (suc (suc i))) h o c b = absurd (not-suc-le-zero (le_of_suc-le-suc (le_of_suc-le-suc (le_of_suc-le-suc h))))

pub until_30 : Until 0 at_18 1 30
until_30 = record { whole = omega arith; ahead = omega arith; latest = latest }

-- .. so the bound says that 52 is at most 72
pub bounded : LagsByNoMore (others_of 0 table) 1 30 18 (ahead_of 0 at_18)
bounded = subst (λ (s : State). Until 0 s 1 30 → LagsByNoMore (others_of 0 table) 1 30 s.clock.0 (ahead_of 0 s)) comes_to ((lag_bound usual_period table admitted up_to_18).lag 0 1 30) until_30
