-- The lag bound and the own share speak of something: their premises are met by calls, the lag bound is reached, and a thread is behind.
use Rattle.std.specs.Prelude.{◌≡◌, refl, false, List, [], ◌∷◌, ℕ, zero, suc, ◌+◌, ◌*◌, ◌-◌, ◌<◌, pos, negsuc, ◌+ℤ◌, ◌*ℤ◌, replicate}
use Rattle.std.proofs.Common.{sym, subst, not-suc-le-zero, le_of_suc-le-suc, arith, lit<}
use Rattle.std.specs.Int.Signed.{le_z_yes, lt_z_yes}
use Rattle.rules.specs.Limits.{usual_period}
use Rattle.rules.specs.Threads.{State, Inactive, Contending, blank, amt, at}
use Rattle.rules.specs.Table.{Row, Table, Done, table_answer}
use Rattle.rules.specs.Calls.{Call, arrive, step}
use Rattle.rules.specs.Stretches.{Activity, ahead_of, elapsed, app_of, share_of}
use Rattle.stretches.specs.Item8.{Balanced}
use Rattle.lag.specs.Lag.{Behind, DueBy, EachBehind, Until, left, told, stands, others_of, LagsByNoMore, LagsNotAtAll, Capacity}
use Rattle.lag.specs.LagProved.{lag_bound}
use Rattle.lag.specs.Own.{granted_from, MoreThan, own, due_to, margin, together, AllFrom}
use Rattle.lag.specs.OwnProved.{own_share_lem}
use Rattle.lag.specs.Computed.{Computed}

abbrev row : ℕ → ℕ → ℕ → Row
row a u p = record { app = a; share = u; period = p }

-- active, with one thread, since s with g ticks and no loss
abbrev since : ℕ → ℕ → Activity
since s g = record { active = 1; stretch = record { since = record { 0 = s }; granted = g; lost = amt (pos 0) } }

-- ---- application 1 lags by 2, all that it may: thread 2 waits with the deadline 3, and lost the free share of thread 1 at tick 0
abbrev thirds : Table
thirds = record { q = 3; threads = 3; rows = row 0 1 3 ∷ row 1 1 4 ∷ row 1 1 3 ∷ [] }

abbrev at_once_lem : List Call
at_once_lem = arrive 0 ∷ arrive 2 ∷ step ∷ []

pub thirds_admitted : table_answer usual_period thirds ≡ Done
unfolding Computed
thirds_admitted = refl

abbrev at_1 : State
at_1 = record {
  threads =
      record { app = 0; phase = Contending; share = 1; period = 3; jobs = 1; w = amt (pos 3); e = amt (pos 3) }
      ∷ record { app = 1; phase = Inactive; share = 1; period = 4; jobs = 0; w = amt (pos 0); e = amt (pos 0) }
      ∷ record { app = 1; phase = Contending; share = 1; period = 3; jobs = 1; w = amt (negsuc 0); e = amt (pos 3) }
      ∷ replicate 61 blank;
  count = 3;
  had = 0;
  q = 3;
  clock = record { 0 = 1 };
  completed = false;
  closed = false;
}

pub comes_to : left usual_period thirds at_once_lem ≡ at_1
unfolding Computed
comes_to = refl

-- a thread that is behind
pub is_behind : Behind 1 (at at_1.threads 2)
is_behind = lt_z_yes tt

latest : EachBehind 1 at_1 (DueBy 1 3)
latest zero h o c b = le_z_yes tt
latest (suc zero) h o c b = absurd c
latest (suc (suc zero)) h o c b = le_z_yes tt
latest (suc (suc (suc i))) h o c b = absurd (not-suc-le-zero (le_of_suc-le-suc (le_of_suc-le-suc (le_of_suc-le-suc h))))

pub until_3 : Until 1 at_1 1 3
until_3 = record { whole = omega arith; ahead = omega arith; latest = latest }

-- − 2 + 1 × (3 − 1) = 0: the bound is reached
pub lags_by : ahead_of 1 at_1 ≡ negsuc 1
unfolding Computed
lags_by = refl

pub reached : pos 1 *ℤ ahead_of 1 at_1 +ℤ pos (others_of 1 thirds * (3 - 1 * 1)) ≡ pos 0
unfolding Computed
reached = refl

-- .. and so with Item 8's equation: 2 × 1 = 3 × 0 + 0 + 1 × (3 − 1)
pub stands_so : stands thirds (told usual_period thirds at_once_lem) 1 ≡ since 0 0
unfolding Computed
stands_so = refl

pub balanced : Balanced usual_period thirds at_once_lem 1 (left usual_period thirds at_once_lem) (stands thirds (told usual_period thirds at_once_lem) 1)
unfolding Computed
balanced h = refl

pub capacity_reached : pos (1 * (share_of 1 thirds * elapsed 1 (since 0 0).stretch)) ≡ pos 1 *ℤ (pos (3 * 0) +ℤ pos 0) +ℤ pos (others_of 1 thirds * (3 - 1 * 1))
unfolding Computed
capacity_reached = refl

-- .. which are promised
pub lag_promised : LagsByNoMore 1 1 3 1 (negsuc 1)
unfolding Computed
lag_promised = (lag_bound usual_period thirds thirds_admitted at_once_lem).lag 1 1 3 until_3

pub capacity_promised : Capacity 3 2 1 1 3 1 (since 0 0).stretch
unfolding Computed
capacity_promised = (lag_bound usual_period thirds thirds_admitted at_once_lem).capacity 1 1 3 (lit< tt) until_3 (lit< tt)

-- ---- application 0 is 2 ahead then, and its thread, which waits, is not behind
none_behind : EachBehind 0 at_1 (λ _. ⊥)
none_behind zero h o c b = b.lt
none_behind (suc zero) h o c b = absurd c
none_behind (suc (suc zero)) h o c b = absurd (no o)
  where
    no : ◌≡◌ {A = ℕ} 1 0 → ⊥
    no e = omega arith
none_behind (suc (suc (suc i))) h o c b = absurd (not-suc-le-zero (le_of_suc-le-suc (le_of_suc-le-suc (le_of_suc-le-suc h))))

pub none_behind_promised : LagsNotAtAll (pos 2)
unfolding Computed
none_behind_promised = (lag_bound usual_period thirds thirds_admitted at_once_lem).none_behind 0 none_behind

-- ---- a thread that had 1 of 4 ticks, with half of the processor: 1 × 4 is 3 below 2 × 1 + 2 + 1 × 3
abbrev halves : Table
halves = record { q = 2; threads = 2; rows = row 0 1 2 ∷ row 1 1 3 ∷ [] }

abbrev four_ticks : List Call
four_ticks = arrive 0 ∷ arrive 1 ∷ step ∷ step ∷ step ∷ step ∷ []

pub halves_admitted : table_answer usual_period halves ≡ Done
unfolding Computed
halves_admitted = refl

pub own_so : own (told usual_period halves four_ticks) 1 ≡ since 0 1
unfolding Computed
own_so = refl

pub own_near : due_to halves 4 (told usual_period halves four_ticks) 1 + 3 ≡ 2 * 1 + margin usual_period halves 1
unfolding Computed
own_near = refl

pub own_promised : MoreThan 2 4 5 1
unfolding Computed
own_promised = (own_share_lem usual_period halves halves_admitted four_ticks).thread 1 (lit< tt) (lit< tt)

-- ---- an application of two threads, both active since 2, that had 3 of the 9 ticks since, with half of the processor: 2 × 9 is 16
-- below 4 × 3 + (4 + 1 × 7) + (4 + 1 × 7)
abbrev quarters : Table
quarters = record { q = 4; threads = 3; rows = row 0 2 2 ∷ row 1 1 7 ∷ row 1 1 7 ∷ [] }

abbrev eleven_ticks : List Call
eleven_ticks = arrive 0 ∷ step ∷ step ∷ arrive 1 ∷ arrive 2 ∷ step ∷ step ∷ step ∷ step ∷ step ∷ step ∷ step ∷ step ∷ step ∷ []

pub quarters_admitted : table_answer usual_period quarters ≡ Done
unfolding Computed
quarters_admitted = refl

pub first_so : own (told usual_period quarters eleven_ticks) 1 ≡ since 2 2
unfolding Computed
first_so = refl

pub second_so : own (told usual_period quarters eleven_ticks) 2 ≡ since 2 1
unfolding Computed
second_so = refl

abbrev From-2 : Activity → Type 0
From-2 c = (0 < c.active) × (c.stretch.since.0 ≡ 2)

pub all_from_2 : AllFrom quarters (told usual_period quarters eleven_ticks) 1 2
all_from_2 zero o = absurd (no o.its)
  where
    no : ◌≡◌ {A = ℕ} 0 1 → ⊥
    no e = omega arith
all_from_2 (suc zero) o = subst From-2 (sym first_so) (omega arith, refl)
all_from_2 (suc (suc zero)) o = subst From-2 (sym second_so) (omega arith, refl)
all_from_2 (suc (suc (suc i))) o = absurd (not-suc-le-zero (le_of_suc-le-suc (le_of_suc-le-suc (le_of_suc-le-suc o.among))))

pub application_near : share_of 1 quarters * (11 - 2) + 16 ≡ 4 * granted_from (app_of quarters) 1 2 (told usual_period quarters eleven_ticks) + together quarters 1 (margin usual_period quarters)
unfolding Computed
application_near = refl

pub application_promised : MoreThan 4 18 22 3
unfolding Computed
application_promised = (own_share_lem usual_period quarters quarters_admitted eleven_ticks).application 1 2 1 (record { among = lit< tt; its = refl }) all_from_2
