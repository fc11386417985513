-- A stronger sentence on an application's own share is not promised, and does not hold of these rules:
--
--   "An application has had, of any n ticks in which all its threads were active, more than the sum over its threads of
--   u × n / Q − 1 − u × P / Q."
--
-- Below are a table and calls under which application 0, whose threads are both active from 20 on, has 2 of the 16 ticks from 20 to
-- 35, where the sentence says more than 3. Thread 0 was alone up to 20 and had every tick, so that it is far ahead of its own share
-- then, and waits. traces/own-share-two-beginnings.trace is the same with 1000 for 20, up to 2000.
use Rattle.std.specs.Prelude.{◌≡◌, refl, List, [], ◌∷◌, ℕ, zero, suc, ◌*◌, ◌-◌, ◌≤◌, ◌<◌, pos, replicate}
use Rattle.std.proofs.Common.{sym, ap, subst, not-suc-le-zero, le_of_suc-le-suc, arith, lit<, lit≤}
use Rattle.rules.specs.Limits.{usual_period}
use Rattle.rules.specs.Threads.{amt}
use Rattle.rules.specs.Table.{Table, Done, table_answer}
use Rattle.rules.specs.Calls.{Call, arrive, run}
use Rattle.rules.specs.History.{Happening}
use Rattle.rules.specs.Stretches.{Activity, app_of, share_of}
use Rattle.lag.specs.Lag.{left, told}
use Rattle.lag.specs.Own.{granted_from, MoreThan, own, began_at, margin, together, Of}
use Rattle.lag.specs.OwnProved.{own_share_lem}
use Rattle.lag.specs.Computed.{Computed}

-- every thread of the application a is active, and was at the moment m
abbrev AllSince : Table → List Happening → ℕ → ℕ → Type 0
AllSince t hs a m = (i : ℕ) → Of t a i → (0 < (own hs i).active) × (began_at hs i ≤ m)

-- the sentence, of the ticks since any such moment
abbrev pub AnyTicks : Type 0
AnyTicks = (usual : ℕ) (t : Table) → table_answer usual t ≡ Done → (cs : List Call)
    → (a m i : ℕ) → Of t a i → AllSince t (told usual t cs) a m
    → MoreThan t.q (share_of a t * ((left usual t cs).clock.0 - m)) (together t a (margin usual t))
    (granted_from (app_of t) a m (told usual t cs))

-- Q 10; application, share and period of three threads
abbrev table : Table
table = record {
  q = 10;
  threads = 3;
  rows = record { app = 0; share = 4; period = 5 } ∷ record { app = 0; share = 1; period = 10 } ∷ record { app = 1; share = 5; period = 4 } ∷ [];
}

pub admitted : table_answer usual_period table ≡ Done
unfolding Computed
admitted = refl

-- arrivals of thread 0 at 0 and of threads 1 and 2 at 20; the ticks up to 36
abbrev up_to_36 : List Call
up_to_36 = arrive 0 ∷ run 20 (replicate 20 0) ∷ arrive 1 ∷ arrive 2 ∷ run 36 (replicate 16 0) ∷ []

abbrev hs : List Happening
hs = told usual_period table up_to_36

-- thread 0 is active since 0 and thread 1 since 20
pub first_so : own hs 0 ≡ record { active = 1; stretch = record { since = record { 0 = 0 }; granted = 20; lost = amt (pos 0) } }
unfolding Computed
first_so = refl

pub second_so : own hs 1 ≡ record { active = 1; stretch = record { since = record { 0 = 20 }; granted = 2; lost = amt (pos 0) } }
unfolding Computed
second_so = refl

active_from : (c : Activity) → 0 < c.active → c.stretch.since.0 ≤ 20 → (i : ℕ) → own hs i ≡ c
    → (0 < (own hs i).active) × (began_at hs i ≤ 20)
active_from c p l i e = subst (λ (d : Activity). (0 < d.active) × (d.stretch.since.0 ≤ 20)) (sym e) (p, l)

both_active : AllSince table hs 0 20
both_active zero o = active_from _ (lit< tt) (lit≤ tt) 0 first_so
both_active (suc zero) o = active_from _ (lit< tt) (lit≤ tt) 1 second_so
both_active (suc (suc zero)) o = absurd (no o.its)
  where
    no : ◌≡◌ {A = ℕ} 1 0 → ⊥
    no e = omega arith
both_active (suc (suc (suc i))) o = absurd (not-suc-le-zero (le_of_suc-le-suc (le_of_suc-le-suc (le_of_suc-le-suc o.among))))

-- the moment is 36, application 0 had 2 ticks from 20 on, and 5 × 16 is not less than 10 × 2 + (10 + 4 × 5) + (10 + 1 × 10)
pub moment_36 : (left usual_period table up_to_36).clock.0 ≡ 36
unfolding Computed
moment_36 = refl

pub had_2 : granted_from (app_of table) 0 20 hs ≡ 2
unfolding Computed
had_2 = refl

pub due_80 : share_of 0 table * (36 - 20) ≡ 80
unfolding Computed
due_80 = refl

pub margin_50 : together table 0 (margin usual_period table) ≡ 50
unfolding Computed
margin_50 = refl

pub not_of_any_ticks : AnyTicks → ⊥
not_of_any_ticks any = omega (
  arith,
  any usual_period table admitted up_to_36 0 20 0 (record { among = lit< tt; its = refl }) both_active,
  ap (λ (m : ℕ). share_of 0 table * (m - 20)) moment_36,
  had_2,
  due_80,
  margin_50,
)

-- .. while it is less than 10 × (20 + 2) + 50 with the ticks of each thread counted from its own beginning: 4 × 36 + 1 × 16
pub promised_160 : MoreThan 10 160 50 22
unfolding Computed
promised_160 = (own_share_lem usual_period table admitted up_to_36).from_each_beginning 0 0 (record { among = lit< tt; its = refl }) (λ i o. (both_active i o).0)
