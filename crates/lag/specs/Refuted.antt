-- What is just outside of the lag bound and of the own share: literal states and histories, off by one, that do not satisfy them. So
-- neither can say less than it does, and none of their premises can ask for more.
use Rattle.std.specs.Prelude.{◌≡◌, refl, false, List, [], ◌∷◌, ℕ, zero, suc, ◌≤◌, ℤ, pos, negsuc, replicate}
use Rattle.std.proofs.Common.{not-suc-le-zero, le_of_suc-le-suc, arith, lit<, lit≤}
use Rattle.std.specs.Int.Signed.{le_z_yes}
use Rattle.rules.specs.Limits.{nobody, usual_period}
use Rattle.rules.specs.Threads.{Thread, State, Phase, Inactive, Contending, NonContending, blank, amt}
use Rattle.rules.specs.Table.{Row, Table}
use Rattle.rules.specs.History.{Happening, left, granted, became_active, became_inactive}
use Rattle.lag.specs.Lag.{Behind, DueBy, EachBehind, Until, LagBound}
use Rattle.lag.specs.Own.{MoreThan, AllActive, AllFrom, OwnShare}
use Rattle.lag.specs.Computed.{Computed}

abbrev row : ℕ → ℕ → ℕ → Row
row a u p = record { app = a; share = u; period = p }

-- ---- the lag bound, of application 15, which has 5 of 8; the others have 3
abbrev eighths : Table
eighths = record { q = 8; threads = 5; rows = row 0 3 3 ∷ row 15 2 4 ∷ row 15 1 8 ∷ row 15 1 8 ∷ row 15 1 8 ∷ [] }

abbrev thread : Phase → ℕ → ℕ → ℕ → ℤ → ℤ → Thread
thread f a u p w e = record { app = a; phase = f; share = u; period = p; jobs = 1; w = amt w; e = amt e }

abbrev state : ℕ → ℕ → List Thread → State
state n now xs = record { threads = xs; count = n; had = nobody; q = 8; clock = record { 0 = now }; completed = false; closed = false }

-- at 10: thread 1 of the application waits, with W = w and E = e; thread 2 waits, is not behind and is due late; thread 3, with
-- W = v, and thread 4 do not wait; the others, thread 0 and one that the table does not have, are behind and due late
abbrev at_10 : ℤ → ℤ → ℤ → State
at_10 w e v = state 5 10 (
    thread Contending 0 3 3 (negsuc 99) (pos 900)
    ∷ thread Contending 15 2 4 w e
    ∷ thread Contending 15 1 8 (pos 10) (pos 900)
    ∷ thread NonContending 15 1 8 v (pos 900)
    ∷ thread Inactive 15 1 8 (pos 0) (pos 900)
    ∷ thread Contending 15 1 8 (negsuc 99) (pos 900)
    ∷ replicate 58 blank)

-- so that thread 1 is the only one of it that may wait and be behind
one_behind : (P : Thread → Type 0) (w e v : ℤ) → (Behind 10 (thread Contending 15 2 4 w e) → P (thread Contending 15 2 4 w e)) → EachBehind 15 (at_10 w e v) P
one_behind P w e v p zero h o c b = absurd (no o)
  where
    no : ◌≡◌ {A = ℕ} 0 15 → ⊥
    no e = omega arith
one_behind P w e v p (suc zero) h o c b = p b
one_behind P w e v p (suc (suc zero)) h o c b = absurd b.lt
one_behind P w e v p (suc (suc (suc zero))) h o c b = absurd c
one_behind P w e v p (suc (suc (suc (suc zero)))) h o c b = absurd c
one_behind P w e v p (suc (suc (suc (suc (suc i))))) h o c b = absurd (not-suc-le-zero (le_of_suc-le-suc (le_of_suc-le-suc (le_of_suc-le-suc (le_of_suc-le-suc (le_of_suc-le-suc h))))))

-- by 8, that is 20 − 15 and 10 − 7, where 3 × (25 / 2 − 10) is 7.5
until_25_2 : Until 15 (at_10 (pos 15) (pos 25) (pos 7)) 2 25
until_25_2 = record { whole = lit≤ tt; ahead = lit≤ tt; latest = one_behind (DueBy 2 25) (pos 15) (pos 25) (pos 7) (λ _. le_z_yes tt) }

pub lags_by_more : (hs : List Happening) → LagBound eighths (at_10 (pos 15) (pos 25) (pos 7)) hs → ⊥
unfolding Computed
lags_by_more hs b = (b.lag 15 2 25 until_25_2).le

-- by 1, where the latest deadline is now
until_10 : Until 15 (at_10 (pos 19) (pos 20) (pos 10)) 1 10
until_10 = record { whole = lit≤ tt; ahead = lit≤ tt; latest = one_behind (DueBy 1 10) (pos 19) (pos 20) (pos 10) (λ _. le_z_yes tt) }

pub lags_at_the_deadline : (hs : List Happening) → LagBound eighths (at_10 (pos 19) (pos 20) (pos 10)) hs → ⊥
unfolding Computed
lags_at_the_deadline hs b = (b.lag 15 1 10 until_10).le

-- by 1, where no thread of it that waits is behind
pub lags_with_none_behind : (hs : List Happening) → LagBound eighths (at_10 (pos 20) (pos 900) (pos 9)) hs → ⊥
unfolding Computed
lags_with_none_behind hs b = (b.none_behind 15 (one_behind (λ _. ⊥) (pos 20) (pos 900) (pos 9) (λ b. b.lt))).le

-- a stretch from 3 on with 3 ticks and 3 lost: 2 × 5 × 7 is 1 above 2 × (8 × 3 + 3) + 3 × (25 − 2 × 10); an earlier stretch counts for nothing
abbrev lost_3 : List Happening
lost_3 =
    became_active 1 0
    ∷ granted 1 0 (pos 8)
    ∷ became_inactive 1 2 (pos 5) left
    ∷ became_active 1 3
    ∷ became_active 4 3
    ∷ granted 1 3 (pos 14)
    ∷ granted 0 4 (pos 900)
    ∷ granted 4 5 (pos 11)
    ∷ became_inactive 4 6 (pos 3) left
    ∷ granted 1 6 (pos 25)
    ∷ []

pub has_less_capacity : LagBound eighths (at_10 (pos 15) (pos 25) (pos 7)) lost_3 → ⊥
unfolding Computed
has_less_capacity b = (b.capacity 15 2 25 (lit< tt) until_25_2 (lit< tt)).le

-- ---- the own share, of threads 1 and 2, with 2 and 1 of 8; the margin of each is 16
abbrev three : Table
three = record { q = 8; threads = 3; rows = row 0 3 3 ∷ row 15 2 4 ∷ row 15 1 8 ∷ [] }

-- both wait at the moment now
abbrev both_wait : ℕ → State
both_wait now = state 3 now (thread Contending 0 3 3 (pos 0) (pos 900) ∷ thread Contending 15 2 4 (pos 0) (pos 900) ∷ thread Contending 15 1 8 (pos 0) (pos 900) ∷ replicate 61 blank)

-- thread 1 active since 6 and thread 2 since m, with a tick each; an earlier tick of each counts for nothing
abbrev since_6_and : ℕ → List Happening
since_6_and m =
    became_active 1 2
    ∷ became_active 2 2
    ∷ granted 1 2 (pos 12)
    ∷ granted 2 3 (pos 10)
    ∷ became_inactive 1 5 (pos 2) left
    ∷ became_inactive 2 5 (pos 1) left
    ∷ became_active 1 6
    ∷ granted 1 6 (pos 20)
    ∷ granted 0 7 (pos 900)
    ∷ became_active 2 m
    ∷ granted 2 m (pos 20)
    ∷ []

-- thread 2, active for 24 ticks: 1 × 24 is not less than 8 × 1 + 16
pub thread_has_less : OwnShare usual_period three (both_wait 30) (since_6_and 6) → ⊥
unfolding Computed
thread_has_less o = no (o.thread 2 (lit< tt) (lit< tt))
  where
    no : MoreThan 8 24 16 1 → ⊥
    no h = omega arith

-- the application, with both since 6, in 16 ticks: 3 × 16 is not less than 8 × 2 + 32
all_from_6 : AllFrom three (since_6_and 6) 15 6
unfolding Computed
all_from_6 zero o = absurd (no o.its)
  where
    no : ◌≡◌ {A = ℕ} 0 15 → ⊥
    no e = omega arith
all_from_6 (suc zero) o = (lit< tt, refl)
all_from_6 (suc (suc zero)) o = (lit< tt, refl)
all_from_6 (suc (suc (suc i))) o = absurd (not-suc-le-zero (le_of_suc-le-suc (le_of_suc-le-suc (le_of_suc-le-suc o.among))))

pub application_has_less : OwnShare usual_period three (both_wait 22) (since_6_and 6) → ⊥
unfolding Computed
application_has_less o = no (o.application 15 6 2 (record { among = lit< tt; its = refl }) all_from_6)
  where
    no : MoreThan 8 48 32 2 → ⊥
    no h = omega arith

-- .. and with thread 2 since 12, at 24: 2 × 18 + 1 × 12 is not less than 8 × 2 + 32
all_active_at_12 : AllActive three (since_6_and 12) 15
unfolding Computed
all_active_at_12 zero o = absurd (no o.its)
  where
    no : ◌≡◌ {A = ℕ} 0 15 → ⊥
    no e = omega arith
all_active_at_12 (suc zero) o = lit< tt
all_active_at_12 (suc (suc zero)) o = lit< tt
all_active_at_12 (suc (suc (suc i))) o = absurd (not-suc-le-zero (le_of_suc-le-suc (le_of_suc-le-suc (le_of_suc-le-suc o.among))))

pub sum_is_less : OwnShare usual_period three (both_wait 24) (since_6_and 12) → ⊥
unfolding Computed
sum_is_less o = no (o.from_each_beginning 15 2 (record { among = lit< tt; its = refl }) all_active_at_12)
  where
    no : MoreThan 8 48 32 2 → ⊥
    no h = omega arith

-- ---- a stretch of a thread that is not its own
-- it holds, and the thread is inactive; it holds twice, or not, and the thread waits
pub holds_without_the_thread : OwnShare usual_period three (state 3 30 (replicate 64 blank)) (since_6_and 6) → ⊥
unfolding Computed
holds_without_the_thread o = no (o.holds 2 (lit< tt))
  where
    no : ◌≡◌ {A = ℕ} 1 0 → ⊥
    no e = omega arith

pub holds_twice : OwnShare usual_period three (both_wait 30) (became_active 2 6 ∷ since_6_and 6) → ⊥
unfolding Computed
holds_twice o = no (o.holds 2 (lit< tt))
  where
    no : ◌≡◌ {A = ℕ} 2 1 → ⊥
    no e = omega arith

pub waits_without_it : OwnShare usual_period three (both_wait 30) [] → ⊥
unfolding Computed
waits_without_it o = no (o.holds 2 (lit< tt))
  where
    no : ◌≡◌ {A = ℕ} 0 1 → ⊥
    no e = omega arith

-- it begins a tick later than now
pub begins_later : OwnShare usual_period three (both_wait 5) (since_6_and 6) → ⊥
unfolding Computed
begins_later o = no (o.begun 2 (lit< tt) (lit< tt))
  where
    no : 6 ≤ 5 → ⊥
    no h = omega arith

-- it has a tick of before its beginning, or lacks one from then on
pub has_an_earlier_tick : OwnShare usual_period three (both_wait 30) (became_active 2 6 ∷ granted 2 5 (pos 20) ∷ []) → ⊥
unfolding Computed
has_an_earlier_tick o = no (o.counted 2 (lit< tt) (lit< tt))
  where
    no : ◌≡◌ {A = ℕ} 1 0 → ⊥
    no e = omega arith

pub lacks_a_tick : OwnShare usual_period three (both_wait 30) (granted 2 6 (pos 20) ∷ became_active 2 6 ∷ []) → ⊥
unfolding Computed
lacks_a_tick o = no (o.counted 2 (lit< tt) (lit< tt))
  where
    no : ◌≡◌ {A = ℕ} 0 1 → ⊥
    no e = omega arith
