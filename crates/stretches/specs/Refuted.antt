-- Just outside of what Item 8 says: each of its predicates refuses what misses it by one, on numbers and to either side, so that
-- none of them says less than its name.
use Rattle.std.specs.Prelude.{refl, false, List, [], ◌∷◌, ℕ, ℤ, pos}
use Rattle.std.proofs.Common.{ap, arith}
use Rattle.integers.specs.Parts.{up, dn}
use Rattle.lists.specs.Sum.{sum_by}
use Rattle.rules.specs.Limits.{usual_period}
use Rattle.rules.specs.Threads.{State, Contending, NonContending, amt}
use Rattle.rules.specs.Table.{Row, Table}
use Rattle.rules.specs.History.{Happening, granted, became_inactive, unreceived}
use Rattle.rules.specs.Stretches.{Activity, Over, lost_in, granted_in, share_to, total, app_of}
use Rattle.stretches.specs.Item8.{Even, Balanced, Holding, EachGrant, EachLoss, granted_by, lost_by}

-- Q 10; application 0 has threads of share 3 and 2, application 1 has one of share 5
abbrev row : ℕ → ℕ → Row
row a u = record { app = a; share = u; period = 10 }

abbrev table : Table
table = record { q = 10; threads = 3; rows = row 0 3 ∷ row 0 2 ∷ row 1 5 ∷ [] }

-- ---- "share times elapsed therefore equals Q times granted plus lost": 5 × 6 = 10 × 2 + 10 of the listing's stretch
abbrev over : ℕ → ℤ → ℕ → Over
over ticks lost to = record {
  application = 0;
  stretch = record { since = record { 0 = 0 }; granted = ticks; lost = amt lost };
  until = to;
  idle = false;
}

pub even : Even table (over 2 (pos 10) 6)
unfolding share_to
even _ = refl

pub lost_one_more : Even table (over 2 (pos 11) 6) → ⊥
unfolding share_to
lost_one_more h = let n = ap up (h refl) in omega arith

pub lost_one_less : Even table (over 2 (pos 9) 6) → ⊥
unfolding share_to
lost_one_less h = let n = ap up (h refl) in omega arith

pub granted_one_more : Even table (over 3 (pos 10) 6) → ⊥
unfolding share_to
granted_one_more h = let n = ap up (h refl) in omega arith

pub elapsed_one_more : Even table (over 2 (pos 10) 7) → ⊥
unfolding share_to
elapsed_one_more h = let n = ap up (h refl) in omega arith

-- .. and of one that lost nothing: 5 × 7 is not 10 × 3
pub uneven_without_loss : Even table (over 3 (pos 0) 7) → ⊥
unfolding share_to
uneven_without_loss h = let n = ap up (h refl) in omega arith

-- ---- "the sum over its active threads of W − u × t equals …": − 15 = 10 × 1 − 5 × 5 + 0 at 5, where thread 0 has W = 6 and thread 1,
-- non-contending, has W = 4; thread 2 is another application's
abbrev at_5 : ℤ → State
at_5 w = record {
  threads =
      record { app = 0; phase = Contending; share = 3; period = 10; jobs = 1; w = amt w; e = amt (pos 30) }
      ∷ record { app = 0; phase = NonContending; share = 2; period = 10; jobs = 0; w = amt (pos 4); e = amt (pos 24) }
      ∷ record { app = 1; phase = Contending; share = 5; period = 10; jobs = 1; w = amt (pos 40); e = amt (pos 60) }
      ∷ [];
  count = 3;
  had = 0;
  q = 10;
  clock = record { 0 = 5 };
  completed = false;
  closed = false;
}

abbrev standing : ℕ → ℕ → ℤ → Activity
standing n ticks lost = record { active = n; stretch = record { since = record { 0 = 0 }; granted = ticks; lost = amt lost } }

pub in_balance : Balanced usual_period table [] 0 (at_5 (pos 6)) (standing 2 1 (pos 0))
unfolding share_to total
in_balance _ = refl

pub ahead_by_one : Balanced usual_period table [] 0 (at_5 (pos 7)) (standing 2 1 (pos 0)) → ⊥
unfolding share_to total
ahead_by_one h = let n = ap dn (h (omega arith)) in omega arith

pub behind_by_one : Balanced usual_period table [] 0 (at_5 (pos 5)) (standing 2 1 (pos 0)) → ⊥
unfolding share_to total
behind_by_one h = let n = ap dn (h (omega arith)) in omega arith

pub one_grant_more : Balanced usual_period table [] 0 (at_5 (pos 6)) (standing 2 2 (pos 0)) → ⊥
unfolding share_to total
one_grant_more h = let n = ap dn (h (omega arith)) in omega arith

pub one_loss_more : Balanced usual_period table [] 0 (at_5 (pos 6)) (standing 1 1 (pos 1)) → ⊥
unfolding share_to total
one_loss_more h = let n = ap dn (h (omega arith)) in omega arith

-- ---- "holds while some thread of it is [active]": two threads are
pub one_active_less : Holding 0 (at_5 (pos 6)) (standing 1 1 (pos 0)) → ⊥
unfolding sum_by
one_active_less h = omega arith

pub one_active_more : Holding 0 (at_5 (pos 6)) (standing 3 1 (pos 0)) → ⊥
unfolding sum_by
one_active_more h = omega arith

-- ---- nothing is left out: two ticks and 10 lost in the stretch that is over, one tick and 1 lost in the one that holds
abbrev ticks : List Happening → List Happening
ticks hs = granted 0 0 (pos 30) ∷ granted 1 1 (pos 24) ∷ granted 2 2 (pos 60) ∷ hs

pub grant_missed : EachGrant (app_of table) 0 (over 2 (pos 10) 6 ∷ []) (standing 1 1 (pos 1)) (ticks (ticks [])) → ⊥
unfolding granted_by granted_in
grant_missed h = omega arith

pub grant_made_up : EachGrant (app_of table) 0 (over 2 (pos 10) 6 ∷ []) (standing 1 1 (pos 1)) (ticks []) → ⊥
unfolding granted_by granted_in
grant_made_up h = omega arith

abbrev losses : ℕ → List Happening
losses n = became_inactive 1 6 (pos 10) unreceived ∷ became_inactive 0 9 (pos n) unreceived ∷ became_inactive 2 9 (pos 7) unreceived ∷ []

pub loss_missed : EachLoss (app_of table) 0 (over 2 (pos 10) 6 ∷ []) (standing 1 1 (pos 1)) (losses 2) → ⊥
unfolding lost_by lost_in
loss_missed h = let n = ap up h in omega arith

pub loss_made_up : EachLoss (app_of table) 0 (over 2 (pos 10) 6 ∷ []) (standing 1 1 (pos 1)) (losses 0) → ⊥
unfolding lost_by lost_in
loss_made_up h = let n = ap up h in omega arith
