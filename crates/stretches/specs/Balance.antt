-- The equation of Item 8 in the integers that it is stated in.
use Rattle.std.specs.Prelude.{◌≡◌, refl, Bool, true, false, cond, List, [], ◌∷◌, ℕ, ◌+◌, ◌*◌, ◌<◌, pos, ◌-ℤ◌, take}
use Rattle.std.proofs.Common.{arith}
use Rattle.integers.specs.Parts.{up, dn, add_parts, sub_parts, same_parts}
use Rattle.lists.specs.Sum.{sum_by}
use Rattle.rules.specs.Limits.{apps}
use Rattle.rules.specs.Threads.{Thread, State, scaled, active_in}
use Rattle.rules.specs.Table.{Table}
use Rattle.rules.specs.Stretches.{Activity, activity_at, ahead_in, total, ahead_of, balance, elapsed, share_of}
use Rattle.stretches.specs.Standing.{ups, downs, StandsIn, Kept}

-- one thread
ahead_parts : (a now : ℕ) (x : Thread) → up (ahead_in a now x) + downs a now x ≡ ups a x + dn (ahead_in a now x)
unfolding ups downs
ahead_parts a now x = go (active_in a x)
  where
    go : (b : Bool) → up (cond b (x.w.0 -ℤ scaled x now) (pos 0)) + cond b (dn x.w.0 + x.share * now) 0 ≡ cond b (up x.w.0) 0 + dn (cond b (x.w.0 -ℤ scaled x now) (pos 0))
    go true = let d = sub_parts x.w.0 (scaled x now) in omega arith
    go false = refl

-- all threads
total_parts : (a now : ℕ) (xs : List Thread) → up (total (ahead_in a now) xs) + sum_by (downs a now) xs ≡ sum_by (ups a) xs + dn (total (ahead_in a now) xs)
unfolding total sum_by
total_parts a now [] = refl
total_parts a now (x ∷ xs) = omega (arith, ahead_parts a now x, total_parts a now xs, add_parts (ahead_in a now x) (total (ahead_in a now) xs))

pub balanced : {t : Table} (s : State) {cs : List Activity} → Kept t s cs → (a : ℕ) → a < apps → 0 < (activity_at cs a).active
    → ahead_of a s ≡ balance t.q (share_of a t) s.clock.0 (activity_at cs a).stretch
balanced {t} s {cs} k a l some = rw (← k.tied.q_same) (same_parts _ _ (omega (
  arith,
  st.equal (omega (arith, st.active)),
  st.whole,
  total_parts a s.clock.0 (take s.count s.threads),
  sub_parts (pos given) (pos capacity),
  add_parts (pos given -ℤ pos capacity) c.stretch.lost.0,
)))
  where
    c : Activity
    c = activity_at cs a

    st : StandsIn t s.q s.count s.clock.0 s.threads a c
    st = k.stands a l

    given : ℕ
    given = s.q * c.stretch.granted

    capacity : ℕ
    capacity = share_of a t * elapsed s.clock.0 c.stretch
