-- What an application is promised in time, over Item 8's stretches:
--
--   "An application never lags its share, losses apart, by more than the other applications' share of the time left until the
--   latest deadline of a thread of it that waits and is behind. If none is behind, not at all."
--
-- This file says it, as `Promised` at its end; LagProved.antt has `lag_bound`, which proves it. Deadlines are fractions E / u, so
-- the latest one is bounded by a fraction e / k. The other applications are in it by their share alone: what they do is any calls.
use Rattle.std.specs.Prelude.{◌≡◌, List, ◌++◌, ℕ, ◌*◌, ◌-◌, ◌≤◌, ◌<◌, T, ℤ, pos, ◌+ℤ◌, ◌*ℤ◌, ◌≤ℤ◌, ◌<ℤ◌}
use Rattle.rules.specs.Limits.{apps}
use Rattle.rules.specs.Threads.{Thread, State, at, scaled, contends}
use Rattle.rules.specs.Table.{Table, Done, shares_to, table_answer}
use Rattle.rules.specs.Leaving.{gone}
use Rattle.rules.specs.Calls.{Call}
use Rattle.rules.specs.History.{Happening, leavings}
use Rattle.rules.specs.Stretches.{Stretch, Activity, all_quiet, activity_at, activities, elapsed, app_of, share_of, ahead_of}
use Rattle.stretches.specs.Item8.{now, past}

-- "behind": W < u × t
abbrev pub Behind : ℕ → Thread → Type 0
Behind t x = x.w.0 <ℤ scaled x t

-- its deadline E / u is not after e / k
abbrev pub DueBy : ℕ → ℕ → Thread → Type 0
DueBy k e x = (x.e.0 *ℤ pos k) ≤ℤ pos (e * x.share)

-- "a thread of it that waits and is behind": what P says of each such thread of the application a in the state s
abbrev pub EachBehind : ℕ → State → (Thread → Type 0) → Type 0
EachBehind a s P = (i : ℕ) → i < s.count → (at s.threads i).app ≡ a → T (contends (at s.threads i))
    → Behind s.clock.0 (at s.threads i) → P (at s.threads i)

-- e / k is not past in the state s, and no deadline of a thread of the application a that waits and is behind is after it
pub record Until (a : ℕ) (s : State) (k e : ℕ) : Type 0 where
  pub whole : 1 ≤ k
  pub ahead : k * s.clock.0 ≤ e
  pub latest : EachBehind a s (DueBy k e)

-- "the other applications' share": all shares but those of a
abbrev pub others_of : ℕ → Table → ℕ
others_of a t = shares_to t.rows t.threads - share_of a t

-- ---- the bounds, at the moment t, with the fraction e / k for the latest deadline and o for the other applications' share
-- "never lags its share, losses apart, by more than": z, what the threads of the application are ahead, is at least − o × (e / k − t)
abbrev pub LagsByNoMore : (o k e t : ℕ) → ℤ → Type 0
LagsByNoMore o k e t z = pos 0 ≤ℤ (pos k *ℤ z +ℤ pos (o * (e - k * t)))

-- "not at all"
abbrev pub LagsNotAtAll : ℤ → Type 0
LagsNotAtAll z = pos 0 ≤ℤ z

-- k × U_A × elapsed ≤ k × (Q × granted + lost) + o × (e − k × t), of a stretch of an application whose shares are u
abbrev pub Capacity : (q u o k e t : ℕ) → Stretch → Type 0
Capacity q u o k e t c = pos (k * (u * elapsed t c)) ≤ℤ (pos k *ℤ (pos (q * c.granted) +ℤ c.lost.0) +ℤ pos (o * (e - k * t)))

-- where the application a stands after a history
abbrev pub stands : Table → List Happening → ℕ → Activity
stands t hs a = activity_at (activities (app_of t) all_quiet hs) a

-- ---- a table, a state of it after leaving, and the history that led there
module _ (t : Table) (s : State) (hs : List Happening) where
  pub record LagBound : Type 0 where
    pub lag : (a k e : ℕ) → Until a s k e → LagsByNoMore (others_of a t) k e s.clock.0 (ahead_of a s)
    -- "If none is behind, not at all."
    pub none_behind : (a : ℕ) → EachBehind a s (λ _. ⊥) → LagsNotAtAll (ahead_of a s)
    -- .. with Item 8's equation, while a stretch holds
    pub capacity : (a k e : ℕ) → a < apps → Until a s k e → 0 < (stands t hs a).active
        → Capacity t.q (share_of a t) (others_of a t) k e s.clock.0 (stands t hs a).stretch

-- ---- a table and a sequence of calls from its fresh start: after leaving, before arrivals
module _ (usual : ℕ) (t : Table) (cs : List Call) where
  abbrev pub left : State
  left = gone (now usual t cs)

  abbrev pub told : List Happening
  told = past usual t cs ++ leavings (now usual t cs)

-- for every admitted table and every sequence of calls from a fresh start, refused ones among them
abbrev pub Promised : Type 0
Promised = (usual : ℕ) (t : Table) → table_answer usual t ≡ Done → (cs : List Call)
    → LagBound t (left usual t cs) (told usual t cs)
