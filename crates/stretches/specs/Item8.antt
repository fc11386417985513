-- Document 02, Item 8, in its words, over the history:
--
--   "Take a stretch without idle ticks that begins when an application's first thread becomes active and holds while some thread
--   of it is. Show that at every moment of it after leaving, before arrivals, the sum over its active threads of W − u × t equals
--   Q times the ticks granted to the application, minus its total share times the ticks elapsed, plus the capacity lost, added up
--   from the history as in Item 5. When a stretch ends without an idle tick, share times elapsed therefore equals Q times granted
--   plus lost."
--
-- This file says it, as `Promised` at its end; Proved.antt has `item_8`, which proves it. It holds after every call, so between
-- any two events, and not only after leaving. Duration.antt has, beside it, that every stretch that is over lasted at least one tick.
use Rattle.std.specs.Prelude.{◌≡◌, false, cond, List, [], ◌∷◌, ◌++◌, ℕ, ◌+◌, ◌*◌, ◌<◌, eqb, ℤ, pos, ◌+ℤ◌, take}
use Rattle.lists.specs.Sum.{sum_by}
use Rattle.lists.specs.All.{All}
use Rattle.rules.specs.Limits.{apps}
use Rattle.rules.specs.Threads.{Thread, State, active_in}
use Rattle.rules.specs.Table.{Table, Done, table_answer, start}
use Rattle.rules.specs.Leaving.{gone}
use Rattle.rules.specs.Calls.{Call, after}
use Rattle.rules.specs.History.{Happening, leavings, history}
use Rattle.rules.specs.Stretches.{Activity, Over, all_quiet, activity_at, activities, stretches, lost_in, granted_in, elapsed, app_of, share_of, ahead_of, balance}

-- how many threads of the application a are active
abbrev pub one : ℕ → Thread → ℕ
one a x = cond (active_in a x) 1 0

abbrev pub actives_of : ℕ → State → ℕ
actives_of a s = sum_by (one a) (take s.count s.threads)

-- "share times elapsed therefore equals Q times granted plus lost", of a stretch that no idle tick ended
abbrev pub Even : Table → Over → Type 0
Even t o =
    o.idle ≡ false
    → pos (share_of o.application t * elapsed o.until o.stretch) ≡ pos (t.q * o.stretch.granted) +ℤ o.stretch.lost.0

-- what the stretches of the application a were granted and lost, together
unfoldable pub granted_by : ℕ → List Over → ℕ
granted_by a [] = 0
granted_by a (o ∷ os) = cond (eqb o.application a) o.stretch.granted 0 + granted_by a os

unfoldable pub lost_by : ℕ → List Over → ℤ
lost_by a [] = pos 0
lost_by a (o ∷ os) = cond (eqb o.application a) o.stretch.lost.0 (pos 0) +ℤ lost_by a os

-- .. and the stretch that holds, if one does
abbrev pub granted_now : Activity → ℕ
granted_now c = cond (eqb c.active 0) 0 c.stretch.granted

abbrev pub lost_now : Activity → ℤ
lost_now c = cond (eqb c.active 0) (pos 0) c.stretch.lost.0

-- "holds while some thread of it is [active]": where the application a stands has its active threads in the state s
abbrev pub Holding : ℕ → State → Activity → Type 0
Holding a s c = c.active ≡ actives_of a s

-- nothing is left out: the stretches os that are over and the one that holds in c have every granted tick of the history hs
abbrev pub EachGrant : (ℕ → ℕ) → ℕ → List Over → Activity → List Happening → Type 0
EachGrant app a os c hs = granted_by a os + granted_now c ≡ granted_in app a hs

-- .. and every loss
abbrev pub EachLoss : (ℕ → ℕ) → ℕ → List Over → Activity → List Happening → Type 0
EachLoss app a os c hs = lost_by a os +ℤ lost_now c ≡ lost_in app a hs

-- a table and a sequence of calls from its fresh start
module _ (usual : ℕ) (t : Table) (cs : List Call) where
  abbrev pub now : State
  now = after (start usual t) cs

  abbrev pub past : List Happening
  past = history (start usual t) cs

  -- where the application a stands after a history, and the stretches that ended in it
  abbrev pub standing : ℕ → List Happening → Activity
  standing a hs = activity_at (activities (app_of t) all_quiet hs) a

  abbrev pub overs : List Over
  overs = stretches (app_of t) all_quiet past

  -- "the sum over its active threads of W − u × t equals …" in the state s, while the stretch holds
  abbrev pub Balanced : ℕ → State → Activity → Type 0
  Balanced a s c = 0 < c.active → ahead_of a s ≡ balance t.q (share_of a t) s.clock.0 c.stretch

  pub record Item8 : Type 0 where
    pub holds : (a : ℕ) → a < apps → Holding a now (standing a past)
    -- between any two events, and "after leaving, before arrivals"
    pub between : (a : ℕ) → a < apps → Balanced a now (standing a past)
    pub after_leaving : (a : ℕ) → a < apps → Balanced a (gone now) (standing a (past ++ leavings now))
    pub ended : All (Even t) overs
    pub all_granted : (a : ℕ) → a < apps → EachGrant (app_of t) a overs (standing a past) past
    pub all_lost : (a : ℕ) → a < apps → EachLoss (app_of t) a overs (standing a past) past

-- for every admitted table and every sequence of calls from a fresh start, refused ones among them
abbrev pub Promised : Type 0
Promised = (usual : ℕ) (t : Table) → table_answer usual t ≡ Done → (cs : List Call) → Item8 usual t cs
