-- Item 8 a second time, of a whole run and not stretch by stretch, stated apart from Item8.antt's record: what an application's
-- share comes to while it has an active thread is what it was granted and what it lost, and how far its threads are ahead.
--
-- `Promised` at the end is what is claimed. Derivation.antt derives it from Item8's `Promised` alone, and needs every part of it.
use Rattle.std.specs.Prelude.{◌≡◌, false, cond, List, [], ◌∷◌, ◌++◌, ℕ, ◌+◌, ◌*◌, ◌-◌, ◌<◌, eqb, pos, ◌+ℤ◌}
use Rattle.lists.specs.All.{All}
use Rattle.rules.specs.Limits.{apps}
use Rattle.rules.specs.Threads.{State}
use Rattle.rules.specs.Table.{Table, Done, table_answer, start}
use Rattle.rules.specs.Leaving.{gone}
use Rattle.rules.specs.Calls.{Call, after}
use Rattle.rules.specs.History.{Happening, leavings, history}
use Rattle.rules.specs.Stretches.{Activity, Over, all_quiet, activity_at, activities, stretches, lost_in, granted_in, app_of, share_of, ahead_of}
use Rattle.stretches.specs.Item8.{actives_of}

-- the ticks that the stretches of the application a lasted that are over
unfoldable pub lasted : ℕ → List Over → ℕ
lasted a [] = 0
lasted a (o ∷ os) = cond (eqb o.application a) (o.until - o.stretch.since.0) 0 + lasted a os

-- no idle tick cut one of them short
abbrev pub Uncut : ℕ → List Over → Type 0
Uncut a os = All (λ (o : Over). o.application ≡ a → o.idle ≡ false) os

module _ (usual : ℕ) (t : Table) (cs : List Call) where
  abbrev pub now : State
  now = after (start usual t) cs

  abbrev pub past : List Happening
  past = history (start usual t) cs

  abbrev pub overs : List Over
  overs = stretches (app_of t) all_quiet past

  -- the stretch of the application a that holds after a history, if one does
  abbrev pub holding : ℕ → List Happening → Activity
  holding a hs = activity_at (activities (app_of t) all_quiet hs) a

  -- its share, for the ticks up to now: all that lasted and n more, with what its threads are ahead in the state s
  abbrev pub Settles : ℕ → ℕ → State → Type 0
  Settles a n s = pos (share_of a t * (lasted a overs + n)) +ℤ ahead_of a s ≡ pos (t.q * granted_in (app_of t) a past) +ℤ lost_in (app_of t) a past

  -- how long the stretch of a that holds has lasted
  abbrev pub lasting : ℕ → ℕ
  lasting a = now.clock.0 - (holding a past).stretch.since.0

  pub record Whole : Type 0 where
    pub at_rest : (a : ℕ) → a < apps → Uncut a overs → actives_of a now ≡ 0 → Settles a 0 now
    pub at_work : (a : ℕ) → a < apps → Uncut a overs → 0 < actives_of a now → Settles a (lasting a) now
    -- and after leaving, of the stretch that holds then
    pub having_left : (a : ℕ) → a < apps → 0 < (holding a (past ++ leavings now)).active
        → pos (share_of a t * ((gone now).clock.0 - (holding a (past ++ leavings now)).stretch.since.0)) +ℤ ahead_of a (gone now)
        ≡ pos (t.q * (holding a (past ++ leavings now)).stretch.granted) +ℤ (holding a (past ++ leavings now)).stretch.lost.0

-- for every admitted table and every sequence of calls from a fresh start, refused ones among them
abbrev pub Promised : Type 0
Promised = (usual : ℕ) (t : Table) → table_answer usual t ≡ Done → (cs : List Call) → Whole usual t cs
