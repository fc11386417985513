-- Document 02, Item 8, "Where an application's capacity went": the stretches of the applications, read off the history, and the
-- totals of Item 5 that they are held to.
use Rattle.std.specs.Prelude.{Bool, true, false, cond, List, [], ◌∷◌, ◌++◌, ℕ, zero, suc, ◌+◌, ◌*◌, ◌-◌, eqb, ℤ, pos, ◌+ℤ◌, ◌-ℤ◌, length, get_or, set, take, replicate}
use Rattle.lists.specs.MapTo.{map_to}
use Rattle.rules.specs.Limits.{apps}
use Rattle.rules.specs.Threads.{Thread, State, amt, scaled, active_in}
use Rattle.rules.specs.Table.{Row, Table, row_at}
use Rattle.rules.specs.History.{Fate, left, received, unreceived, Happening, completed, arrived, dropped_to_head, granted, idle_tick, became_active, became_inactive}
pub use Rattle.quantities.specs.declared.Stretch.{Stretch}
pub use Rattle.quantities.specs.declared.Activity.{Activity}

-- ---- capacity lost, as Item 5 has it
-- "Lost is u × t − W, added at each leaving and each completion to inactive without a receiver.": of z, by what becomes of it
abbrev pub lost_as : Fate → ℤ → ℤ
lost_as left z = z
lost_as (received k) z = pos 0
lost_as unreceived z = z

-- the capacity that the application a lost in a history; `app` has the application of each thread
unfoldable pub lost_in : (ℕ → ℕ) → ℕ → List Happening → ℤ
lost_in app a [] = pos 0
lost_in app a (completed i t ∷ hs) = lost_in app a hs
lost_in app a (arrived i t ∷ hs) = lost_in app a hs
lost_in app a (dropped_to_head i t ∷ hs) = lost_in app a hs
lost_in app a (granted i t e ∷ hs) = lost_in app a hs
lost_in app a (idle_tick t ∷ hs) = lost_in app a hs
lost_in app a (became_active i t ∷ hs) = lost_in app a hs
lost_in app a (became_inactive i t z f ∷ hs) = cond (eqb (app i) a) (lost_as f z) (pos 0) +ℤ lost_in app a hs

-- the ticks that it was granted
unfoldable pub granted_in : (ℕ → ℕ) → ℕ → List Happening → ℕ
granted_in app a [] = 0
granted_in app a (completed i t ∷ hs) = granted_in app a hs
granted_in app a (arrived i t ∷ hs) = granted_in app a hs
granted_in app a (dropped_to_head i t ∷ hs) = granted_in app a hs
granted_in app a (granted i t e ∷ hs) = cond (eqb (app i) a) 1 0 + granted_in app a hs
granted_in app a (idle_tick t ∷ hs) = granted_in app a hs
granted_in app a (became_active i t ∷ hs) = granted_in app a hs
granted_in app a (became_inactive i t z f ∷ hs) = granted_in app a hs

-- ---- one application
-- "begins when an application's first thread becomes active": at the moment t, from which on ticks and losses are counted
abbrev pub begins : ℕ → Stretch
begins t = record { since = record { 0 = t }; granted = 0; lost = amt (pos 0) }

-- no thread of it has been active
abbrev pub quiet : Activity
quiet = record { active = 0; stretch = begins 0 }

-- a thread of it becomes active
unfoldable pub wakes : ℕ → Activity → Activity
wakes t c = record { active = c.active + 1; stretch = cond (eqb c.active 0) (begins t) c.stretch }

-- it is granted a tick
unfoldable pub runs : Activity → Activity
runs c = record { active = c.active; stretch = record { since = c.stretch.since; granted = c.stretch.granted + 1; lost = c.stretch.lost } }

-- a thread of it becomes inactive, and z is lost
unfoldable pub rests : ℤ → Activity → Activity
rests z c = record { active = c.active - 1; stretch = record { since = c.stretch.since; granted = c.stretch.granted; lost = amt (c.stretch.lost.0 +ℤ z) } }

-- an idle tick makes every thread of it inactive
unfoldable pub forgets : Activity → Activity
forgets c = record { active = 0; stretch = c.stretch }

-- ---- all applications: the activity of each, by its number
abbrev pub all_quiet : List Activity
all_quiet = replicate apps quiet

abbrev pub activity_at : List Activity → ℕ → Activity
activity_at cs a = get_or cs a quiet

-- .. after one thing more has happened
unfoldable pub noted : (ℕ → ℕ) → List Activity → Happening → List Activity
noted app cs (completed i t) = cs
noted app cs (arrived i t) = cs
noted app cs (dropped_to_head i t) = cs
noted app cs (granted i t e) = set cs (app i) (runs (activity_at cs (app i)))
noted app cs (idle_tick t) = map_to (length cs) forgets cs
noted app cs (became_active i t) = set cs (app i) (wakes t (activity_at cs (app i)))
noted app cs (became_inactive i t z f) = set cs (app i) (rests (lost_as f z) (activity_at cs (app i)))

-- .. and after a whole history
unfoldable pub activities : (ℕ → ℕ) → List Activity → List Happening → List Activity
activities app cs [] = cs
activities app cs (h ∷ hs) = activities app (noted app cs h) hs

-- ---- the stretches that have ended
-- a stretch of an application that ended at a moment, by an idle tick or not
pub record Over : Type 0 where
  pub application : ℕ
  pub stretch : Stretch
  pub until : ℕ
  pub idle : Bool

-- "holds while some thread of it is [active]": over at the moment t where none is any more
abbrev pub over_at : ℕ → ℕ → Activity → List Over
over_at t a c = cond (eqb c.active 0) (record { application = a; stretch = c.stretch; until = t; idle = false } ∷ []) []

-- "a stretch without idle ticks": over at an idle tick t where some thread was active
abbrev pub cut_at : ℕ → ℕ → Activity → List Over
cut_at t a c = cond (eqb c.active 0) [] (record { application = a; stretch = c.stretch; until = t; idle = true } ∷ [])

-- .. of the applications below n
unfoldable pub cut_to : ℕ → List Activity → ℕ → List Over
cut_to t cs zero = []
cut_to t cs (suc a) = cut_to t cs a ++ cut_at t a (activity_at cs a)

-- those that end by one thing more
unfoldable pub ends : (ℕ → ℕ) → List Activity → Happening → List Over
ends app cs (completed i t) = []
ends app cs (arrived i t) = []
ends app cs (dropped_to_head i t) = []
ends app cs (granted i t e) = []
ends app cs (idle_tick t) = cut_to t cs (length cs)
ends app cs (became_active i t) = []
ends app cs (became_inactive i t z f) = over_at t (app i) (rests (lost_as f z) (activity_at cs (app i)))

-- .. and by a whole history, in order
unfoldable pub stretches : (ℕ → ℕ) → List Activity → List Happening → List Over
stretches app cs [] = []
stretches app cs (h ∷ hs) = ends app cs h ++ stretches app (noted app cs h) hs

-- ---- the equation
-- "ticks elapsed" of a stretch up to the moment t
abbrev pub elapsed : ℕ → Stretch → ℕ
elapsed t c = t - c.since.0

-- the application of each thread, and the "total share" of the application a, by the rows of a table
abbrev pub app_of : Table → ℕ → ℕ
app_of t i = (row_at t.rows i).app

unfoldable pub share_to : ℕ → List Row → ℕ → ℕ
share_to a rows zero = 0
share_to a rows (suc i) = share_to a rows i + cond (eqb (row_at rows i).app a) (row_at rows i).share 0

abbrev pub share_of : ℕ → Table → ℕ
share_of a t = share_to a t.rows t.threads

-- "W − u × t" of a thread that is active and of the application a
abbrev pub ahead_in : ℕ → ℕ → Thread → ℤ
ahead_in a t x = cond (active_in a x) (x.w.0 -ℤ scaled x t) (pos 0)

-- "the sum over its active threads"
unfoldable pub total : (Thread → ℤ) → List Thread → ℤ
total f [] = pos 0
total f (x ∷ xs) = f x +ℤ total f xs

abbrev pub ahead_of : ℕ → State → ℤ
ahead_of a s = total (ahead_in a s.clock.0) (take s.count s.threads)

-- "Q times the ticks granted to the application, minus its total share times the ticks elapsed, plus the capacity lost", for a
-- stretch up to the moment t
abbrev pub balance : ℕ → ℕ → ℕ → Stretch → ℤ
balance q share t c = pos (q * c.granted) -ℤ pos (share * elapsed t c) +ℤ c.lost.0
