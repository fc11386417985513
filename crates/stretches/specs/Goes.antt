-- A part of the history and the threads that it leads to: the applications stand as it says, the stretches that end in it are even,
-- and ticks and losses come only while a stretch holds.
use Rattle.std.specs.Prelude.{◌≡◌, ℕ, ◌<◌, length, take, set}
use Rattle.std.proofs.Math.Path.{refl}
use Rattle.std.proofs.Common.{sym, ◌∙◌, subst, arith, length-set, get_or-set_same, get_or-set_other}
use mathlib.Core.List.{List, [], ◌∷◌, ◌++◌}
use Rattle.std.proofs.Math.Decide.{ℕ_discrete}
use Rattle.lists.specs.All.{All, none, more, all_append}
use Rattle.rules.specs.Limits.{apps}
use Rattle.rules.specs.Threads.{Thread}
use Rattle.rules.specs.Table.{Table}
use Rattle.rules.specs.History.{Happening, completed, arrived, dropped_to_head, granted, idle_tick, became_active, became_inactive}
use Rattle.rules.specs.Stretches.{Activity, quiet, activity_at, noted, activities, Over, ends, stretches, app_of}
use Rattle.stretches.specs.Item8.{Even}
use Rattle.stretches.specs.Standing.{StandsIn, Tied, Low, Held}

-- ---- a happening comes where it can: the application of thread i is known, and some thread of it is active
abbrev pub Known : (ℕ → ℕ) → List Activity → ℕ → Type 0
Known app cs i = app i < length cs

abbrev pub Holds : (ℕ → ℕ) → List Activity → ℕ → Type 0
Holds app cs i = Known app cs i × (0 < (activity_at cs (app i)).active)

abbrev pub Suits : (ℕ → ℕ) → List Activity → Happening → Type 0
Suits app cs (completed i t) = Unit {0}
Suits app cs (arrived i t) = Unit {0}
Suits app cs (dropped_to_head i t) = Unit {0}
Suits app cs (granted i t e) = Holds app cs i
Suits app cs (idle_tick t) = Unit {0}
Suits app cs (became_active i t) = Known app cs i
Suits app cs (became_inactive i t z f) = Holds app cs i

-- .. and so does each of a history
pub data Suited (app : ℕ → ℕ) : List Activity → List Happening → Type 0 where
  still : {cs : List Activity} → Suited app cs []
  next : {cs : List Activity} {h : Happening} {hs : List Happening} → Suits app cs h → Suited app (noted app cs h) hs → Suited app cs (h ∷ hs)

-- ---- a history goes on from where it was
module _ (app : ℕ → ℕ) where
  pub activities_append : (cs : List Activity) (hs ks : List Happening) → activities app cs (hs ++ ks) ≡ activities app (activities app cs hs) ks
  unfolding activities
  activities_append cs [] ks = refl
  activities_append cs (h ∷ hs) ks = activities_append (noted app cs h) hs ks

  pub stretches_all : (P : Over → Type 0) (cs : List Activity) (hs ks : List Happening) → All P (stretches app cs hs) → All P (stretches app (activities app cs hs) ks)
      → All P (stretches app cs (hs ++ ks))
  unfolding stretches activities
  stretches_all P cs [] ks a b = b
  stretches_all P cs (h ∷ hs) ks a b = let s = all_split (ends app cs h) a in all_append s.0 (stretches_all P (noted app cs h) hs ks s.1 b)
    where
      all_split : (xs : List Over) {ys : List Over} → All P (xs ++ ys) → All P xs × All P ys
      all_split [] a = (none, a)
      all_split (x ∷ xs) (more p a) = let r = all_split xs a in (more p r.0, r.1)

  suited_append : {cs : List Activity} {hs ks : List Happening} → Suited app cs hs → Suited app (activities app cs hs) ks → Suited app cs (hs ++ ks)
  unfolding activities
  suited_append still b = b
  suited_append (next p a) b = next p (suited_append a b)

-- ---- the history hs from cs on, to the threads xs at the moment now
pub record Goes (t : Table) (q m now : ℕ) (xs : List Thread) (cs : List Activity) (hs : List Happening) : Type 0 where
  pub held : Held t q m now xs (activities (app_of t) cs hs)
  pub even : All (Even t) (stretches (app_of t) cs hs)
  pub suited : Suited (app_of t) cs hs

module _ {t : Table} {q m now : ℕ} {xs : List Thread} {cs : List Activity} where
  pub goes_nowhere : Held t q m now xs cs → Goes t q m now xs cs []
  unfolding activities stretches
  goes_nowhere h = record { held = h; even = none; suited = still }

  pub goes_one : (h : Happening) → Held t q m now xs (noted (app_of t) cs h) → All (Even t) (ends (app_of t) cs h) → Suits (app_of t) cs h → Goes t q m now xs cs (h ∷ [])
  unfolding activities stretches
  goes_one h k e s = record { held = k; even = all_append e none; suited = next s still }

  pub goes_on_lem : {q' m' now' : ℕ} {ys : List Thread} {hs ks : List Happening} → Goes t q' m' now' ys cs hs → Goes t q m now xs (activities (app_of t) cs hs) ks
      → Goes t q m now xs cs (hs ++ ks)
  goes_on_lem {hs = hs} {ks = ks} a b = record {
    held = subst (Held t q m now xs) (sym (activities_append (app_of t) cs hs ks)) b.held;
    even = stretches_all (app_of t) (Even t) cs hs ks a.even b.even;
    suited = suited_append (app_of t) a.suited b.suited;
  }

-- ---- the activity of one application b is another
pub held_set : {t : Table} {q m now : ℕ} {ys : List Thread} (cs : List Activity) → Tied t q m ys → All (Low q now) (take m ys) → length cs ≡ apps
    → (b : ℕ) (c : Activity) → b < apps → StandsIn t q m now ys b c → ((a : ℕ) → a < apps → (b ≡ a → ⊥) → StandsIn t q m now ys a (activity_at cs a))
    → Held t q m now ys (set cs b c)
held_set {t} {q} {m} {now} {ys} cs tied low sixteen b c l own other = record {
  tied = tied;
  low = low;
  sixteen = length-set cs b c ∙ sixteen;
  stands = λ a h. by a h (ℕ_discrete b a);
}
  where
    by : (a : ℕ) → a < apps → Dec (b ≡ a) → StandsIn t q m now ys a (activity_at (set cs b c) a)
    by a h (yes e) = subst (λ k. StandsIn t q m now ys k (activity_at (set cs b c) k)) e (subst (StandsIn t q m now ys b) (sym (get_or-set_same cs b c quiet (omega (arith, sixteen)))) own)
    by a h (no f) = subst (StandsIn t q m now ys a) (sym (get_or-set_other cs b a c quiet (λ k. f (sym k)))) (other a h f)
