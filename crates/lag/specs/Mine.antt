-- The own stretch of one thread, read off the history for this thread alone.
use Rattle.std.specs.Prelude.{◌≡◌, Bool, cond, List, [], ◌∷◌, ◌++◌, ℕ, ◌<◌, eqb, length, set}
use Rattle.std.proofs.Math.Path.{refl}
use Rattle.std.proofs.Common.{ap, ◌∙◌, arith, length-set}
use Rattle.lists.specs.MapTo.{map_has, map_length}
use Rattle.lists.specs.Take.{at_put}
use Rattle.rules.specs.History.{Happening, completed, arrived, dropped_to_head, granted, idle_tick, became_active, became_inactive}
use Rattle.rules.specs.Stretches.{Activity, quiet, lost_as, wakes, runs, rests, forgets, activity_at, noted, activities}

-- where thread i stands after one thing more has happened
unfoldable pub mine_of : ℕ → Activity → Happening → Activity
mine_of i c (completed j t) = c
mine_of i c (arrived j t) = c
mine_of i c (dropped_to_head j t) = c
mine_of i c (granted j t e) = cond (eqb j i) (runs c) c
mine_of i c (idle_tick t) = forgets c
mine_of i c (became_active j t) = cond (eqb j i) (wakes t c) c
mine_of i c (became_inactive j t z f) = cond (eqb j i) (rests (lost_as f z) c) c

-- .. and after a whole history
unfoldable pub mine : ℕ → Activity → List Happening → Activity
mine i c [] = c
mine i c (h ∷ hs) = mine i (mine_of i c h) hs

pub mine_append : (i : ℕ) (c : Activity) (hs ks : List Happening) → mine i c (hs ++ ks) ≡ mine i (mine i c hs) ks
unfolding mine
mine_append i c [] ks = refl
mine_append i c (h ∷ hs) ks = mine_append i (mine_of i c h) hs ks

module _ (cs : List Activity) (i : ℕ) (h : i < length cs) where
  one_put : (f : Activity → Activity) (j : ℕ) → activity_at (set cs j (f (activity_at cs j))) i ≡ cond (eqb j i) (f (activity_at cs i)) (activity_at cs i)
  one_put f j = at_put (λ (b : Bool) (c : Activity). c ≡ cond b (f (activity_at cs i)) (activity_at cs i)) cs j i (f (activity_at cs j)) quiet h (λ e. ap (λ k. f (activity_at cs k)) e) refl

  noted_mine : (k : Happening) → activity_at (noted (λ j. j) cs k) i ≡ mine_of i (activity_at cs i) k
  unfolding noted mine_of
  noted_mine (completed j t) = refl
  noted_mine (arrived j t) = refl
  noted_mine (dropped_to_head j t) = refl
  noted_mine (granted j t e) = one_put runs j
  noted_mine (idle_tick t) = map_has (length cs) forgets cs i quiet h h
  noted_mine (became_active j t) = one_put (wakes t) j
  noted_mine (became_inactive j t z f) = one_put (rests (lost_as f z)) j

noted_length : (cs : List Activity) (k : Happening) → length (noted (λ j. j) cs k) ≡ length cs
unfolding noted
noted_length cs (completed j t) = refl
noted_length cs (arrived j t) = refl
noted_length cs (dropped_to_head j t) = refl
noted_length cs (granted j t e) = length-set cs j _
noted_length cs (idle_tick t) = map_length (length cs) forgets cs
noted_length cs (became_active j t) = length-set cs j _
noted_length cs (became_inactive j t z f) = length-set cs j _

-- the activity of thread i among all is read off for it alone
pub activities_mine : (hs : List Happening) (cs : List Activity) (i : ℕ) → i < length cs → activity_at (activities (λ j. j) cs hs) i ≡ mine i (activity_at cs i) hs
unfolding activities mine
activities_mine [] cs i h = refl
activities_mine (k ∷ hs) cs i h = activities_mine hs (noted (λ j. j) cs k) i (omega (arith, noted_length cs k)) ∙ ap (λ c. mine i c hs) (noted_mine cs i h k)
