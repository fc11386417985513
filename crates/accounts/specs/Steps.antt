-- One turn more of the loop over the applications.
use Rattle.std.specs.Prelude.{◌≡◌, List, ℕ, ◌+◌, ◌<◌, length, set}
use Rattle.std.proofs.Common.{arith}
use Rattle.lists.specs.MapTo.{map_to, map_at, map_more}
use Rattle.rules.specs.Stretches.{Activity, quiet, activity_at, forgets}

-- one application more is forgotten
pub forget_more : (cs all : List Activity) (a : ℕ) → a < length cs → all ≡ map_to a forgets cs → (c : Activity) → c ≡ forgets (activity_at all a) → set all a c ≡ map_to (a + 1) forgets cs
forget_more cs all a h e c f =
    rw (f, e, map_at a forgets cs a quiet (omega arith)) (map_more forgets cs a quiet h)
