-- What nothing tells, and ticks in parts.
use Rattle.std.specs.Prelude.{◌≡◌, List, [], ◌++◌, ℕ, zero, suc}
use Rattle.std.proofs.Math.Path.{refl}
use Rattle.std.proofs.Common.{sym, ap, ◌∙◌, append-nil, append_assoc}
use Rattle.rules.specs.Threads.{State}
use Rattle.rules.specs.Table.{Table}
use Rattle.rules.specs.Step.{stepped}
use Rattle.rules.specs.Run.{state_after}
use Rattle.rules.specs.History.{Happening, tick_of, ticks_of}
use Rattle.rules.specs.Stretches.{Activity, activities, stretches}
use Rattle.rules.specs.Report.{over_lines, told, stand}
use Rattle.windows.specs.Ticks.{steps_first}

module _ (t : Table) (cs : List Activity) where
  pub told_none : told t cs [] ≡ []
  unfolding stretches over_lines
  told_none = refl

  pub stand_none : stand t cs [] ≡ cs
  unfolding activities
  stand_none = refl

-- the first tick of a run happens first
pub ticks_first : (k : ℕ) (s : State) → ticks_of (suc k) s ≡ tick_of s ++ ticks_of k (stepped s).state
unfolding ticks_of state_after
ticks_first zero s = sym (append-nil (tick_of s))
ticks_first (suc k) s =
    ap (λ (hs : List Happening). hs ++ tick_of (state_after (suc k) s)) (ticks_first k s)
    ∙ ap (λ (z : State). (tick_of s ++ ticks_of k (stepped s).state) ++ tick_of z) (steps_first k s)
    ∙ append_assoc (tick_of s) (ticks_of k (stepped s).state) (tick_of (state_after k (stepped s).state))
