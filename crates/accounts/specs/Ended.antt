-- The stretches that hold where the history ends.
use Rattle.std.specs.Prelude.{◌≡◌, List, ℕ, ◌<◌}
use Rattle.std.proofs.Common.{subst}
use Rattle.rules.specs.Limits.{apps}
use Rattle.rules.specs.Threads.{State}
use Rattle.rules.specs.Table.{Table}
use Rattle.rules.specs.Calls.{Given}
use Rattle.rules.specs.Stretches.{Activity, activity_at}
use Rattle.promises.specs.Always.{given_good}
use Rattle.stretches.specs.Standing.{Kept}
use Rattle.accounts.specs.Lines.{Lined, lined}

-- the applications stand at cs in a given state, whose clock is m
pub record KeptAt (t : Table) (cs : List Activity) (m : ℕ) : Type 0 where
  pub state : State
  pub given : Given state
  pub kept : Kept t state cs
  pub clock : state.clock.0 ≡ m

pub kept_lined : {t : Table} {cs : List Activity} {m : ℕ} → KeptAt t cs m → (a : ℕ) → a < apps → Lined t a m (activity_at cs a)
kept_lined {t} {cs} k a l = let g = given_good k.given in subst (λ (n : ℕ). Lined t a n (activity_at cs a)) k.clock (lined k.kept g.q_max g.time a l)
