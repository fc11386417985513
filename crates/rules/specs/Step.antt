-- Document 01: one tick, that is steps 2 and 4 to 6. "One step answers with a grant, an idle tick or a refusal."
use Rattle.std.specs.Prelude.{cond, ℕ, eqb}
use Rattle.rules.specs.Limits.{nobody, clock_end}
use Rattle.rules.specs.Threads.{State}
use Rattle.rules.specs.Leaving.{gone}
use Rattle.rules.specs.Fitting.{fitted}
use Rattle.rules.specs.Choice.{chosen, idled}
use Rattle.rules.specs.Charge.{charged, moved}
pub use Rattle.quantities.specs.declared.Outcome.{Outcome}
pub use Rattle.quantities.specs.declared.Outcome.TheVariants.{Grant, Idle, Refused}
pub use Rattle.quantities.specs.declared.Stepped.{Stepped}

-- the number of a refusal, and 0 for none
abbrev pub step_number : Outcome → ℕ
step_number (Grant i) = 0
step_number Idle = 0
step_number (Refused n) = n

-- the state at the choice: after leaving and fitting
abbrev pub ready : State → State
ready s = fitted (gone s)

-- the tick that b has, or nobody
abbrev pub taken : State → ℕ → Stepped
taken z b =
    cond (eqb b nobody)
    (record { outcome = Idle; state = moved (idled z) nobody })
    (record { outcome = Grant b; state = moved (charged z b) b })

-- 13 "a step taken at [the clock's] end"
unfoldable pub stepped : State → Stepped
stepped s =
    cond (eqb s.clock.0 clock_end)
    (record { outcome = Refused 13; state = s })
    (taken (ready s) (chosen (ready s)))
