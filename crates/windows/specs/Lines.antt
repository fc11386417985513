-- The line of a tick, by the state after it: who had the tick stands there, with E as it was at the choice.
use Rattle.std.specs.Prelude.{◌≡◌, Bool, ℕ, ℤ}
use Rattle.std.proofs.Math.Path.{refl, ap, subst}
use Rattle.std.proofs.Common.{sym, ◌∙◌, eq-eqb, ne_eqb}
use Rattle.std.proofs.Math.Bool.{true, false}
use Rattle.std.proofs.Math.Dec.{eqb}
use Rattle.lists.specs.Take.{at_upd}
use Rattle.rules.specs.Limits.{nobody, apps, clock_end}
use Rattle.rules.specs.Threads.{Thread, State, blank, at}
use Rattle.rules.specs.Fitting.{room_of}
use Rattle.rules.specs.Choice.{chosen}
use Rattle.rules.specs.Charge.{gains, benefits, charged, moved}
use Rattle.rules.specs.Step.{Outcome, Grant, Idle, Stepped, ready, stepped}
use Rattle.rules.specs.Listing.{grant_line, idle_line, tick_line_as, tick_line}
use Rattle.promises.specs.Keep.{benefits_at}
use Rattle.promises.specs.Taken.{outcome_to, step_is, step_by}

-- ---- the charge leaves a thread's application and its deadline
abbrev Same : Thread → Thread → Type 0
Same y x = (y.app ≡ x.app) × (y.e.0 ≡ x.e.0)

charge_keeps : (z : State) (c : ℕ) → Same (at z.threads c) (at (charged z c).threads c)
unfolding charged
charge_keeps z c =
    let y = at z.threads c in
    at_upd {P = Same y} (gains (room_of z y)) (λ x p. p) (benefits y.app z apps z.threads) c c blank
    (benefits_at y.app z (Same y) (λ r x p. p) c apps z.threads (refl, refl))

module _ (s : State) (early : s.clock.0 ≡ clock_end → ⊥) where
  -- a granted tick has charged the chosen thread
  granted : ((stepped s).state.had ≡ nobody → ⊥)
      → stepped s ≡ record { outcome = Grant (chosen (ready s)); state = moved (charged (ready s) (chosen (ready s))) (chosen (ready s)) }
  unfolding moved
  granted some = go (eqb (chosen (ready s)) nobody) refl
    where
      go : (b : Bool) → eqb (chosen (ready s)) nobody ≡ b
          → stepped s ≡ record { outcome = Grant (chosen (ready s)); state = moved (charged (ready s) (chosen (ready s))) (chosen (ready s)) }
      go true e = absurd (some (ap (λ (r : Stepped). r.state.had) (step_is s early) ∙ rw e))
      go false e = step_is s early ∙ rw e

  -- the state after the tick, and who had it there
  abbrev z : State
  z = (stepped s).state

  abbrev x : Thread
  x = at z.threads z.had

  line_by : (o : Outcome) → outcome_to z.had ≡ o → tick_line s ≡ tick_line_as o s
  unfolding tick_line
  line_by o e = ap (λ (r : Stepped). tick_line_as r.outcome s) (step_by s early) ∙ ap (λ (x : Outcome). tick_line_as x s) e

  pub idle_line_lem : z.had ≡ nobody → tick_line s ≡ idle_line s.clock.0
  idle_line_lem e = line_by Idle (rw (eq-eqb _ _ e))

  module _ (some : z.had ≡ nobody → ⊥) where
    -- it at the choice
    abbrev y : Thread
    y = at (ready s).threads z.had

    same : Same y x
    unfolding moved
    same = subst (λ (r : Stepped). Same (at (ready s).threads r.state.had) (at r.state.threads r.state.had)) (sym (granted some)) (charge_keeps (ready s) (chosen (ready s)))

    pub grant_line_lem : tick_line s ≡ grant_line s.clock.0 z.had x.app x.e.0 x.w.0
    grant_line_lem =
        line_by (Grant z.had) (rw (ne_eqb _ _ some))
        ∙ ap (λ (a : ℕ). grant_line s.clock.0 z.had a y.e.0 x.w.0) same.0
        ∙ ap (λ (e : ℤ). grant_line s.clock.0 z.had x.app e x.w.0) same.1
