use Rattle.std.proofs.Common.{Err, refl, sym, ap, ◌∙◌, le_antisymm, add-one}
use Rattle.std.proofs.lemmas.Result.{err_from_is_err_and}
use Rattle.rules.specs.Step.{stepped}
use Rattle.rules.specs.Run.{state_after}
use Rattle.promises.specs.Always.{given_steps}
use Rattle.promises.specs.Taken.{steps_early}
use Rattle.schedule.specs.Until.{passed_is, until_end}
use Rattle.schedule.proofs.step.pass.Goals as goal

pub returns-in_err-end : goal.returns-in_err-end
returns-in_err-end c =
    let p = err_from_is_err_and c.from_residual.result c.from_residual.ensures.1 in
    rw (p.1 ∙ ap Err p.2, passed_is c.args.s c.args.to.0, ← c.ticks_until.ensures, c.in_err-end.was) refl

pub loop-init : goal.loop-init
unfolding state_after
loop-init c = refl

-- the tick comes before the clock's end
pub tick-requires : goal.tick-requires
tick-requires c =
    let s = c.args.s in
    let k = c.loop.counter in
    let e = until_end s.clock.0 c.args.to.0 c.in_ok-end.end (sym c.in_ok-end.was ∙ c.ticks_until.ensures) in
    rw c.loop.invariant (given_steps k c.requires, steps_early k c.in_ok-end.end s c.loop-test.true e)

pub loop-preserved : goal.loop-preserved
unfolding state_after
loop-preserved c = c.tick.ensures ∙ ap (λ s. (stepped s).state) c.loop.invariant ∙ sym (ap (λ k. state_after k c.args.s) (add-one c.loop.counter))

pub returns : goal.returns
returns c =
    let s = c.args.s in
    rw (passed_is s c.args.to.0, ← c.ticks_until.ensures, c.in_ok-end.was, c.loop.invariant, le_antisymm c.loop.auto.counter-end c.loop-test.false) refl
