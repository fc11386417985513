use Rattle.std.proofs.Common.{Err, ◌≡◌, [], ◌∷◌, ◌++◌, ◌+◌, refl, sym, ap, ◌∙◌, le_antisymm, add-one, arith, lt-ltb, le-ltb, set, drop, length-set}
use Rattle.std.proofs.lemmas.Result.{err_from_is_err_and}
use Rattle.lists.specs.Row.{row_more}
use Rattle.rules.specs.Limits.{clock_end}
use Rattle.rules.specs.Threads.{State}
use Rattle.rules.specs.Step.{stepped}
use Rattle.rules.specs.Run.{entry_of, state_after, row_after}
use Rattle.promises.specs.Always.{given_good, given_steps, steps_good}
use Rattle.promises.specs.Taken.{entry_to, step_entry, had_max, row_length, steps_early}
use Rattle.schedule.specs.Until.{ran_is, until_end}
use Rattle.schedule.proofs.step.run.Goals as goal
use Rattle.schedule.proofs.step.run.Goals.{In-loop-i}

pub returns-in_err-n : goal.returns-in_err-n
returns-in_err-n c =
    let p = err_from_is_err_and c.from_residual.result c.from_residual.ensures.1 in
    rw (p.1 ∙ ap Err p.2, ran_is c.args.s c.args.to.0, ← c.ticks_until.ensures, c.in_err-n.was) (refl, refl)

pub returns-then-row-n : goal.returns-then-row-n
returns-then-row-n c = rw (ran_is c.args.s c.args.to.0, ← c.ticks_until.ensures, c.in_ok-n.was, lt-ltb _ _ c.if-row-n.true) (refl, refl)

pub loop-i-init : goal.loop-i-init
unfolding state_after row_after
loop-i-init c = record { long = refl; state = refl; written = refl }

-- the tick comes before the clock's end
early : (c : In-loop-i) → (state_after c.loop-i.i c.args.s).clock.0 ≡ clock_end → ⊥
early c =
    let s = c.args.s in
    steps_early c.loop-i.i c.in_ok-n.n s c.loop-i-test.true (until_end s.clock.0 c.args.to.0 c.in_ok-n.n (sym c.in_ok-n.was ∙ c.ticks_until.ensures))

pub tick-requires : goal.tick-requires
tick-requires c = rw c.loop-i.invariant.state (given_steps c.loop-i.i c.requires, early (goal.at.tick-requires c).In-loop-i)

pub entry_to-requires : goal.entry_to-requires
entry_to-requires c =
    rw (c.tick.ensures ∙ ap (λ s. (stepped s).state) c.loop-i.invariant.state)
    (had_max (steps_good c.loop-i.i (given_good c.requires)) (early (goal.at.entry_to-requires c).In-loop-i))

pub loop-i-preserved : goal.loop-i-preserved
unfolding state_after row_after
loop-i-preserved c =
    let l = c.loop-i in
    let v = l.invariant in
    let s = c.args.s in
    let row = c.args.row.now in
    let z : c.tick.new.s ≡ (stepped (state_after l.i s)).state = c.tick.ensures ∙ ap (λ s. (stepped s).state) v.state in
    let e : c.entry_to.result ≡ entry_of (stepped (state_after l.i s)).outcome =
    c.entry_to.ensures ∙ ap (λ (z : State). entry_to z.had) z ∙ sym (step_entry (state_after l.i s) (early (goal.at.loop-i-preserved c).In-loop-i)) in
    record {
      long = length-set l.row _ _ ∙ v.long;
      state = z ∙ sym (ap (λ k. state_after k s) (add-one l.i));
      written =
          ap (λ r. set r l.i c.entry_to.result) v.written
          ∙ row_more (row_after l.i s) row l.i _ 0 (row_length l.i s) (omega (arith, c.if-row-n.false))
          ∙ ap (λ x. (row_after l.i s ++ (x ∷ [])) ++ drop (l.i + 1) row) e
          ∙ ap (λ r. r ++ drop (l.i + 1) row) (sym (ap (λ k. row_after k s) (add-one l.i)));
    }

pub returns : goal.returns
returns c =
    let l = c.loop-i in
    let s = c.args.s in
    let e = le_antisymm l.auto.i-end c.loop-i-test.false in
    rw (ran_is s c.args.to.0, ← c.ticks_until.ensures, c.in_ok-n.was, le-ltb _ _ c.if-row-n.false)
    (rw (l.invariant.state, e) refl, l.invariant.written ∙ ap (λ k. row_after k s ++ drop k c.args.row.now) e)
