use Rattle.std.proofs.Common.{refl, ◌∙◌, arith}
use Rattle.rules.specs.Stretches.{share_to}
use Rattle.accounts.specs.Lines.{share_own, share_other, share_fits}
use Rattle.accounts.proofs.lines.share_of.Goals as goal
use Rattle.accounts.proofs.lines.share_of.Goals.{then-x-a, else-x-a}

pub loop-x-init : goal.loop-x-init
unfolding share_to
loop-x-init c = refl

-- the shares so far are at most all, which are at most Q
pub overflow_add-sum : goal.overflow_add-sum
overflow_add-sum c =
    let t = c.args.t.now in
    omega (arith, share_fits c.args.a t.rows t.threads c.loop-x.x-index c.loop-x-test.true c.if-x-a.true, c.requires.most)

pub loop-x-preserved : goal.loop-x-preserved
loop-x-preserved c =
    let t = c.args.t.now in
    let i = c.loop-x.x-index in
    elim c.if-x-a.branch [
      | then-x-a w ↦ omega (arith, w.sum-is, share_own c.args.a t.rows t.threads i c.loop-x-test.true w.if-x-a.true)
      | else-x-a w ↦ w.sum-is ∙ c.loop-x.invariant ∙ share_other c.args.a t.rows t.threads i c.loop-x-test.true w.if-x-a.false
    ]
