use Rattle.std.proofs.Common.{◌≡◌, ◌<◌, sym, arith, length, refl}
use Rattle.lists.specs.MapTo.{map_none, length_mapped}
use Rattle.rules.specs.Limits.{apps}
use Rattle.rules.specs.Stretches.{forgets}
use Rattle.accounts.specs.Steps.{forget_more}
use Rattle.accounts.proofs.activity.forget_all.Goals as goal

pub loop-c-init : goal.loop-c-init
loop-c-init c = sym (map_none forgets _)

pub loop-c-preserved : goal.loop-c-preserved
unfolding forgets
loop-c-preserved c =
    let n : length c.args.cs.now ≡ apps = search length_mapped in
    let h : c.loop-c.c-index < length c.args.cs.now = omega (arith, c.loop-c-test.true) in
    forget_more c.args.cs.now c.loop-c.cs c.loop-c.c-index h c.loop-c.invariant _ refl
