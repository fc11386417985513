use Rattle.std.proofs.Common.{ap, le_antisymm}
use Rattle.lists.specs.MapTo.{map_to}
use Rattle.rules.specs.Limits.{nobody}
use Rattle.rules.specs.Threads.{with_rows, idle}
use Rattle.rules.specs.Choice.{idled}
use Rattle.rules.specs.Charge.{moved}
use Rattle.promises.specs.Tables.{change_none, change_more}
use Rattle.schedule.proofs.passes.idle_tick.Goals as goal

pub loop-i-init : goal.loop-i-init
loop-i-init c = change_none idle c.args.s.now

pub loop-i-preserved : goal.loop-i-preserved
loop-i-preserved c = change_more idle c.args.s.now c.requires.0 c.loop-i.i c.loop-i-test.true c.loop-i.invariant _ c.at_rest.ensures

pub move_on-requires : goal.move_on-requires
move_on-requires c = rw c.loop-i.invariant c.requires.1

pub returns : goal.returns
unfolding idled
returns c =
    let s = c.args.s.now in
    rw (c.move_on.ensures, c.loop-i.invariant)
    (ap (λ i. moved (with_rows s (map_to i idle s.threads)) nobody) (le_antisymm c.loop-i.auto.i-end c.loop-i-test.false))
