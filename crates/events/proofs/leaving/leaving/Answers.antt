use Rattle.std.proofs.Common.{arith}
use Rattle.rules.specs.Leaving.{leave}
use Rattle.promises.specs.Tables.{change_none, change_next, change_more}
use Rattle.events.proofs.leaving.leaving.Goals as goal

pub loop-i-init : goal.loop-i-init
loop-i-init c = change_none (leave c.args.s.now.clock.0) c.args.s.now

pub left-requires : goal.left-requires
left-requires c =
    let l = c.loop-i in
    rw (change_next (leave l.s.clock.0) c.args.s.now l.i l.invariant) (c.requires.ok l.i (omega arith)).share_max

pub loop-i-preserved : goal.loop-i-preserved
loop-i-preserved c =
    let l = c.loop-i in
    change_more (leave l.s.clock.0) c.args.s.now c.requires l.i (omega arith) l.invariant _ c.left.ensures
