use Rattle.calls.specs.Acts.{stage_begin, stage_then, stage_calls}
use Rattle.calls.proofs.advance.Goals as goal

pub loop-init : goal.loop-init
loop-init g c = stage_begin g.T.Told g.met.T.Told.brings_none c.args.last _ _ _ c.requires

pub loop-preserved : goal.loop-preserved
loop-preserved g c = stage_then g.T.Told g.met.T.Told.brings_then c.loop.invariant c.act.ensures

pub returns : goal.returns
returns g c = stage_calls g.T.Told g.met.T.Told.brings_then c.loop.invariant c.act.ensures c.loop-test.false
