use Rattle.std.proofs.Common.{arith}
use Rattle.accounts.specs.Told.{put_none, put_then, put_as}
use Rattle.accounts.specs.Lines.{held_lines, held_one, held_none}
use Rattle.accounts.proofs.lines.all_held.Goals as goal
use Rattle.accounts.proofs.lines.all_held.Goals.{then-c-ne0, else-c-ne0}

pub loop-a-init : goal.loop-a-init
unfolding held_lines
loop-a-init c = record { short = omega arith; put = put_none c.args.out.now c.args.from }

pub loop-a-preserved : goal.loop-a-preserved
loop-a-preserved c =
    let a = c.args in
    let v = c.loop-a.invariant in
    elim c.if-c-ne0.branch [
      | then-c-ne0 w ↦ record {
        short = omega (arith, w.used-is, w.line-used.ensures.upper_bound);
        put = rw (w.out-is, w.used-is) (put_as (held_one a.t.now a.how a.until.0 a.cs.now c.loop-a.a w.if-c-ne0.true) (put_then v.put w.line-used.ensures.put));
      }
      | else-c-ne0 w ↦ record {
        short = omega (arith, w.used-is);
        put = rw (w.out-is, w.used-is) (put_as (held_none a.t.now a.how a.until.0 a.cs.now c.loop-a.a w.if-c-ne0.false) v.put);
      }
    ]
