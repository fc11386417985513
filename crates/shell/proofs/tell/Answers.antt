use Rattle.std.proofs.Common.{ℕ, sym, subst, arith}
use Rattle.shell.specs.Shell.{Good}
use Rattle.shell.specs.Kept.{stands, handed, good_said, good_opened}
use Rattle.shell.specs.Reached.{fed_opened, fed_after}
use Rattle.shell.proofs.tell.Goals as goal

pub begin-s-requires : goal.begin-s-requires
begin-s-requires g c =
    let h = c.heading-h in
    handed h.new.out g.T.Telling.heading h.result h.ensures.written (stands c.args.out.now h.new.out g.T.Telling.heading h.ensures.out_after (omega (arith, c.requires.1, g.met.T.Telling.heading_fits)))

pub loop-init : goal.loop-init
loop-init g c =
    let t = g.met.T.Telling in
    record {
      good = good_said g.T.Telling (good_opened g.T.Telling t.given_begun t.undone_begun c.requires.0) c.begin-s.ensures;
      fed = fed_opened g.T.Telling c.begin-s.ensures;
    }

pub loop-preserved : goal.loop-preserved
loop-preserved g c =
    record {
      good = subst (λ (m : ℕ). Good g.T.Telling m c.turn-s.result) (sym c.turn-s.auto.buf) c.turn-s.ensures.good;
      fed = fed_after g.T.Telling c.loop.invariant.fed c.if-not-s.false c.turn-s.ensures.stops_or;
    }
