use Rattle.std.proofs.Common.{arith}
use Rattle.shell.specs.Shell.{made}
use Rattle.shell.specs.Kept.{has_read, stands, handed, call_turned, turned_said}
use Rattle.shell.specs.Roomy.{good_after}
use Rattle.shell.proofs.turn.Goals as goal

pub say-requires : goal.say-requires
say-requires g c =
    let w = c.advance-t.ensures in
    let z = good_after g.T.Telling c.fill-f.new.buf c.fill-f.result c.fill-f.ensures.stays_good c.if-not-f.false c.fill-f.auto.buf c.requires.enough.0 c.requires.enough.1 c.advance-t.result w in
    record {
      out = c.args.out.now;
      out' = c.advance-t.new.out;
      call = w;
      whole = handed c.advance-t.new.out w.text c.advance-t.result.written w.writes (stands c.args.out.now c.advance-t.new.out w.text w.stored (omega (arith, w.writes, w.fits)));
      within = z.ordered;
    }

-- the call is handed all that was read and not yet taken
pub returns-clause-stops_or : goal.returns-clause-stops_or
returns-clause-stops_or g c = made (turned_said g.T.Telling (call_turned g.T.Telling c.args.buf.now c.fill-f.new.buf c.args.out.now c.advance-t.new.out c.args.s c.fill-f.result (has_read c.fill-f.ensures.stops_or c.if-not-f.false) c.advance-t.result c.advance-t.ensures) c.say.ensures)
