use Rattle.calls.specs.Acts.{stop_on, then_on}
use Rattle.calls.proofs.whole.Goals as goal

pub stop-requires : goal.stop-requires
stop-requires g c = c.in-Err.ensures.err.opens.fits

pub returns-in-Err : goal.returns-in-Err
returns-in-Err g c =
    let t = g.met.T.Told in
    let r = c.in-Err.ensures.err in
    then_on g.T.Told t.brings_then r.before (stop_on g.T.Told t.roomy t.given_finished r.opens c.in-Err.refusal c.stop.ensures.value c.stop.ensures.out_after r.brings)
