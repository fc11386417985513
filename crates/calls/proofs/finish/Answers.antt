use Rattle.std.proofs.Common.{arith}
use Rattle.rules.specs.Refusals.{number}
use Rattle.promises.specs.Numbers.{number_short}
use Rattle.text.specs.Laws.{refusal_longest}
use Rattle.calls.proofs.finish.Goals as goal

pub returns-in-Err-clause-fits : goal.returns-in-Err-clause-fits
returns-in-Err-clause-fits g c =
    let p = g.T.Told.place c.args.turn.now.progress in
    let e = c.in-Err.refusal in
    let short = refusal_longest (number e) p (number_short e) (omega (arith, c.requires.1)) in
    rw c.in-Err.ensures.err.1 (omega (arith, short, c.requires.2, g.met.T.Told.roomy))
