use Rattle.std.proofs.Common.{ap, set}
use Rattle.rules.specs.Stretches.{Activity, app_of}
use Rattle.accounts.specs.Ticks.{taken_idle, taken_granted}
use Rattle.accounts.proofs.ticks.taken.Goals as goal

pub returns-then-had-eq-NOBODY-clause-tells : goal.returns-then-had-eq-NOBODY-clause-tells
returns-then-had-eq-NOBODY-clause-tells c = taken_idle c.requires.0 c.if-had-eq-NOBODY.true c.all_held-used.ensures.put c.forget_all.ensures

pub returns-clause-tells : goal.returns-clause-tells
returns-clause-tells c =
    let a = c.args in
    taken_granted c.requires.0 c.if-had-eq-NOBODY.false a.out.now a.from (ap (λ (x : Activity). set a.cs.now (app_of a.t.now a.had) x) c.serve.ensures)
