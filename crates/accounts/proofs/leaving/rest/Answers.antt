use Rattle.std.proofs.Common.{eq-eqb, ne_eqb}
use Rattle.rules.specs.Stretches.{app_of}
use Rattle.accounts.specs.Told.{put_none, put_as}
use Rattle.accounts.specs.Lines.{over_none, over_one}
use Rattle.accounts.proofs.leaving.rest.Goals as goal

pub returns-then-c-ne0-clause-put : goal.returns-then-c-ne0-clause-put
returns-then-c-ne0-clause-put c =
    let a = c.args in
    rw (← c.rest.ensures) (put_as (over_none a.t.now a.until.0 (app_of a.t.now a.i) c.rest.new.c (ne_eqb _ _ c.if-c-ne0.true)) (put_none a.out.now a.at))

pub returns-clause-put : goal.returns-clause-put
returns-clause-put c =
    let a = c.args in
    rw (← c.rest.ensures) (put_as (over_one a.t.now a.until.0 (app_of a.t.now a.i) c.rest.new.c (eq-eqb _ _ c.if-c-ne0.false)) c.line.ensures.put)
