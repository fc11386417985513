use Rattle.std.proofs.Common.{rules, arith, lt-ltb, le-ltb}
use Rattle.accounts.specs.Events.{completes_inside, completed_goes_on, completed_stays, completed_rests, completed_ends}
use Rattle.accounts.proofs.events.completed.Goals as goal
use Rattle.accounts.proofs.events.completed.Goals.{then-x-gt1-via-then-x-gt1, then-x-gt1-via-else-x-gt1+then-lt}

pub returns-then-x-gt1-clause-tells : goal.returns-then-x-gt1-clause-tells
returns-then-x-gt1-clause-tells c =
    let a = c.args in
    elim c.then-x-gt1.branch [
      | then-x-gt1-via-then-x-gt1 w ↦ completed_goes_on c.requires.0 c.requires.1 a.k c.requires.2 a.out.now a.from (lt-ltb _ _ w.if-x-gt1.true)
      | then-x-gt1-via-else-x-gt1+then-lt w ↦ completed_stays c.requires.0 c.requires.1 a.k c.requires.2 a.out.now a.from (le-ltb _ _ w.if-x-gt1.false) (search rules)
    ]

pub lost-requires : goal.lost-requires
lost-requires c = (c.requires.0, completes_inside _ c.args.k c.requires.0 c.requires.2)

pub rest-requires : goal.rest-requires
rest-requires c =
    (completed_rests c.requires.0 c.requires.1 c.args.k c.requires.2 (le-ltb _ _ c.if-x-gt1.false) (search rules) _ c.lost.ensures, omega (arith, c.requires.3))

pub returns-clause-tells : goal.returns-clause-tells
returns-clause-tells c =
    let e = c.rest.ensures in
    completed_ends c.requires.0 c.requires.1 c.args.k c.requires.2 (le-ltb _ _ c.if-x-gt1.false) (search rules) _ c.lost.ensures e.put e.activities_value
