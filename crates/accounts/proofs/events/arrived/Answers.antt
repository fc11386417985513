use Rattle.std.proofs.Common.{rules, ap, set}
use Rattle.rules.specs.Stretches.{Activity, app_of}
use Rattle.accounts.specs.Events.{arrived_wakes, arrived_awake, arrived_few}
use Rattle.accounts.proofs.events.arrived.Goals as goal

pub bounds-cs-t : goal.bounds-cs-t
bounds-cs-t c = (arrived_few c.requires.0 c.requires.1 c.args.k c.requires.2 c.leaving-used.ensures.tells.stands).0

pub wake-requires : goal.wake-requires
wake-requires c = (arrived_few c.requires.0 c.requires.1 c.args.k c.requires.2 c.leaving-used.ensures.tells.stands).1

pub returns-then-inactive-clause-tells : goal.returns-then-inactive-clause-tells
returns-then-inactive-clause-tells c =
    let a = c.args in
    arrived_wakes c.requires.0 c.requires.1 a.k c.requires.2 c.leaving-used.ensures.tells (search rules)
    (ap (λ (x : Activity). set c.leaving-used.new.cs (app_of a.t.now a.k) x) c.wake.ensures)

pub returns-else-inactive-clause-tells : goal.returns-else-inactive-clause-tells
returns-else-inactive-clause-tells c =
    arrived_awake c.requires.0 c.requires.1 c.args.k c.requires.2 c.leaving-used.ensures.tells (search rules)
