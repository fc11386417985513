use Rattle.listing.specs.Way.{Listed}
use Rattle.listing.proofs.ticks.ticks.Given as goal

-- the ticks so far are listed
abbrev pub invariant-loop : goal.invariant-loop
invariant-loop l = Listed l.initial.out l.from l.initial.s l.n l.counter l.out l.used l.s
