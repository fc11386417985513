use Rattle.accounts.specs.Ticks.{Noted}
use Rattle.accounts.proofs.ticks.ticks.Given as goal

-- the ticks so far are noted
abbrev pub invariant-loop : goal.invariant-loop
invariant-loop l = Noted l.t l.initial.cs l.initial.s l.n l.counter l.initial.out l.from l.out l.used l.cs l.s
