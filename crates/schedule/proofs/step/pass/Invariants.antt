use Rattle.std.proofs.Common.{◌≡◌}
use Rattle.rules.specs.Run.{state_after}
use Rattle.schedule.proofs.step.pass.Given as goal

abbrev pub invariant-loop : goal.invariant-loop
invariant-loop l = l.s ≡ state_after l.counter l.initial.s
