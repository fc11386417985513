use Rattle.std.proofs.Common.{◌≡◌}
use Rattle.rules.specs.Threads.{with_rows}
use Rattle.rules.specs.Charge.{benefits}
use Rattle.schedule.proofs.passes.charge.Given as goal

abbrev pub invariant-loop-a : goal.invariant-loop-a
invariant-loop-a l = l.s ≡ with_rows l.initial.s (benefits l.own l.initial.s l.a l.initial.s.threads)
