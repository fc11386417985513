use Rattle.rules.specs.Threads.{idle}
use Rattle.promises.specs.Tables.{Changed}
use Rattle.schedule.proofs.passes.idle_tick.Given as goal

abbrev pub invariant-loop-i : goal.invariant-loop-i
invariant-loop-i l = Changed idle l.initial.s l.i l.s
