use Rattle.std.proofs.Common.{◌≡◌, ◌++◌, length, drop}
use Rattle.rules.specs.Run.{state_after, row_after}
use Rattle.schedule.proofs.step.run.Given as goal

abbrev pub invariant-loop-i : goal.invariant-loop-i
invariant-loop-i l = record {
  long : length l.row ≡ length l.initial.row;
  state : l.s ≡ state_after l.i l.initial.s;
  written : l.row ≡ row_after l.i l.initial.s ++ drop l.i l.initial.row;
}
