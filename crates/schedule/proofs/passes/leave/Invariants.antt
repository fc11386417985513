use Rattle.std.proofs.Common.{◌≡◌, length}
use Rattle.rules.specs.Threads.{free}
use Rattle.rules.specs.Leaving.{gone}
use Rattle.promises.specs.Tables.{Changed, leaves, Table16}
use Rattle.schedule.proofs.passes.leave.Given as goal

-- the first i threads have left, and free has their free shares
abbrev pub invariant-loop-i : goal.invariant-loop-i
invariant-loop-i l = record {
  long : length l.free ≡ 16;
  left : Changed (leaves l.initial.s) l.initial.s l.i l.s;
  shares : Table16 (λ a. free a l.i (gone l.initial.s).threads) l.free;
}
