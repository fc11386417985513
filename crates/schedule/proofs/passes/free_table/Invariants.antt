use Rattle.std.proofs.Common.{◌≡◌, length}
use Rattle.rules.specs.Threads.{free}
use Rattle.promises.specs.Tables.{Table16}
use Rattle.schedule.proofs.passes.free_table.Given as goal

abbrev pub invariant-loop-t : goal.invariant-loop-t
invariant-loop-t l = record { long : length l.free ≡ 16; shares : Table16 (λ a. free a l.t-index l.fn.s.threads) l.free }
