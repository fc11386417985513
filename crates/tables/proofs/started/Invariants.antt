use Rattle.std.proofs.Common.{◌≡◌}
use Rattle.rules.specs.Limits.{usual_period}
use Rattle.rules.specs.Threads.{with_rows}
use Rattle.rules.specs.Table.{opened_to, no_schedule}
use Rattle.tables.proofs.started.Given as goal

-- the first i rows are threads, and nothing else has changed
abbrev pub invariant-loop-i : goal.invariant-loop-i
invariant-loop-i l = l.s ≡ with_rows no_schedule (opened_to usual_period l.t.rows l.i)
