use Rattle.std.proofs.Common.{◌≡◌}
use Rattle.rules.specs.Limits.{usual_period}
use Rattle.rules.specs.Table.{Done, shares_to, rows_answer}
use Rattle.tables.proofs.rows.Given as goal

-- the rows so far are not refused, and `sum` is what their shares come to
abbrev pub invariant-loop-x : goal.invariant-loop-x
invariant-loop-x l = (l.sum ≡ shares_to l.t.rows l.x-index) × (rows_answer usual_period l.t.q l.t.rows l.x-index ≡ Done)
