use Rattle.std.proofs.Common.{◌≡◌}
use Rattle.rules.specs.Stretches.{share_to}
use Rattle.accounts.proofs.lines.share_of.Given as goal

abbrev pub invariant-loop-x : goal.invariant-loop-x
invariant-loop-x l = l.sum ≡ share_to l.a l.t.rows l.x-index
