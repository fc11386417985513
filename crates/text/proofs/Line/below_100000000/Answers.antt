use Rattle.std.proofs.Common.{sym, arith}
use Rattle.text.specs.Digits.{by_10000, length_by_10000}
use Rattle.text.proofs.Chain.{and_then, same_text}
use Rattle.text.proofs.Line.below_100000000.Goals as goal

pub below_10000-requires-else-n-lt10000 : goal.below_10000-requires-else-n-lt10000
below_10000-requires-else-n-lt10000 c = (omega arith, omega (arith, length_by_10000 _ c.if-n-lt10000.false))

pub bytes-requires : goal.bytes-requires
bytes-requires c = omega (arith, length_by_10000 _ c.if-n-lt10000.false)

pub returns-else-n-lt10000 : goal.returns-else-n-lt10000
returns-else-n-lt10000 c =
    same_text (sym (by_10000 _ c.if-n-lt10000.false)) (and_then c.below_10000-else-n-lt10000.ensures (rw c.four.ensures at c.bytes.ensures))
