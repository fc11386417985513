use Rattle.std.proofs.Common.{sym, arith}
use Rattle.text.specs.Digits.{by_100, length_by_100}
use Rattle.text.proofs.Chain.{and_then, same_text}
use Rattle.text.proofs.Line.below_10000.Goals as goal

pub below_100-requires-else-n-lt100 : goal.below_100-requires-else-n-lt100
below_100-requires-else-n-lt100 c = (omega arith, omega (arith, length_by_100 _ c.if-n-lt100.false))

pub bytes-requires : goal.bytes-requires
bytes-requires c = omega (arith, length_by_100 _ c.if-n-lt100.false)

pub returns-else-n-lt100 : goal.returns-else-n-lt100
returns-else-n-lt100 c = same_text (sym (by_100 _ c.if-n-lt100.false)) (and_then c.below_100-else-n-lt100.ensures (rw c.pair.ensures at c.bytes.ensures))
