use Rattle.std.proofs.Common.{sym, arith}
use Rattle.text.specs.Digits.{below_10, below_100, length_below_10, length_below_100}
use Rattle.text.proofs.Chain.{same_text}
use Rattle.text.proofs.Line.below_100.Goals as goal

pub byte-requires : goal.byte-requires
byte-requires c = omega (arith, length_below_10 _ c.if-n-lt10.true)

pub returns-then-n-lt10 : goal.returns-then-n-lt10
returns-then-n-lt10 c = same_text (sym (below_10 _ c.if-n-lt10.true)) c.byte.ensures

pub bytes-requires : goal.bytes-requires
bytes-requires c = omega (arith, length_below_100 _ c.if-n-lt10.false c.requires.0)

pub returns-else-n-lt10 : goal.returns-else-n-lt10
returns-else-n-lt10 c = same_text (sym (below_100 _ c.if-n-lt10.false c.requires.0)) (rw c.pair.ensures at c.bytes.ensures)
