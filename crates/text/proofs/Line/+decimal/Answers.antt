use Rattle.std.proofs.Common.{sym, arith}
use Rattle.text.specs.Digits.{by_100000000, length_by_100000000}
use Rattle.text.proofs.Chain.{and_then, same_text}
use Rattle.text.proofs.Line.+decimal.Goals as goal

pub decimal-requires : goal.decimal-requires
decimal-requires t c = (omega arith, omega (arith, length_by_100000000 _ c.if-n-lt100000000.false))

pub bytes-requires : goal.bytes-requires
bytes-requires t c = omega (arith, length_by_100000000 _ c.if-n-lt100000000.false)

pub returns-else-n-lt100000000 : goal.returns-else-n-lt100000000
returns-else-n-lt100000000 t c = same_text (sym (by_100000000 _ c.if-n-lt100000000.false)) (and_then c.decimal.ensures (rw c.eight.ensures at c.bytes.ensures))
