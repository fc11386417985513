use Rattle.std.proofs.Common.{rules, ap, length, arith}
use Rattle.text.specs.Laws.{decimal_32, ended_length}
use Rattle.text.specs.Accounts.{how_text, word_length, span_most, sums_most, account_parts}
use Rattle.text.proofs.Chain.{and_then, same_text, placed, room, put_wide}
use Rattle.text.proofs.report.stretch.Goals as goal

pub span-requires : goal.span-requires
span-requires c = omega (arith, room c.has_room.ensures c.if-not-has_room.false, span_most)

pub field-requires : goal.field-requires
field-requires c = omega (arith, ended_length, room c.has_room.ensures c.if-not-has_room.false, span_most, decimal_32)

pub sums-requires : goal.sums-requires
sums-requires c =
    let a = c.args in
    omega (arith, ended_length, room c.has_room.ensures c.if-not-has_room.false, span_most, decimal_32, sums_most a.c.lost.0 a.share a.sum.0 (search rules) c.ranges.share.fits (search rules))

pub bytes-requires : goal.bytes-requires
bytes-requires c =
    let a = c.args in
    omega (arith, ended_length, room c.has_room.ensures c.if-not-has_room.false, span_most, decimal_32, sums_most a.c.lost.0 a.share a.sum.0 (search rules) c.ranges.share.fits (search rules), ap length c.word.ensures, word_length)

pub byte-requires : goal.byte-requires
byte-requires c =
    let a = c.args in
    omega (arith, ended_length, room c.has_room.ensures c.if-not-has_room.false, span_most, decimal_32, sums_most a.c.lost.0 a.share a.sum.0 (search rules) c.ranges.share.fits (search rules), ap length c.word.ensures, word_length)

pub returns : goal.returns
unfolding how_text
returns c =
    let a = c.args in
    put_wide c.has_room.ensures c.if-not-has_room.false
    (placed
    (same_text (account_parts a.app a.until.0 a.c a.share a.sum.0 a.how)
    (and_then c.span.ensures (and_then c.field.ensures (and_then c.sums.ensures (and_then (rw c.word.ensures at c.bytes.ensures) c.byte.ensures)))))
    (search rules))
