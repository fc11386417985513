use Rattle.std.proofs.Common.{rules, sym, arith}
use Rattle.text.specs.Laws.{decimal_8, decimal_16, decimal_32, signed_64, ended_length}
use Rattle.text.specs.Lines.{grant_parts}
use Rattle.text.proofs.Chain.{room, placed, put, and_then, same_text}
use Rattle.text.proofs.granted.Goals as goal

pub field-requires : goal.field-requires
field-requires c = omega (arith, ended_length, room c.has_room.ensures c.if-not-has_room.false, decimal_32)

pub field-requires-2 : goal.field-requires-2
field-requires-2 c = omega (arith, ended_length, room c.has_room.ensures c.if-not-has_room.false, decimal_32, decimal_16)

pub field-requires-3 : goal.field-requires-3
field-requires-3 c = omega (arith, ended_length, room c.has_room.ensures c.if-not-has_room.false, decimal_32, decimal_16)

pub amount-requires : goal.amount-requires
amount-requires c =
    omega (arith, ended_length, room c.has_room.ensures c.if-not-has_room.false, decimal_32, decimal_16, signed_64 c.args.e.0 (search rules))

pub amount-requires-2 : goal.amount-requires-2
amount-requires-2 c =
    omega (arith, ended_length, room c.has_room.ensures c.if-not-has_room.false, decimal_32, decimal_16, decimal_8, signed_64 c.args.e.0 (search rules), signed_64 c.args.w.0 (search rules))

pub returns : goal.returns
returns c =
    let a = c.args in
    put c.has_room.ensures c.if-not-has_room.false
    (placed
    (same_text (sym (grant_parts a.tick a.thread a.app a.e.0 a.w.0))
    (and_then c.field.ensures (and_then c.field-2.ensures (and_then c.field-3.ensures (and_then c.amount.ensures c.amount-2.ensures)))))
    (search rules))
