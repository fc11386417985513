use Rattle.std.proofs.Common.{rules, sym, arith}
use Rattle.rules.specs.Listing.{bytes}
use Rattle.text.specs.Laws.{decimal_8, decimal_64, ended_length}
use Rattle.text.specs.Lines.{refusal_parts}
use Rattle.text.proofs.Chain.{room, placed, put, and_then, same_text}
use Rattle.text.proofs.refusal.Goals as goal

pub decimal-requires : goal.decimal-requires
decimal-requires c = omega (arith, room c.has_room.ensures c.if-not-has_room.false, decimal_8)

pub bytes-requires-2 : goal.bytes-requires-2
bytes-requires-2 c = omega (arith, room c.has_room.ensures c.if-not-has_room.false, decimal_8)

pub field-requires : goal.field-requires
field-requires c =
    omega (arith, ended_length, room c.has_room.ensures c.if-not-has_room.false, decimal_8, decimal_64)

pub returns : goal.returns
unfolding bytes
returns c =
    put c.has_room.ensures c.if-not-has_room.false
    (placed
    (same_text (sym (refusal_parts c.args.n c.args.b)) (and_then c.bytes.ensures (and_then c.decimal.ensures (and_then c.bytes-2.ensures c.field.ensures))))
    (search rules))
