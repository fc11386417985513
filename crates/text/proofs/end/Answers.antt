use Rattle.std.proofs.Common.{rules, sym, arith}
use Rattle.rules.specs.Listing.{bytes}
use Rattle.text.specs.Laws.{decimal_32, ended_length}
use Rattle.text.specs.Lines.{end_parts}
use Rattle.text.proofs.Chain.{room, placed, put, and_then, same_text}
use Rattle.text.proofs.end.Goals as goal

pub field-requires : goal.field-requires
field-requires c = omega (arith, ended_length, room c.has_room.ensures c.if-not-has_room.false, decimal_32)

pub returns : goal.returns
unfolding bytes
returns c =
    put c.has_room.ensures c.if-not-has_room.false
    (placed (same_text (sym (end_parts c.args.t)) (and_then c.bytes.ensures c.field.ensures)) (search rules))
