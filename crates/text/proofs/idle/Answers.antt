use Rattle.std.proofs.Common.{rules, sym, arith}
use Rattle.rules.specs.Listing.{bytes}
use Rattle.text.specs.Laws.{decimal_32}
use Rattle.text.specs.Lines.{idle_parts}
use Rattle.text.proofs.Chain.{room, placed, put, and_then, same_text}
use Rattle.text.proofs.idle.Goals as goal

pub decimal-requires : goal.decimal-requires
decimal-requires c = omega (arith, room c.has_room.ensures c.if-not-has_room.false, decimal_32)

pub bytes-requires : goal.bytes-requires
bytes-requires c = omega (arith, room c.has_room.ensures c.if-not-has_room.false, decimal_32)

pub returns : goal.returns
unfolding bytes
returns c =
    put c.has_room.ensures c.if-not-has_room.false
    (placed (same_text (sym (idle_parts c.args.tick)) (and_then c.decimal.ensures c.bytes.ensures)) (search rules))
