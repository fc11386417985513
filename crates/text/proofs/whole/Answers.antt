use Rattle.std.proofs.Common.{rules}
use Rattle.text.proofs.Chain.{placed, put}
use Rattle.text.proofs.whole.Goals as goal

pub returns : goal.returns
returns c = put c.has_room.ensures c.if-not-has_room.false (placed c.bytes.ensures (search rules))
