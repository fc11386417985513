use Rattle.text.proofs.Chain.{and_then}
use Rattle.text.proofs.Line.amount.Goals as goal

pub returns : goal.returns
returns c = and_then c.signed.ensures c.byte.ensures
