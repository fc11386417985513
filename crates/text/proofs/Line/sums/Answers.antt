use Rattle.text.proofs.Chain.{and_then}
use Rattle.text.proofs.Line.sums.Goals as goal

pub returns : goal.returns
returns c = and_then c.amount.ensures (and_then c.field.ensures c.amount-2.ensures)
