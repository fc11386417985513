use Rattle.text.proofs.Chain.{and_then}
use Rattle.text.proofs.Line.field.Goals as goal

pub returns : goal.returns
returns c = and_then c.decimal.ensures c.byte.ensures
