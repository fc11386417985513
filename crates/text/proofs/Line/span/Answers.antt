use Rattle.text.proofs.Chain.{and_then}
use Rattle.text.proofs.Line.span.Goals as goal

pub returns : goal.returns
returns c = and_then c.field.ensures (and_then c.field-2.ensures c.field-3.ensures)
