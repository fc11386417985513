use Rattle.report.specs.Calls.{went}
use Rattle.report.proofs.advance.Goals as goal

pub returns : goal.returns
returns c = went c.advance-t.result c.advance-t.ensures
