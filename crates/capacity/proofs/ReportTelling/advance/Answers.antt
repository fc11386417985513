use Rattle.capacity.specs.Went.{went}
use Rattle.capacity.proofs.ReportTelling.advance.Goals as goal

pub returns : goal.returns
returns c = went c.advance-t.result c.advance-t.ensures
