use Rattle.windows.specs.Readings.{reading_by}
use Rattle.limits.proofs.Stays.{reading_stays}
use Rattle.limits.proofs.late_records.taking.Goals as goal

pub returns : goal.returns
returns g c = rw c.unwrap_or-z.ensures (reading_stays c.args.r c.record-x.result c.record-x.ensures (reading_by c.requires _))
