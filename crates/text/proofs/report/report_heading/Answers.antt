use Rattle.rules.specs.Listing.{bytes}
use Rattle.rules.specs.Report.{report_heading}
use Rattle.text.proofs.report.report_heading.Goals as goal

pub returns : goal.returns
unfolding bytes report_heading
returns c = c.whole.ensures
