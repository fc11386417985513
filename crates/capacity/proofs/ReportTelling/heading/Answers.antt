use Rattle.std.proofs.Common.{◌∙◌, arith}
use Rattle.rules.specs.Report.{report_heading}
use Rattle.text.specs.Room.{put_room}
use Rattle.capacity.proofs.ReportTelling.heading.Goals as goal

pub returns : goal.returns
returns c =
    let r = put_room c.args.out.now 0 report_heading (omega arith) in
    record { written = omega (arith, c.report_heading.ensures.0, r.0); out_after = c.report_heading.ensures.1 ∙ r.1 }
