use Rattle.std.proofs.Common.{◌∙◌, arith}
use Rattle.rules.specs.Listing.{heading}
use Rattle.text.specs.Room.{put_room}
use Rattle.bollardine.proofs.ListingTelling.heading.Goals as goal

pub returns : goal.returns
returns c =
    let r = put_room c.args.out.now 0 heading (omega arith) in
    record { written = omega (arith, c.heading.ensures.0, r.0); out_after = c.heading.ensures.1 ∙ r.1 }
