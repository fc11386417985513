use Rattle.rules.specs.Listing.{bytes, heading}
use Rattle.text.proofs.heading.Goals as goal

pub returns : goal.returns
unfolding bytes heading
returns c = c.whole.ensures
