use Rattle.bollardine.specs.Went.{went}
use Rattle.bollardine.proofs.ListingTelling.advance.Goals as goal

pub returns : goal.returns
returns c = let a = c.advance-t.ensures in went c.advance-t.result c.requires a.value a.out_after a.taken_in_bounds
