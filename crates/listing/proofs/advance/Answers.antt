use Rattle.windows.specs.Progresses.{given_progress}
use Rattle.listing.specs.Ends.{came}
use Rattle.listing.proofs.advance.Goals as goal

pub advance-t-requires : goal.advance-t-requires
advance-t-requires c = given_progress c.requires

pub returns : goal.returns
returns c = let a = came c.advance-t.result c.advance-t.ensures in record { value = a.value; out_after = a.out_after; taken_in_bounds = a.taken_in_bounds }
