use Rattle.std.proofs.Common.{lit<}
use Rattle.std.specs.Int.{w64}
use Rattle.integers.specs.Parts.{small_sub}
use Rattle.threads.proofs.thread.fit_one.Goals as goal

pub sub-requires : goal.sub-requires
sub-requires c = small_sub w64 _ _ (lit< tt) c.requires.e_small c.requires.w_small
