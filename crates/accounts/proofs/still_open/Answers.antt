use Rattle.std.proofs.Common.{arith}
use Rattle.rules.specs.Limits.{apps}
use Rattle.accounts.specs.Told.{put_as}
use Rattle.accounts.specs.Lines.{held_open}
use Rattle.accounts.specs.Ended.{kept_lined}
use Rattle.accounts.proofs.still_open.Goals as goal

pub all_held-requires : goal.all_held-requires
all_held-requires c = (kept_lined c.requires.0, omega (arith, c.requires.1))

pub returns-clause-put : goal.returns-clause-put
returns-clause-put c = put_as (held_open c.args.t.now c.args.until.0 c.args.cs.now apps) c.all_held.ensures.put
