use Rattle.std.proofs.Common.{sym, le_refl}
use Rattle.promises.specs.Sound.{given_sound}
use Rattle.promises.specs.Tables.{free_none}
use Rattle.schedule.proofs.look.free_share.Goals as goal

pub returns-then-a-gt-MAX_APP : goal.returns-then-a-gt-MAX_APP
returns-then-a-gt-MAX_APP c = sym (free_none (given_sound c.requires) _ c.if-a-gt-MAX_APP.true _ (le_refl _))

pub free_table-requires : goal.free_table-requires
free_table-requires c = given_sound c.requires
