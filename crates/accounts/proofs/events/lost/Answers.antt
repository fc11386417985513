use Rattle.promises.specs.Ready.{steady}
use Rattle.promises.specs.Sound.{sound, ended_sound}
use Rattle.accounts.proofs.events.lost.Goals as goal

pub find_receiver-requires : goal.find_receiver-requires
find_receiver-requires c =
    let g = sound (steady c.requires.0) in
    (rw c.ending.ensures (ended_sound g c.args.k c.requires.1), g.ok c.args.k c.requires.1)

pub freed-requires : goal.freed-requires
freed-requires c = (sound (steady c.requires.0)).ok c.args.k c.requires.1
