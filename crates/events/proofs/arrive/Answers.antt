use Rattle.std.proofs.Common.{◌<◌, arith}
use Rattle.rules.specs.Leaving.{gone}
use Rattle.promises.specs.Ready.{gone_beside, gone_good}
use Rattle.promises.specs.Always.{given_good, same_jobs}
use Rattle.promises.specs.Sound.{Sound, sound}
use Rattle.events.proofs.arrive.Goals as goal

pub woken-requires : goal.woken-requires
woken-requires c =
    let s = c.args.s in
    let i = c.args.i in
    let g : Sound (gone s) = sound (gone_good (given_good c.requires)).0 in
    let h : i < (gone s).count = omega (arith, (gone_beside s).count) in
    rw c.leaving.ensures (g.ok i h, rw (same_jobs s i) (omega arith), g.time)
