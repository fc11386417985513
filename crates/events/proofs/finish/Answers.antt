use Rattle.std.proofs.Common.{◌<◌, lit<, lit≤, w64}
use Rattle.integers.specs.Parts.{small_sub}
use Rattle.rules.specs.Limits.{clock_end}
use Rattle.rules.specs.Threads.{at}
use Rattle.promises.specs.Sound.{sound, ended_sound, freed_small, product_small}
use Rattle.events.proofs.Received.{received}
use Rattle.events.proofs.finish.Goals as goal

pub find_receiver-requires : goal.find_receiver-requires
find_receiver-requires c = rw c.ending.ensures (ended_sound (sound c.requires.0) _ c.requires.1, (sound c.requires.0).ok _ c.requires.1)

pub sub-requires : goal.sub-requires
sub-requires c =
    let s = c.args.s.now in
    let x = at s.threads c.args.k in
    let o = (sound c.requires.0).ok _ c.requires.1 in
    rw c.scaled-due.ensures (small_sub w64 _ _ (lit< tt) (product_small x.share s.clock.0 clock_end o.share_max c.requires.0.time (lit≤ tt)) o.w_small)

pub lighter-requires : goal.lighter-requires
lighter-requires c =
    let s = c.args.s.now in
    let b : c.in-Some.b < s.count = received _ _ _ _ c.in-Some.ensures in
    rw (c.ending.ensures, c.sub.ensures, c.scaled-due.ensures) (((ended_sound (sound c.requires.0) _ c.requires.1).ok _ b).w_small, freed_small c.requires.0 _ c.requires.1)
