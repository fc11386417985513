use Rattle.std.proofs.Common.{ℕ, ◌+◌, ◌-◌, ◌≤◌, length, arith}
use borrow.Rule.Slice.PartMut.{put_mid, take_put, same_len_mid}
use Rattle.shell.specs.Shell.{made}
use Rattle.shell.specs.Kept.{moved, read_filled}
use Rattle.shell.proofs.fill.Goals as goal

pub returns-clause-stops_or : goal.returns-clause-stops_or
returns-clause-stops_or g c =
    let s = c.args.s in
    let kept : ℕ = s.end - s.start in
    let was = c.args.buf.now in
    let b = c.copy_within.new.self in
    let n = c.in-Ok.n in
    let room : ℕ = length b - kept in
    let front : kept ≤ length b = omega (arith, c.copy_within.ensures.len) in
    let fits : kept + n ≤ length (put_mid kept room b c.read.new.buf) = omega (arith, same_len_mid kept room b c.read.new.buf c.read.auto.buf, c.in-Ok.ensures.bound) in
    made (read_filled was b (put_mid kept room b c.read.new.buf) s n c.requires.going_value c.if-not-s.false c.if-s.false (moved was b s.start s.end c.requires.good.ordered c.requires.good.within c.copy_within.ensures.after) (take_put kept room b c.read.new.buf front) fits (λ i. omega (arith, c.type_inv.buf i)))
