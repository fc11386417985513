use Rattle.accounts.specs.Lines.{put_line}
use Rattle.accounts.proofs.lines.line.Goals as goal

pub returns : goal.returns
returns c =
    let a = c.args in
    let z = c.balance-sum in
    let p = put_line a.how c.requires.0 a.out.now a.at c.requires.1 c.share_of-share.result c.share_of-share.ensures z.result z.ensures _ _ c.stretch.ensures.0 c.stretch.ensures.1 in
    record { put = p.0; upper_bound = p.1 }
