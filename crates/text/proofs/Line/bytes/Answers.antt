use Rattle.std.proofs.Common.{rules, refl, arith}
use Rattle.text.proofs.Chain.{copied}
use Rattle.text.proofs.Line.bytes.Goals as goal

pub returns : goal.returns
returns c =
    let l = c.args.self.now in
    record {
      same = refl;
      long = search rules;
      put = record { next = refl; stored = copied l.out.now c.args.text.now c.copy_from_slice.new.self l.at _ c.requires c.copy_from_slice.ensures.after (omega arith) };
    }
