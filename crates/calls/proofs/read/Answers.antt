use Rattle.std.proofs.Common.{rules, sym, ap, ◌∙◌, arith}
use Rattle.rules.specs.Records.{decoded}
use Rattle.windows.specs.Inputs.{body_part}
use Rattle.calls.specs.Acts.{Refuses, along_none}
use Rattle.calls.proofs.read.Goals as goal

pub known-requires : goal.known-requires
known-requires g c =
    let a = c.args in
    (c.requires.0, record { kind = a.kind; framed = c.requires.1; known = sym (c.in_ok-e.ensures ∙ ap (decoded a.kind) (body_part a.w.now a.turn.now.taken a.n)) })

pub returns-in_err-e-clause-err : goal.returns-in_err-e-clause-err
returns-in_err-e-clause-err g c =
    let a = c.args in
    let o = c.requires.0 in
    let t = g.met.T.Told in
    let r : Refuses g.T.Told a.w.now a.out.now a.turn.now a.out.now a.turn.now c.in_err-e.field-0.0 = record {
      before = λ last. along_none g.T.Told t.brings_none last _ _ _ o.given o.within (omega (arith, o.fits));
      opens = o;
      brings = λ last. t.brings_unknown last _ _ _ o.undone (omega (arith, o.fits)) o.near _ _ _ c.requires.1.is (sym (c.in_err-e.ensures ∙ ap (decoded a.kind) (body_part a.w.now a.turn.now.taken a.n)));
    } in
    search rules
