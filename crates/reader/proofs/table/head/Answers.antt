use Rattle.std.proofs.Common.{sym, ap, ◌∙◌, eq-eqb, ne_eqb}
use Rattle.std.proofs.lemmas.Result.{err_from_is_err_and}
use Rattle.rules.specs.Reading.{record_read}
use Rattle.rules.specs.Refusals.{answer_of}
use Rattle.windows.specs.Readings.{given_reading}
use Rattle.reader.specs.Parts.{head_taken}
use Rattle.reader.proofs.table.head.Goals as goal

pub returns-then-r-ne0 : goal.returns-then-r-ne0
unfolding record_read
returns-then-r-ne0 c = rw (ne_eqb _ _ c.if-r-ne0.true)

pub returns-in_err-head : goal.returns-in_err-head
unfolding record_read
returns-in_err-head c =
    let p = err_from_is_err_and c.from_residual.result c.from_residual.ensures.1 in
    rw (p.1, p.2, eq-eqb _ _ c.if-r-ne0.false, sym c.head.ensures ∙ ap answer_of c.in_err-head.was)

pub returns : goal.returns
returns c = head_taken c.args.r c.args.q c.args.n ((given_reading c.requires).bare c.if-r-ne0.false) (sym c.head.ensures ∙ ap answer_of c.in_ok-head.was)
