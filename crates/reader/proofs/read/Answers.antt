use Rattle.std.proofs.Common.{sym, ap, ◌∙◌}
use Rattle.std.proofs.lemmas.Result.{err_from_is_err_and}
use Rattle.rules.specs.Reading.{decoded_read, read}
use Rattle.rules.specs.Refusals.{said}
use Rattle.reader.proofs.read.Goals as goal

pub returns-in_err-decode : goal.returns-in_err-decode
unfolding read
returns-in_err-decode c =
    let p = err_from_is_err_and c.from_residual.result c.from_residual.ensures.1 in
    rw (p.1, p.2) (ap (decoded_read c.args.r) (ap said (sym c.in_err-decode.was) ∙ c.decode.ensures))

pub returns : goal.returns
unfolding read
returns c = c.record.ensures ∙ ap (decoded_read c.args.r) (ap said (sym c.in_ok-decode.was) ∙ c.decode.ensures)
