use Rattle.std.proofs.Common.{◌≡◌, sym, ap, ◌∙◌}
use Rattle.std.proofs.lemmas.Result.{err_from_is_err_and}
use Rattle.rules.specs.Limits.{usual_period}
use Rattle.rules.specs.Table.{Table, Done, head_answer, rows_answer, table_answer, opening}
use Rattle.rules.specs.Refusals.{answer_of}
use Rattle.promises.specs.Begin.{head_admitted}
use Rattle.tables.proofs.begin.Goals as goal

-- neither the head nor a row is refused
admitted : (t : Table) → head_answer t.q t.threads ≡ Done → rows_answer usual_period t.q t.rows t.threads ≡ Done → table_answer usual_period t ≡ Done
unfolding table_answer
admitted t h a = rw (h, a)

pub returns-in_err-head : goal.returns-in_err-head
unfolding opening table_answer
returns-in_err-head c =
    let p = err_from_is_err_and c.from_residual.result c.from_residual.ensures.1 in
    rw (p.1, p.2, sym c.head.ensures ∙ ap answer_of c.in_err-head.was)

pub rows-requires : goal.rows-requires
rows-requires c = (head_admitted _ _ (sym c.head.ensures ∙ ap answer_of c.in_ok-head.was)).few

pub returns-in_err-rows : goal.returns-in_err-rows
unfolding opening table_answer
returns-in_err-rows c =
    let p = err_from_is_err_and c.from_residual-in_err-rows.result c.from_residual-in_err-rows.ensures.1 in
    rw (p.1, p.2, sym c.head.ensures ∙ ap answer_of c.in_ok-head.was, sym c.rows.ensures ∙ ap answer_of c.in_err-rows.was)

pub started-requires : goal.started-requires
started-requires c = admitted c.args.t (sym c.head.ensures ∙ ap answer_of c.in_ok-head.was) (sym c.rows.ensures ∙ ap answer_of c.in_ok-rows.was)

pub returns : goal.returns
unfolding opening
returns c = rw (c.started.ensures, admitted c.args.t (sym c.head.ensures ∙ ap answer_of c.in_ok-head.was) (sym c.rows.ensures ∙ ap answer_of c.in_ok-rows.was))
