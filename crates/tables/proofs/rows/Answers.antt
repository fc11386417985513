use Rattle.std.proofs.Common.{◌≡◌, ℕ, ◌+◌, ◌<◌, refl, sym, ap, ◌∙◌, arith, take}
use Rattle.std.proofs.lemmas.List.{get_or-take}
use Rattle.std.proofs.lemmas.Result.{err_from_is_err_and}
use Rattle.rules.specs.Limits.{usual_period}
use Rattle.rules.specs.Table.{Table, Answer, Done, row_answer, row_at, no_row, shares_to, rows_answer}
use Rattle.rules.specs.Refusals.{answer_of}
use Rattle.promises.specs.Begin.{shares_within}
use Rattle.promises.specs.Admission.{shares_more, rows_more, refusal_stands}
use Rattle.tables.proofs.rows.Goals as goal

-- what the first i + 1 rows answer
answered : (t : Table) (sum n i : ℕ) (a : Answer) → i < n → sum ≡ shares_to t.rows i → rows_answer usual_period t.q t.rows i ≡ Done
    → a ≡ row_answer usual_period t.q sum (row_at (take n t.rows) i) → rows_answer usual_period t.q t.rows (i + 1) ≡ a
answered t sum n i a h s d e = rows_more usual_period t.q t.rows i d ∙ sym (rw (← s, ← get_or-take n t.rows i no_row h) e)

pub loop-x-init : goal.loop-x-init
unfolding shares_to rows_answer
loop-x-init c = (refl, refl)

pub returns-in_err-row : goal.returns-in_err-row
returns-in_err-row c =
    let t = c.args.t.now in
    let l = c.loop-x in
    let p = err_from_is_err_and c.from_residual.result c.from_residual.ensures.1 in
    let a = answered t l.sum t.threads l.x-index _ (omega arith) l.invariant.0 l.invariant.1 c.row.ensures ∙ ap answer_of c.in_err-row.was in
    rw (p.1, p.2) (sym (refusal_stands usual_period t.q t.rows (l.x-index + 1) _ a t.threads (omega arith)))

pub overflow_add-sum : goal.overflow_add-sum
overflow_add-sum c =
    let t = c.args.t.now in
    let l = c.loop-x in
    let a = answered t l.sum t.threads l.x-index _ (omega arith) l.invariant.0 l.invariant.1 c.row.ensures ∙ ap answer_of c.in_ok-row.was in
    rw (get_or-take t.threads t.rows l.x-index no_row (omega arith)) (omega (arith, shares_more t.rows l.x-index, shares_within usual_period t.q t.rows (l.x-index + 1) a))

pub loop-x-preserved : goal.loop-x-preserved
loop-x-preserved c =
    let t = c.args.t.now in
    let l = c.loop-x in
    let a = answered t l.sum t.threads l.x-index _ (omega arith) l.invariant.0 l.invariant.1 c.row.ensures ∙ ap answer_of c.in_ok-row.was in
    (rw (get_or-take t.threads t.rows l.x-index no_row (omega arith), l.invariant.0, shares_more), a)
