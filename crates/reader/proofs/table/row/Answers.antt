use Rattle.std.proofs.Common.{◌≡◌, ◌<◌, ℕ, take, sum_by, sym, ap, ◌∙◌, arith}
use Rattle.std.proofs.lemmas.Result.{err_from_is_err_and}
use Rattle.rules.specs.Limits.{max_threads, usual_period}
use Rattle.rules.specs.Table as table
use Rattle.rules.specs.Table.{Answer, Answered, Done, Refused, no_schedule, row_answer, shares_to}
use Rattle.rules.specs.Reading.{Reading}
use Rattle.rules.specs.Input.{GivenReading}
use Rattle.rules.specs.Refusals.{answer_of, answered, number}
use Rattle.promises.specs.Begin.{head_admitted, shares_within}
use Rattle.windows.specs.Readings.{given_reading, few_threads}
use Rattle.reader.specs.Parts.{its_answer, rowed_to, shares_sum, row_out, row_refused, row_begins, row_last, row_joined}
use Rattle.reader.proofs.table.row.Goals as goal

module _ {r : Reading} (g : GivenReading r) (h : r.rows < r.table.threads) where
  -- there is room for the row
  inside : r.rows < max_threads
  inside = omega (arith, h, few_threads (given_reading g) (λ e. omega (arith, e, h)))

  -- the shares so far
  so_far : sum_by (λ (x : table.Row). x.share) (take r.rows r.table.rows) ≡ shares_to r.table.rows r.rows
  so_far = shares_sum r.table.rows r.rows (omega (arith, inside, (given_reading g).long))

  -- what the row answers
  what_row : (x : table.Row) (sum : ℕ) (a : Answer) → a ≡ row_answer usual_period r.table.q sum x → sum ≡ sum_by (λ (x : table.Row). x.share) (take r.rows r.table.rows) → its_answer r x ≡ a
  what_row x sum a e s = sym (e ∙ ap (λ (n : ℕ). row_answer usual_period r.table.q n x) (s ∙ so_far))

pub returns-then-k-n : goal.returns-then-k-n
returns-then-k-n c = row_out c.args.r c.args.x c.if-k-n.true

pub shared_ref_as_front-shares : goal.shared_ref_as_front-shares
shared_ref_as_front-shares c = omega (arith, inside c.requires c.if-k-n.false)

pub shares-requires : goal.shares-requires
shares-requires c =
    let r = c.args.r in
    let g = given_reading c.requires in
    let q = (head_admitted _ _ (g.head (λ e. omega (arith, e, c.if-k-n.false)))).q_max in
    rw (so_far c.requires c.if-k-n.false) (omega (arith, q, shares_within usual_period r.table.q r.table.rows r.rows g.rows))

pub returns-in_err-row : goal.returns-in_err-row
returns-in_err-row c =
    let p = err_from_is_err_and c.from_residual.result c.from_residual.ensures.1 in
    rw (p.1, p.2)
    (row_refused c.args.r c.args.x c.if-k-n.false _ (what_row c.requires c.if-k-n.false c.args.x _ _ c.row.ensures c.shares.ensures ∙ ap answer_of c.in_err-row.was))

pub bounds-r-k : goal.bounds-r-k
bounds-r-k c = inside c.requires c.if-k-n.false

pub returns-in_err-r : goal.returns-in_err-r
returns-in_err-r c =
    let s = c.args in
    let d = what_row c.requires c.if-k-n.false s.x _ _ c.row.ensures c.shares.ensures ∙ ap answer_of c.in_ok-row.was in
    let h : Refused (number _) ≡ Done =
    ap (λ (x : Answered). x.answer)
    (ap (answered no_schedule) (sym c.in_err-r.was) ∙ c.begin.ensures ∙ row_begins s.r s.x c.if-k-n.false d (given_reading c.requires) c.if-r-n.true)
    in cc

pub returns-in_ok-r : goal.returns-in_ok-r
returns-in_ok-r c =
    let s = c.args in
    let d = what_row c.requires c.if-k-n.false s.x _ _ c.row.ensures c.shares.ensures ∙ ap answer_of c.in_ok-row.was in
    ap (λ (o : Answered). rowed_to s.r s.x c.if-k-n.false d o.state) (ap (answered no_schedule) (sym c.in_ok-r.was) ∙ c.begin.ensures)
    ∙ row_last s.r s.x c.if-k-n.false d (given_reading c.requires) c.if-r-n.true

pub returns-else-r-n : goal.returns-else-r-n
returns-else-r-n c =
    let s = c.args in
    let d = what_row c.requires c.if-k-n.false s.x _ _ c.row.ensures c.shares.ensures ∙ ap answer_of c.in_ok-row.was in
    row_joined s.r s.x c.if-k-n.false d (given_reading c.requires) c.if-r-n.false
