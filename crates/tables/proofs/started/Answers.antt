use Rattle.std.proofs.Common.{◌≡◌, ◌≤◌, arith, add-one}
use Rattle.std.proofs.lemmas.List.{get_or-take}
use Rattle.rules.specs.Limits.{max_threads, usual_period}
use Rattle.rules.specs.Table.{Table, Done, head_answer, no_row, rows_answer, table_answer, opened_to, start}
use Rattle.promises.specs.Begin.{both_done, head_admitted, rows_admitted}
use Rattle.tables.proofs.started.Goals as goal

-- neither the head nor a row is refused
admitted : (t : Table) → table_answer usual_period t ≡ Done → (head_answer t.q t.threads ≡ Done) × (rows_answer usual_period t.q t.rows t.threads ≡ Done)
unfolding table_answer
admitted t e = both_done _ _ e

few : (t : Table) → table_answer usual_period t ≡ Done → t.threads ≤ max_threads
few t e = (head_admitted _ _ (admitted t e).0).few

pub shared_ref_as_front-x-items : goal.shared_ref_as_front-x-items
shared_ref_as_front-x-items c = few _ c.requires

pub loop-i-init : goal.loop-i-init
unfolding opened_to
loop-i-init c = rw c.no_schedule-s.ensures

pub fresh-requires : goal.fresh-requires
fresh-requires c =
    let t = c.args.t.now in
    rw (get_or-take t.threads t.rows c.loop-i.i no_row (omega arith)) (rows_admitted _ _ _ _ (admitted _ c.requires).1 c.loop-i.i (omega arith)).app_max

pub loop-i-preserved : goal.loop-i-preserved
unfolding opened_to
loop-i-preserved c =
    let t = c.args.t.now in
    rw (c.loop-i.invariant, c.fresh.ensures, get_or-take t.threads t.rows c.loop-i.i no_row (omega arith), add-one)

pub returns : goal.returns
unfolding start
returns c = let h : c.loop-i.i ≡ c.args.t.now.threads = omega arith in rw (c.loop-i.invariant, h)
