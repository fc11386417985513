use Rattle.std.proofs.Common.{sym, ◌∙◌, arith}
use Rattle.rules.specs.Completion.{takes}
use Rattle.promises.specs.Remainders.{parted_is}
use Rattle.promises.specs.Tables.{lead_none, lead_past, lead_parted, lead_next}
use Rattle.threads.proofs.receiving.find_receiver.Goals as goal
use Rattle.threads.proofs.receiving.find_receiver.Goals.{then-can_take, else-can_take}

pub loop-i-init : goal.loop-i-init
loop-i-init c = lead_none (takes c.args.x) c.args.s.threads 0

pub closer-best-requires : goal.closer-best-requires
closer-best-requires c =
    let g = c.requires.0 in (
      parted_is (g.ok c.loop-i.i c.loop-i-test.true) c.deadline.ensures,
      lead_parted (takes c.args.x) c.args.s.threads c.loop-i.i c.loop-i.invariant (λ k h. g.ok k (omega arith)),
    )

pub loop-i-preserved : goal.loop-i-preserved
loop-i-preserved c =
    let g = c.requires.0 in
    let p = takes c.args.x in
    let xs = c.args.s.threads in
    let i = c.loop-i.i in
    let l = c.loop-i.invariant in
    let e = sym c.can_take.ensures in
    elim c.if-can_take.branch [
      | then-can_take w ↦ rw (w.best-is, w.closer-best.ensures, w.deadline.ensures) (lead_next p xs i l (λ k h. g.ok k (omega arith)) (omega (arith, g.few)) (e ∙ w.if-can_take.true))
      | else-can_take w ↦ rw w.best-is (lead_past p xs i l (e ∙ w.if-can_take.false))
    ]
