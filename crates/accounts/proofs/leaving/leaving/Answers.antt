use Rattle.std.proofs.Common.{sym, ◌∙◌, arith, ℕ, ◌<◌}
use Rattle.rules.specs.Threads.{State, at}
use Rattle.promises.specs.Good.{Good}
use Rattle.promises.specs.Ready.{steady}
use Rattle.promises.specs.Sound.{RowOk, sound}
use Rattle.accounts.specs.Told.{put_length}
use Rattle.accounts.specs.Rest.{left_none, left_rests, left_stays, left_goes, left_all, left_closed}
use Rattle.accounts.proofs.leaving.leaving.Goals as goal
use Rattle.accounts.proofs.leaving.leaving.Goals.{then-leaves, else-leaves}

pub returns-then-s-clause-tells : goal.returns-then-s-clause-tells
returns-then-s-clause-tells c = left_closed c.requires.0 c.requires.1 c.args.out.now c.args.from c.if-s.true

pub loop-i-init : goal.loop-i-init
loop-i-init c = left_none c.requires.0 c.requires.1 c.args.out.now c.args.from

-- a thread of the state is one as a row says
okay : {s : State} → Good s → (i : ℕ) → i < s.count → RowOk (at s.threads i)
okay g i h = (sound (steady g)).ok i h

pub leaves-requires : goal.leaves-requires
leaves-requires c = (okay c.requires.0 c.loop-i.i c.loop-i-test.true).share_max

pub freed-requires : goal.freed-requires
freed-requires c = okay c.requires.0 c.loop-i.i c.loop-i-test.true

pub rest-used-requires : goal.rest-used-requires
rest-used-requires c =
    let v = c.loop-i.invariant in
    let h = c.loop-i-test.true in (
      rw c.freed.ensures (left_rests c.requires.0 c.requires.1 v h (sym c.leaves.ensures ∙ c.if-leaves.true)),
      omega (arith, c.requires.2, v.short, put_length v.tells.put, h, c.requires.0.rows.few),
    )

pub loop-i-preserved : goal.loop-i-preserved
loop-i-preserved c =
    let v = c.loop-i.invariant in
    let h = c.loop-i-test.true in
    elim c.if-leaves.branch [
      | then-leaves w ↦
          let e = w.rest-used.ensures in
          rw (w.out-is, w.used-is, w.cs-is)
          (left_goes c.requires.0 c.requires.1 v h (sym c.leaves.ensures ∙ w.if-leaves.true) w.freed.result w.freed.ensures e.put e.activities_value e.upper_bound)
      | else-leaves w ↦ rw (w.out-is, w.used-is, w.cs-is) (left_stays c.requires.0 c.requires.1 v h (sym c.leaves.ensures ∙ w.if-leaves.false))
    ]

pub returns : goal.returns
returns c =
    let p = left_all c.requires.0 c.requires.1 c.loop-i.invariant c.if-s.false c.loop-i-test.false in
    record { tells = p.0; used_bound = p.1 }
