use Rattle.std.proofs.Common.{ap, arith}
use Rattle.rules.specs.Threads.{State}
use Rattle.promises.specs.Always.{given_good}
use Rattle.accounts.specs.Told.{put_length}
use Rattle.accounts.specs.Ticks.{taken_by, tells_tick, noted_none, noted_more, noted_to, kept_at, given_at, early_at}
use Rattle.accounts.proofs.ticks.ticks.Goals as goal

pub loop-init : goal.loop-init
loop-init c = noted_none _ _ _ _ _ _ c.requires.3

pub leaving-used-requires : goal.leaving-used-requires
leaving-used-requires c =
    let v = c.loop.invariant in
    (given_good (given_at c.loop.counter v.state c.requires.0), kept_at c.requires.0 c.requires.1 v, omega arith)

pub lead_on-requires : goal.lead_on-requires
lead_on-requires c = given_at c.loop.counter c.loop.invariant.state c.requires.0

pub taken-used-requires : goal.taken-used-requires
taken-used-requires c =
    let l = c.loop in
    let v = l.invariant in
    let e = c.leaving-used.ensures in
    let early = early_at c.args.s.now l.s l.counter c.args.n v.state c.loop-test.true c.requires.2 in (
      taken_by (given_good (given_at l.counter v.state c.requires.0)) (kept_at c.requires.0 c.requires.1 v) early _ (ap (λ (x : State). x.had) c.lead_on.ensures) _ e.tells.stands,
      omega (arith, c.if-out-used-lt-ROOM.false, e.used_bound, put_length e.tells.put),
    )

pub loop-preserved : goal.loop-preserved
loop-preserved c =
    let l = c.loop in
    let v = l.invariant in
    let e = c.leaving-used.ensures in
    let f = c.taken-used.ensures in
    let early = early_at c.args.s.now l.s l.counter c.args.n v.state c.loop-test.true c.requires.2 in
    noted_more _ _ _ _ _ _ l.counter v c.loop-test.true (omega arith) c.lead_on.ensures
    (tells_tick (given_good (given_at l.counter v.state c.requires.0)) (kept_at c.requires.0 c.requires.1 v) early _ (ap (λ (x : State). x.had) c.lead_on.ensures) e.tells f.tells)
    (omega (arith, e.used_bound, f.used_bound))

pub returns-after-loop : goal.returns-after-loop
returns-after-loop c = noted_to _ _ _ _ _ _ c.loop.counter c.loop.invariant (λ h. absurd (omega (arith, h, c.loop-test.false)))

pub returns-then-out-used-lt-ROOM : goal.returns-then-out-used-lt-ROOM
returns-then-out-used-lt-ROOM c = noted_to _ _ _ _ _ _ c.loop.counter c.loop.invariant (λ h. omega (arith, c.if-out-used-lt-ROOM.true))
