use Rattle.std.proofs.Common.{true, sym, arith}
use Rattle.windows.specs.Readings.{given_reading}
use Rattle.calls.specs.Acts.{same_room, then_ok, then_err}
use Rattle.report.specs.contracts.TallyTold.TheImpl.{ghosts}
use Rattle.report.specs.Given.{tally_reading}
use Rattle.report.specs.Keeps.{tally_kept}
use Rattle.report.specs.Acts.{ticks_events, ticks_fit, ticks_given, ticks_along, ticks_acts, ticks_all}
use Rattle.report.specs.Tells.{brings_then}
use Rattle.report.proofs.TallyTold.known.Goals as goal
use Rattle.report.proofs.TallyTold.known.Goals.{then-d-gt0+else-out-turn-lt-ROOM, else-d-gt0}

pub ticks-turn-requires : goal.ticks-turn-requires
ticks-turn-requires c =
    let o = c.requires.0 in
    let due = sym c.due-d.ensures in (
      (given_reading (tally_reading o.given)).given,
      tally_kept o.given (ticks_events o c.args.n c.args.e c.requires.1 _ due c.if-d-gt0.true),
      ticks_fit o c.args.n c.args.e c.requires.1 _ due c.if-d-gt0.true,
      omega (arith, o.fits),
    )

pub returns-then-out-turn-lt-ROOM-clause-ok : goal.returns-then-out-turn-lt-ROOM-clause-ok
returns-then-out-turn-lt-ROOM-clause-ok c =
    let o = c.requires.0 in
    let t = c.ticks-turn.ensures in
    let due = sym c.due-d.ensures in
    let a = ticks_along o c.args.n c.args.e c.requires.1 _ due c.if-d-gt0.true t true in
    ticks_acts o c.args.n c.args.e c.requires.1 _ due c.if-d-gt0.true t (omega (arith, c.if-out-turn-lt-ROOM.true, same_room ghosts a))

pub apply-requires : goal.apply-requires
apply-requires c =
    let o = c.requires.0 in
    let n = c.args.n in
    let e = c.args.e in
    let z = c.requires.1 in
    let due = sym c.due-d.ensures in
    elim c.if-d-gt0.branch [
      | then-d-gt0+else-out-turn-lt-ROOM w ↦
          let t = w.ticks-turn.ensures in
          let a = ticks_along o n e z _ due w.if-d-gt0.true t true in
          let room = w.if-out-turn-lt-ROOM.false in
          rw (w.out-is, w.turn-is) (
            record { given = ticks_given o n e z _ due w.if-d-gt0.true t; undone = o.undone; near = o.near; within = o.within; fits = omega (arith, room, a.fits, same_room ghosts a) },
            z,
            ticks_all o n e z _ due w.if-d-gt0.true t (omega (arith, room, a.fits, same_room ghosts a)),
          )
      | else-d-gt0 w ↦ rw (w.out-is, w.turn-is) (o, z, omega (arith, due, w.if-d-gt0.false))
    ]

pub returns-clause-ok : goal.returns-clause-ok
returns-clause-ok c =
    let o = c.requires.0 in
    elim c.if-d-gt0.branch [
      | then-d-gt0+else-out-turn-lt-ROOM w ↦
          then_ok ghosts brings_then c.apply.result _ _ (ticks_along o c.args.n c.args.e c.requires.1 _ (sym c.due-d.ensures) w.if-d-gt0.true w.ticks-turn.ensures) (rw (w.out-is, w.turn-is) at c.apply.ensures.ok)
      | else-d-gt0 w ↦ rw (w.out-is, w.turn-is) at c.apply.ensures.ok
    ]

pub returns-clause-err : goal.returns-clause-err
returns-clause-err c =
    let o = c.requires.0 in
    elim c.if-d-gt0.branch [
      | then-d-gt0+else-out-turn-lt-ROOM w ↦
          then_err ghosts brings_then c.apply.result _ _ (ticks_along o c.args.n c.args.e c.requires.1 _ (sym c.due-d.ensures) w.if-d-gt0.true w.ticks-turn.ensures) (rw (w.out-is, w.turn-is) at c.apply.ensures.err)
      | else-d-gt0 w ↦ rw (w.out-is, w.turn-is) at c.apply.ensures.err
    ]
