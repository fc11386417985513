use Rattle.std.proofs.Common.{List, sym, ap, ◌∙◌, subst, arith}
use Rattle.std.proofs.lemmas.Result.{err_from_is_err_and}
use Rattle.rules.specs.Reading.{Read}
use Rattle.rules.specs.History.{Happening}
use Rattle.windows.specs.Readings.{given_reading}
use Rattle.accounts.specs.Told.{Tells, tells_none}
use Rattle.report.specs.Given.{tally_reading}
use Rattle.report.specs.Events.{quiet_event, event_place, event_done}
use Rattle.report.specs.Keeps.{tally_kept}
use Rattle.report.specs.Acts.{refused_acts, read_acts}
use Rattle.report.proofs.apply.Goals as goal
use Rattle.report.proofs.apply.Goals.{then-is_event, else-is_event}

pub returns-in_err-next-clause-err : goal.returns-in_err-next-clause-err
returns-in_err-next-clause-err c =
    let e = err_from_is_err_and c.from_residual.result c.from_residual.ensures.1 in
    rw (e.1, e.2) (refused_acts c.requires.0 c.args.n c.args.e c.requires.1 c.requires.2 _ (sym (ap (λ (r : Read). r.answer) c.in_err-next.ensures)))

pub event-turn-requires : goal.event-turn-requires
event-turn-requires c =
    let p = c.args.turn.now.progress in
    let o = c.requires.0 in
    let is = sym c.is_event.ensures ∙ c.if-is_event.true in
    let answer = sym (ap (λ (r : Read). r.answer) c.in_ok-next.ensures) in (
      (given_reading (tally_reading o.given)).given,
      tally_kept o.given (event_place p.reading c.args.e is answer),
      event_done p.reading c.args.e is answer c.requires.2,
      omega (arith, o.fits),
    )

pub returns-clause-ok : goal.returns-clause-ok
returns-clause-ok c =
    let a = c.args in
    let p = a.turn.now.progress in
    let o = c.requires.0 in
    let done = sym c.in_ok-next.ensures in
    elim c.if-is_event.branch [
      | then-is_event w ↦
          let t = w.event-turn.ensures in
          rw (w.out-is, w.turn-is, w.p-is) (read_acts o a.n a.e c.requires.1 c.requires.2 _ done t.tells (omega (arith, o.fits, t.used_bound)))
      | else-is_event w ↦
          let quiet = quiet_event a.e (sym c.is_event.ensures ∙ w.if-is_event.false) p.reading.state in
          rw (w.out-is, w.turn-is, w.p-is) (read_acts o a.n a.e c.requires.1 c.requires.2 _ done
          (subst (λ (hs : List Happening). Tells p.reading.table p.activities hs a.out.now a.turn.now.written a.out.now a.turn.now.written p.activities) (sym quiet) tells_none)
          (omega (arith, o.fits)))
    ]
