use Rattle.std.proofs.Common.{refl, sym, ap, arith}
use Rattle.std.proofs.lemmas.Result.{err_from_is_err_and}
use Rattle.rules.specs.Input.{InputRead}
use Rattle.windows.specs.Readings.{given_reading}
use Rattle.report.specs.Given.{tally_reading}
use Rattle.report.specs.Keeps.{tally_kept}
use Rattle.report.specs.Ends.{end_events, end_open, end_refused, end_put}
use Rattle.report.proofs.TallyTold.end.Goals as goal

pub returns-in_err-ended-clause-err : goal.returns-in_err-ended-clause-err
returns-in_err-ended-clause-err c =
    let p = c.args.self.now in
    let e = err_from_is_err_and c.from_residual.result c.from_residual.ensures.1 in
    rw (e.1, e.2) (refl, end_refused p.reading p.activities p.place _ (sym (ap (λ (x : InputRead). x.answer) (c.in_err-ended.ensures p.place))))

pub still_open-held-requires : goal.still_open-held-requires
still_open-held-requires c =
    let p = c.args.self.now in (
      record {
        state = p.reading.state;
        given = (given_reading (tally_reading c.requires.0)).given;
        kept = tally_kept c.requires.0 (end_events p.reading p.activities p.place (sym (ap (λ (x : InputRead). x.answer) (c.in_ok-ended.ensures p.place))));
        clock = refl;
      },
      omega (arith, c.requires.2),
    )

pub returns-clause-ok : goal.returns-clause-ok
returns-clause-ok c =
    let p = c.args.self.now in
    let h = c.still_open-held.ensures in
    let t = c.end.ensures in
    let e = end_put p c.requires.0 h.put (omega (arith, h.upper_bound, c.requires.2)) t.0 t.1 in
    rw (end_open p.reading p.activities p.place (sym (ap (λ (x : InputRead). x.answer) (c.in_ok-ended.ensures p.place))))
    (record { next = e.0.next; stored = e.0.stored; fits = e.1 })
