use Rattle.std.proofs.Common.{rules, ◌≡◌, refl, sym, ap, ◌∙◌, arith, ◌<◌, ◌^◌}
use Rattle.rules.specs.Input.{InputRead}
use Rattle.rules.specs.Refusals.{number}
use Rattle.rules.specs.Listing.{refusal_line, end_line, ending}
use Rattle.promises.specs.Sound.{given_sound}
use Rattle.text.specs.Laws.{end_longest}
use Rattle.text.specs.Room.{put_room}
use Rattle.windows.specs.Readings.{given_reading}
use Rattle.listing.specs.Way.{ending_end, ending_refused}
use Rattle.listing.proofs.ListingTold.end.Goals as goal

pub returns-in_err-ended-clause-err : goal.returns-in_err-ended-clause-err
returns-in_err-ended-clause-err c =
    let p = c.args.self.now.0 in
    let r : (c.args.out.now ≡ c.args.out.now) × (ending p.reading p.place ≡ refusal_line (number c.in_err-ended.field-0.0) p.place) =
    (refl, ending_refused p.reading p.place _ (sym (ap (λ (x : InputRead). x.answer) (c.in_err-ended.ensures p.place))))
    in search rules

pub returns-clause-ok : goal.returns-clause-ok
returns-clause-ok c =
    let p = c.args.self.now.0 in
    let line = end_line p.reading.state.clock.0 in
    let f = put_room c.args.out.now c.args.at line c.requires.2 in
    let time : p.reading.state.clock.0 < 2 ^ 32 = (let t = (given_sound (given_reading c.requires.0).given).time in omega (arith, t)) in
    rw (ending_end p.reading p.place (sym (ap (λ (x : InputRead). x.answer) (c.in_ok-ended.ensures p.place))))
    (record { next = c.end.ensures.0 ∙ f.0; stored = c.end.ensures.1 ∙ f.1; fits = omega (arith, c.end.ensures.0, f.0, c.requires.2, end_longest p.reading.state.clock.0 time) })
