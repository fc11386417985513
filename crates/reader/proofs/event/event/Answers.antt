use Rattle.std.proofs.Common.{◌≡◌, Result, Ok, sym, ap, ◌∙◌, subst}
use Rattle.std.proofs.lemmas.Result.{err_from_is_err_and}
use Rattle.rules.specs.Threads.{State}
use Rattle.rules.specs.Table.{Answered, Done, Refused, done}
use Rattle.rules.specs.Run.{state_after, passed}
use Rattle.rules.specs.Calls.{Given}
use Rattle.rules.specs.Records.{Moment, Record}
use Rattle.rules.specs.Reading.{Reading, before_ticks, ticks_before, at_its_moment, event_of}
use Rattle.rules.specs.Input.{GivenReading}
use Rattle.rules.specs.Refusals.{Refusal, answer_of, answered, number}
use Rattle.promises.specs.Always.{given_good, given_steps}
use Rattle.windows.specs.Readings.{given_reading}
use Rattle.reader.specs.Parts.{moment_of, passed_then, refused_before, refused_then, taken_then}
use Rattle.reader.proofs.event.event.Goals as goal

-- the ticks before the event's moment are run
ran : (r : Reading) (e : Record) (m : Moment) (x : Result State Refusal) → GivenReading r → before_ticks r.state e ≡ Done → m ≡ moment_of e r.state.clock
    → answered r.state x ≡ passed r.state m.0 → answered r.state x ≡ done (state_after (ticks_before r.state e) r.state)
ran r e m x g d h q = q ∙ ap (λ (m : Moment). passed r.state m.0) h ∙ passed_then r.state e (given_good (given_reading g).given).time d

pub returns-in_err-before_ticks : goal.returns-in_err-before_ticks
returns-in_err-before_ticks c =
    let p = err_from_is_err_and c.from_residual.result c.from_residual.ensures.1 in
    rw (p.1, p.2)
    (refused_before c.args.r c.args.e (sym c.all_rows.ensures ∙ c.if-not-all_rows.false) _ (sym c.before_ticks.ensures ∙ ap answer_of c.in_err-before_ticks.was))

pub pass-requires : goal.pass-requires
pass-requires c = (given_reading c.requires).given

pub returns-in_err-passed : goal.returns-in_err-passed
returns-in_err-passed c =
    let d = sym c.before_ticks.ensures ∙ ap answer_of c.in_ok-before_ticks.was in
    let h : Refused (number _) ≡ Done =
    ap (λ (x : Answered). x.answer) (ap (answered c.args.r.state) (sym c.in_err-passed.was) ∙ ran c.args.r c.args.e _ _ c.requires d c.moment_of.ensures c.pass.ensures)
    in cc

-- the state at the event's moment
at_moment : (r : Reading) (e : Record) (m : Moment) (s : State) (x : Result State Refusal) → GivenReading r → before_ticks r.state e ≡ Done → m ≡ moment_of e r.state.clock
    → answered r.state x ≡ passed r.state m.0 → x ≡ Ok s → s ≡ state_after (ticks_before r.state e) r.state
at_moment r e m s x g d h q k = ap (λ (a : Answered). a.state) (ap (answered r.state) (sym k) ∙ ran r e m x g d h q)

pub at_its_moment-requires : goal.at_its_moment-requires
at_its_moment-requires c =
    let d = sym c.before_ticks.ensures ∙ ap answer_of c.in_ok-before_ticks.was in
    subst Given (sym (at_moment c.args.r c.args.e _ _ _ c.requires d c.moment_of.ensures c.pass.ensures c.in_ok-passed.was)) (given_steps _ (given_reading c.requires).given)

-- the event at its moment
event_at : (r : Reading) (e : Record) (s : State) (x y : Result State Refusal) → s ≡ state_after (ticks_before r.state e) r.state → answered s x ≡ at_its_moment s e
    → x ≡ y → event_of r.state e ≡ answered s y
event_at r e s x y q h k = sym (ap (λ (z : State). at_its_moment z e) q) ∙ sym h ∙ ap (answered s) k

pub returns-in_err-state : goal.returns-in_err-state
returns-in_err-state c =
    let r = c.args.r in
    let d = sym c.before_ticks.ensures ∙ ap answer_of c.in_ok-before_ticks.was in
    let q = at_moment r c.args.e _ _ _ c.requires d c.moment_of.ensures c.pass.ensures c.in_ok-passed.was in
    let p = err_from_is_err_and c.from_residual-in_err-state.result c.from_residual-in_err-state.ensures.1 in
    rw (p.1, p.2) (refused_then r c.args.e (sym c.all_rows.ensures ∙ c.if-not-all_rows.false) d _ _ (event_at r c.args.e _ _ _ q c.at_its_moment.ensures c.in_err-state.was))

pub returns : goal.returns
returns c =
    let r = c.args.r in
    let d = sym c.before_ticks.ensures ∙ ap answer_of c.in_ok-before_ticks.was in
    let q = at_moment r c.args.e _ _ _ c.requires d c.moment_of.ensures c.pass.ensures c.in_ok-passed.was in
    taken_then r c.args.e (sym c.all_rows.ensures ∙ c.if-not-all_rows.false) d _ (event_at r c.args.e _ _ _ q c.at_its_moment.ensures c.in_ok-state.was)
