use Rattle.std.proofs.Common.{◌≡◌, ◌≤◌, ◌-◌, length, sym, subst, Bool, true, arith}
use Rattle.std.proofs.lemmas.Result.{err_from_is_err_and}
use Rattle.rules.specs.Reading.{Read, with_state, ticks_due}
use Rattle.rules.specs.Input.{GivenReading}
use Rattle.windows.specs.Advance.{longest}
use Rattle.windows.specs.Readings.{given_reading, reading_by}
use Rattle.calls.specs.Acts.{AlongTo, Opens, same_room, then_on}
use Rattle.calls.specs.Parts.{turn_at}
use Rattle.listing.specs.contracts.ListingTold.TheImpl.{ghosts}
use Rattle.listing.specs.Acts.{ticks_fit, ticks_along, ticks_act, all_listed, read_acts, refused_brings}
use Rattle.listing.specs.Tells.{brings_then}
use Rattle.listing.specs.Way.{with_ticks}
use Rattle.listing.proofs.ListingTold.known.Goals as goal
use Rattle.listing.proofs.ListingTold.known.Goals.{After-ticks-turn}

-- the ticks that were listed
listed : (c : After-ticks-turn) (last : Bool) → AlongTo ghosts last c.args.w.now c.args.out.now c.args.turn.now c.ticks-turn.new.out (turn_at c.args.turn.now.taken c.ticks-turn.result (record { 0 = with_ticks c.args.turn.now.progress.0 c.ticks-turn.new.s }))
listed c = ticks_along _ _ _ c.requires.0 _ _ c.requires.1 _ (sym c.due-d.ensures) c.ticks-turn.ensures

pub ticks-turn-requires : goal.ticks-turn-requires
ticks-turn-requires c =
    let o = c.requires.0 in
    ((given_reading o.given).given, ticks_fit _ _ _ o _ _ c.requires.1 _ (sym c.due-d.ensures), omega (arith, o.fits))

pub returns-then-out-turn-lt-LONGEST-clause-ok : goal.returns-then-out-turn-lt-LONGEST-clause-ok
returns-then-out-turn-lt-LONGEST-clause-ok c =
    let s = listed (goal.at.returns-then-out-turn-lt-LONGEST-clause-ok c).After-ticks-turn true in
    ticks_act _ _ _ c.requires.0 _ _ c.requires.1 _ (sym c.due-d.ensures) c.ticks-turn.ensures (omega (arith, c.if-out-turn-lt-LONGEST.true, same_room ghosts s))

pub record-requires : goal.record-requires
record-requires c = (listed (goal.at.record-requires c).After-ticks-turn true).given

-- .. all of them, and there is room for the record
ready : (c : After-ticks-turn) → longest ≤ length c.ticks-turn.new.out - c.ticks-turn.result → Opens ghosts c.args.w.now c.ticks-turn.new.out (turn_at c.args.turn.now.taken c.ticks-turn.result (record { 0 = with_ticks c.args.turn.now.progress.0 c.ticks-turn.new.s }))
ready c h =
    let o = c.requires.0 in
    let s = listed c true in
    record { given = s.given; undone = o.undone; near = o.near; within = o.within; fits = omega (arith, h) }

none_due : (c : After-ticks-turn) → longest ≤ length c.ticks-turn.new.out - c.ticks-turn.result → ticks_due (with_state c.args.turn.now.progress.0.reading c.ticks-turn.new.s) c.args.e ≡ 0
none_due c h = all_listed c.args.turn.now.progress.0 c.args.e _ (sym c.due-d.ensures) _ _ _ _ _ c.ticks-turn.ensures (omega (arith, h, same_room ghosts (listed c true)))

pub returns-in_err-p-clause-err : goal.returns-in_err-p-clause-err
returns-in_err-p-clause-err c =
    let d = (goal.at.returns-in_err-p-clause-err c).After-ticks-turn in
    let h = c.if-out-turn-lt-LONGEST.false in
    let e = err_from_is_err_and c.from_residual.result c.from_residual.ensures.1 in
    rw (e.1, e.2) (record {
      before = listed d;
      opens = ready d h;
      brings = refused_brings _ _ _ (ready d h) c.args.n c.args.e c.requires.1 _ (none_due d h) _ (sym c.in_err-p.ensures);
    })

pub sweep-turn-requires : goal.sweep-turn-requires
sweep-turn-requires c =
    let d = (goal.at.sweep-turn-requires c).After-ticks-turn in
    let o = c.requires.0 in
    (subst (λ (x : Read). GivenReading x.reading) (sym c.in_ok-p.ensures) (reading_by (listed d true).given c.args.e), o.undone, c.requires.1.framed.within)

pub returns-clause-ok : goal.returns-clause-ok
returns-clause-ok c =
    let d = (goal.at.returns-clause-ok c).After-ticks-turn in
    let h = c.if-out-turn-lt-LONGEST.false in
    then_on ghosts brings_then (listed d) (read_acts _ _ _ (ready d h) c.args.n c.args.e c.requires.1 (none_due d h) _ (sym c.in_ok-p.ensures) _ _ c.sweep-turn.ensures)
