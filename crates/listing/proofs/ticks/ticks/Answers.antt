use Rattle.std.proofs.Common.{rules, ◌≡◌, ◌<◌, ◌∙◌, arith}
use Rattle.rules.specs.Limits.{clock_end}
use Rattle.listing.specs.Listed.{early_at, given_at, clock_next, had_below, line_idle, line_grant, listed_none, same_room, put_listed}
use Rattle.rules.specs.Calls.{Given}
use Rattle.listing.proofs.ticks.ticks.Goals as goal
use Rattle.listing.proofs.ticks.ticks.Goals.{After-lead_on, In_default, in-64, in_default}

pub loop-init : goal.loop-init
loop-init c = listed_none _ _ _ _ c.requires.2

pub lead_on-requires : goal.lead_on-requires
lead_on-requires c = given_at c.loop.counter c.loop.invariant.state c.requires.0

-- the tick comes before the clock's end
early : (c : After-lead_on) → c.loop.s.clock.0 ≡ clock_end → ⊥
early c = let l = c.loop in early_at c.args.s.now l.s l.counter c.args.n l.invariant.state c.loop-test.true c.requires.1

given : (c : After-lead_on) → Given c.loop.s
given c = given_at c.loop.counter c.loop.invariant.state c.requires.0

pub overflow_sub-tick : goal.overflow_sub-tick
overflow_sub-tick c = let d = (goal.at.overflow_sub-tick c).After-lead_on in omega (arith, clock_next _ _ (given d) (early d) c.lead_on.ensures)

-- who had it is a thread of the table
below : (c : In_default) → c.lead_on.new.s.had < 64
below c = let d = (goal.at.In_default c).After-lead_on in had_below c.loop.s c.lead_on.new.s (given d) (early d) c.lead_on.ensures (search rules)

pub offset_bounds-s-b : goal.offset_bounds-s-b
offset_bounds-s-b c = record { fits = omega (arith, below (goal.at.offset_bounds-s-b c).In_default) }

pub bounds-s-b : goal.bounds-s-b
bounds-s-b c = below (goal.at.bounds-s-b c).In_default

pub overflow_cast-b : goal.overflow_cast-b
overflow_cast-b c = record { fits = omega (arith, below (goal.at.overflow_cast-b c).In_default) }

pub loop-preserved : goal.loop-preserved
loop-preserved c =
    let l = c.loop in
    let s = c.args in
    let y = c.lead_on in
    let d = (goal.at.loop-preserved c).After-lead_on in
    let g = given d in
    let e = early d in
    let more = put_listed l.s y.new.s g e y.ensures s.out.now s.from s.s.now s.n l.counter l.invariant c.loop-test.true (omega (arith, c.if-out-used-lt-LONGEST.false, l.invariant.fits, same_room _ _ s.s.now s.n l.counter l.invariant)) in
    elim c.match-s.branch [
      | in-64 w ↦ more _ (line_idle _ _ g e y.ensures w.in-64.is) _ _ (w.out-is ∙ w.idle-used.ensures.1) (w.used-is ∙ w.idle-used.ensures.0)
      | in_default w ↦ more _ (line_grant _ _ g e y.ensures (search rules)) _ _ (w.out-is ∙ w.granted-used.ensures.1) (w.used-is ∙ w.granted-used.ensures.0)
    ]
