use Rattle.std.proofs.Common.{◌≡◌, Some, ap, sym, ◌∙◌, ℕ, ◌<◌, drop, arith}
use Rattle.rules.specs.Threads.{State, at, someone}
use Rattle.rules.specs.Calls.{Given}
use Rattle.rules.specs.Records.{Record}
use Rattle.promises.specs.Sound.{RowOk, given_sound}
use Rattle.windows.specs.Plain.{touched}
use Rattle.windows.specs.Inputs.{rest_part}
use Rattle.windows.specs.Readings.{given_reading}
use Rattle.listing.specs.Way.{seen_at}
use Rattle.listing.specs.Swept.{someone_is, few_is, touched_in, sweep_none, steps_on, sweep_more}
use Rattle.listing.proofs.sweep.sweep.Goals as goal
use Rattle.listing.proofs.sweep.sweep.Goals.{In-Some, In-Some-touched, in-Some+in_default-touched, in-Some+in-Some-touched+in_default-jobs_after, in-Some+in-Some-touched+in-Some-jobs_after+then-place-gt-FARTHEST, in_default}

pub loop-e-init : goal.loop-e-init
loop-e-init c = record { swept = sweep_none _ _ _ c.requires.0 c.requires.2; undone = c.requires.1 }

-- the state so far is one that these calls gave
given : (c : In-Some) → Given c.loop-e.p.reading.state
given c = (given_reading c.loop-e.invariant.swept.given).given

-- a record stands there
seen : (c : In-Some) → seen_at (drop c.loop-e.at c.args.w.now) ≡ Some (c.in-Some.e, c.in-Some.n)
seen c = sym (ap seen_at (rest_part c.args.w.now c.loop-e.at)) ∙ sym c.look.ensures.value ∙ c.in-Some.is

-- a thread that is touched is there, with jobs in number
okay : (s : State) (e : Record) {k : ℕ} → Given s → Some k ≡ someone (touched e s.clock.0 s.count) → (k < 64) × RowOk (at s.threads k)
okay s e {k} g is =
    let z = given_sound g in
    let t = someone_is (touched e s.clock.0 s.count) is in
    let h = touched_in e s.clock.0 s.count k (sym t.0) t.1 in
    (omega (arith, h, z.few), z.ok _ h)

there : (c : In-Some-touched) → (c.in-Some-touched.k < 64) × RowOk (at c.loop-e.p.reading.state.threads c.in-Some-touched.k)
there c = okay c.loop-e.p.reading.state c.in-Some.e (given (goal.at.In-Some-touched c).In-Some) c.in-Some-touched.ensures

pub touched-requires : goal.touched-requires
touched-requires c = (given_sound (given (goal.at.touched-requires c).In-Some)).few

pub bounds-s-k : goal.bounds-s-k
bounds-s-k c = (there (goal.at.bounds-s-k c).In-Some-touched).0

pub jobs_after-requires : goal.jobs_after-requires
jobs_after-requires c = (there (goal.at.jobs_after-requires c).In-Some-touched).1.jobs_max

pub bounds-s-k-in-Some : goal.bounds-s-k-in-Some
bounds-s-k-in-Some c = (there (goal.at.bounds-s-k-in-Some c).In-Some-touched).0

pub loop-e-smaller : goal.loop-e-smaller
loop-e-smaller c =
    let l = c.loop-e in
    let h = steps_on _ _ _ l.at _ l.invariant.swept c.in-Some.e c.in-Some.n (seen (goal.at.loop-e-smaller c).In-Some) in
    omega (arith, h.0, h.1)

pub loop-e-preserved : goal.loop-e-preserved
loop-e-preserved c =
    let l = c.loop-e in
    let t = someone_is _ c.in-Some-touched.ensures in
    let j = few_is _ c.in-Some-jobs_after.ensures in
    record {
      swept = sweep_more _ _ _ l.at _ l.invariant.swept c.in-Some.e c.in-Some.n (seen (goal.at.loop-e-preserved c).In-Some) l.invariant.undone c.if-place-gt-FARTHEST.false _ _ t.0 t.1 j.0 j.1;
      undone = l.invariant.undone;
    }

pub returns : goal.returns
returns c =
    let v = c.loop-e.invariant.swept in
    elim c.match-look.branch [
      | in-Some+in_default-touched w ↦ rw w.p-is v
      | in-Some+in-Some-touched+in_default-jobs_after w ↦ rw w.p-is v
      | in-Some+in-Some-touched+in-Some-jobs_after+then-place-gt-FARTHEST w ↦ rw w.p-is v
      | in_default w ↦ rw w.p-is v
    ]
