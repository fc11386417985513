use Rattle.std.proofs.Common.{◌≡◌, sym, ap, ◌∙◌, subst, List, ℕ, Result, ◌+◌, ◌-◌, ◌≤◌, length, take, drop, length-drop, arith}
use Rattle.rules.specs.Table.{Refused}
use Rattle.rules.specs.Records.{Frame, Whole, frame_of, body_of}
use Rattle.rules.specs.Reading.{Reading, Read, read}
use Rattle.rules.specs.Refusals.{Refusal, number, read_from}
use Rattle.rules.specs.Input.{GivenReading, stopped}
use Rattle.windows.specs.Readings.{given_fresh, reading_read}
use Rattle.windows.specs.Inputs.{read_rest, whole_within, rest_ended, rest_cut, rest_done, rest_refused, input_rest, rest_part, body_part, rest_drop}
use Rattle.reader.proofs.input.Goals as goal

-- what stands at the byte `at`
first_of : (s : List ℕ) (at : ℕ) {f : Frame} → f ≡ frame_of (take (length s - at) (drop at s)) → frame_of (drop at s) ≡ f
first_of s at e = sym (e ∙ ap frame_of (rest_part s at))

-- a whole record there is within the input
inside : (s : List ℕ) (at : ℕ) {kind n : ℕ} → Whole kind n ≡ frame_of (take (length s - at) (drop at s)) → at ≤ length s → (4 ≤ n) × (at + n ≤ length s)
inside s at e h = let w = whole_within _ _ _ (first_of s at e) in (w.0, omega (arith, w.0, w.1, h, length-drop at s))

-- the record that is read
was_read : (s : List ℕ) (at kind n : ℕ) (r : Reading) (x y : Result Reading Refusal) → read_from r x ≡ read r kind (take (at + n - (at + 4)) (drop (at + 4) s)) → x ≡ y
    → read r kind (body_of (drop at s) n) ≡ read_from r y
was_read s at kind n r x y e k = sym (e ∙ ap (read r kind) (body_part s at n)) ∙ ap (read_from r) k

pub loop-reading-init : goal.loop-reading-init
loop-reading-init c =
    let s = c.args.s.now in
    (omega arith, subst GivenReading (sym c.begin-reading.ensures) given_fresh, ap (λ (r : Reading). read_rest r 0 s) c.begin-reading.ensures ∙ sym (input_rest s))

pub slice_bounds-body-count : goal.slice_bounds-body-count
slice_bounds-body-count c = omega (arith, inside _ _ c.in-Whole.ensures.value c.loop-reading.invariant.0)

pub slice_bounds-body-start : goal.slice_bounds-body-start
slice_bounds-body-start c = omega (arith, inside _ _ c.in-Whole.ensures.value c.loop-reading.invariant.0)

pub slice_bounds-body-end : goal.slice_bounds-body-end
slice_bounds-body-end c = omega (arith, inside _ _ c.in-Whole.ensures.value c.loop-reading.invariant.0)

pub loop-reading-smaller : goal.loop-reading-smaller
loop-reading-smaller c = omega (arith, inside _ _ c.in-Whole.ensures.value c.loop-reading.invariant.0)

pub loop-reading-preserved : goal.loop-reading-preserved
loop-reading-preserved c =
    let l = c.loop-reading in
    let s = c.args.s.now in
    let kind = c.in-Whole.kind in
    let n = c.in-Whole.n in
    let x = was_read s l.at kind n l.reading _ _ c.read.ensures c.in-Ok.is in
    let e : (read l.reading kind (body_of (drop l.at s) n)).reading ≡ c.in-Ok.next = ap (λ (x : Read). x.reading) x in (
      (inside s l.at c.in-Whole.ensures.value l.invariant.0).1,
      subst GivenReading e (reading_read l.invariant.1 kind (body_of (drop l.at s) n)),
      ap (λ (r : Reading). read_rest r (l.at + n) (drop (l.at + n) s)) (sym e)
          ∙ ap (λ (z : List ℕ). read_rest (read l.reading kind (body_of (drop l.at s) n)).reading (l.at + n) z) (sym (rest_drop s l.at n))
          ∙ sym (rest_done l.reading l.at (drop l.at s) _ n (first_of s l.at c.in-Whole.ensures.value) (ap (λ (x : Read). x.answer) x))
          ∙ l.invariant.2,
    )

pub returns-in-Ended : goal.returns-in-Ended
returns-in-Ended c =
    let l = c.loop-reading in
    let s = c.args.s.now in
    c.ended-answer.ensures l.at ∙ sym (rest_ended l.reading l.at (drop l.at s) (first_of s l.at c.in-Ended.ensures.value)) ∙ l.invariant.2

pub returns-in-Cut : goal.returns-in-Cut
returns-in-Cut c =
    let l = c.loop-reading in
    let s = c.args.s.now in
    sym (rest_cut l.reading l.at (drop l.at s) (first_of s l.at c.in-Cut.ensures.value)) ∙ l.invariant.2

pub returns-in-Err : goal.returns-in-Err
returns-in-Err c =
    let l = c.loop-reading in
    let s = c.args.s.now in
    let x = was_read s l.at c.in-Whole.kind c.in-Whole.n l.reading _ _ c.read.ensures c.in-Err.is in
    ap (λ (x : Read). stopped (Refused (number c.in-Err.e)) l.at x.reading) (sym x)
    ∙ sym (rest_refused l.reading l.at (drop l.at s) _ _ (first_of s l.at c.in-Whole.ensures.value) _ (ap (λ (x : Read). x.answer) x))
    ∙ l.invariant.2
