use Rattle.std.proofs.Math.Logic.{inl, inr}
use Rattle.std.proofs.Common.{List, ℕ, ◌≡◌, ◌-◌, sym, ap, ◌∙◌, arith, length, take, drop, length-drop}
use Rattle.std.proofs.lemmas.Bool.{false≢true}
use Rattle.rules.specs.Records.{Frame, frame_of}
use Rattle.quantities.specs.declared.Refusal.TheVariants.{CutShort}
use Rattle.windows.specs.Feeding.{drop_bytes}
use Rattle.windows.specs.Inputs.{rest_part, whole_within}
use Rattle.calls.specs.Acts.{Opens, is_done, is_full, is_far, wants, wants_rest, stay_acts, text_acts, stop_acts, on_acts}
use Rattle.calls.proofs.act.Goals as goal
use Rattle.calls.proofs.act.Given as Given
use Rattle.calls.proofs.act.Goals.{After-frame, then-is_done-via-then-is_done, then-is_done-via-else-is_done+then-out-turn, then-is_done-via-else-is_done+else-out-turn+then-place-gt-FARTHEST}

-- what stands at the start of the rest of the window
framed : (w : List ℕ) (k : ℕ) {f h : Frame} → f ≡ frame_of (take (length w - k) (drop k w)) → f ≡ h → frame_of (drop k w) ≡ h
framed w k e i = sym (e ∙ ap frame_of (rest_part w k)) ∙ i

pub returns-then-is_done : goal.returns-then-is_done
returns-then-is_done g c =
    let stay = stay_acts g.T.Told g.met.T.Told.brings_none c.args.last _ _ c.args.turn.now c.requires.0 c.requires.1 c.requires.2 in
    elim c.then-is_done.branch [
      | then-is_done-via-then-is_done w ↦ stay (is_done (sym c.is_done.ensures ∙ w.if-is_done.true))
      | then-is_done-via-else-is_done+then-out-turn w ↦ stay (is_full (omega (arith, w.if-out-turn.true, w.ROOM.ensures)))
      | then-is_done-via-else-is_done+else-out-turn+then-place-gt-FARTHEST w ↦ stay (is_far (omega (arith, w.if-place-gt-FARTHEST.true, w.place.ensures)))
    ]

-- it can go on
ready : (g : Given.Over) (c : After-frame g) → Opens g.T.Told c.args.w.now c.args.out.now c.args.turn.now
ready g c = record { given = c.requires.0; undone = sym c.is_done.ensures ∙ c.if-is_done.false; near = omega (arith, c.place.ensures, c.if-place-gt-FARTHEST.false); within = c.requires.1; fits = omega (arith, c.requires.2, c.ROOM.ensures, c.if-out-turn.false) }

pub whole-requires : goal.whole-requires
whole-requires g c =
    let d = (goal.at.whole-requires g c).After-frame in
    let x = c.args.turn.now in
    let e = framed c.args.w.now x.taken c.frame.ensures.value c.in-Whole.is in
    let h = whole_within _ _ _ e in
    (ready g d, record { is = e; least = h.0; most = c.in-Whole.ensures.at_most; within = omega (arith, h.1, length-drop x.taken c.args.w.now, c.requires.1) })

pub returns-in-Ended : goal.returns-in-Ended
returns-in-Ended g c =
    let t = g.met.T.Told in
    let p = c.args.turn.now.progress in
    let o = ready g (goal.at.returns-in-Ended g c).After-frame in
    let e = c.finish.ensures in
    text_acts g.T.Told (g.T.Told.finished p) (g.T.Told.ending p) e.value e.out_after (t.given_finished p o.given) o.within (t.ending_some p) e.fits c.args.last
    (rw c.if-last.true (t.brings_end _ _ p o.undone (omega (arith, o.fits)) o.near (framed c.args.w.now c.args.turn.now.taken c.frame.ensures.value c.in-Ended.is)))

pub returns-in-Ended-2 : goal.returns-in-Ended-2
returns-in-Ended-2 g c =
    stay_acts g.T.Told g.met.T.Told.brings_none c.args.last _ _ c.args.turn.now c.requires.0 c.requires.1 c.requires.2 (wants c.if-last.false (framed c.args.w.now c.args.turn.now.taken c.frame.ensures.value c.in-Ended.is))

pub returns-in-Ended-2-2 : goal.returns-in-Ended-2-2
returns-in-Ended-2-2 g c =
    let x = c.args.turn.now in
    let h = c.if-left-ge-WIDEST.false in
    stay_acts g.T.Told g.met.T.Told.brings_none c.args.last _ _ x c.requires.0 c.requires.1 c.requires.2 (wants_rest h.0 (framed c.args.w.now x.taken c.frame.ensures.value c.in-Cut.is) (omega (arith, h.1, length-drop x.taken c.args.w.now)))

pub returns-in-Cut : goal.returns-in-Cut
returns-in-Cut g c =
    let t = g.met.T.Told in
    let x = c.args.turn.now in
    let o = ready g (goal.at.returns-in-Cut g c).After-frame in
    stop_acts g.T.Told t.roomy t.given_finished o CutShort c.stop.ensures.value c.stop.ensures.out_after c.args.last
    (t.brings_cut c.args.last _ _ x.progress o.undone (omega (arith, o.fits)) o.near (framed c.args.w.now x.taken c.frame.ensures.value c.in-Cut.is) (drop_bytes x.taken c.args.w.now (λ i. omega (arith, c.type_inv.w i)))
    (λ more. elim c.if-left-ge-WIDEST.either [
      | inl last ↦ absurd (false≢true (sym more ∙ last))
      | inr wide ↦ omega (arith, wide.1, length-drop x.taken c.args.w.now)
    ]))

pub returns-in-Whole : goal.returns-in-Whole
returns-in-Whole g c = on_acts g.T.Told c.whole.ensures c.args.last
