use Rattle.std.proofs.Common.{◌≡◌, ◌<◌, ℕ, List, Option, None, Some, refl, sym, ◌∙◌, ap, arith, le_antisymm, le_refl, lit<, get_or, set, pos}
use Rattle.std.specs.Int.{w64}
use Rattle.integers.specs.Parts.{small_add}
use Rattle.rules.specs.Limits.{nobody}
use Rattle.rules.specs.Threads.{Amount, State, Thread, at, with_rows, active_in, loses}
use Rattle.rules.specs.Charge.{beneficiary, benefits, charged, moved}
use Rattle.promises.specs.Ready.{Steady}
use Rattle.promises.specs.Deadlines.{earliest_in}
use Rattle.promises.specs.Item3.{Earliest}
use Rattle.promises.specs.Sound.{sound, free_le, w_handed}
use Rattle.promises.specs.Tables.{led_nobody, led_thread, hand_own, hand_none, hand_one}
use Rattle.promises.specs.Taken.{Best}
use Rattle.schedule.proofs.passes.charge.Goals as goal
use Rattle.schedule.proofs.passes.charge.Goals.{then-a-own+in-Some, then-a-own+in_default, else-a-own}

-- a thread is of an application
okay : {s : State} (i : ℕ) → Steady s → i < s.count → (at s.threads i).app < 16
okay i g h = ((sound g).ok i h).app_max

-- a beneficiary is a thread
module _ {s : State} (g : Steady s) (best : List (Option Earliest)) (t : Best s best) (a : ℕ) (h : a < 16) {b : Earliest} (e : get_or best a None ≡ Some b) where
  its : (b.thread ≡ beneficiary a s) × (beneficiary a s ≡ nobody → ⊥)
  its = led_thread s.threads (beneficiary a s) (sym e ∙ t a h)

  found : b.thread < s.count
  found = rw its.0 (earliest_in (active_in a) s.count s.threads its.1).0

  few : b.thread < 64
  few = omega (arith, found, g.rows.few)

pub bounds-free-own : goal.bounds-free-own
bounds-free-own c = okay c.args.c c.requires.0 c.requires.1

pub overflow_sub-room : goal.overflow_sub-room
overflow_sub-room c = rw (c.requires.3 _ (okay c.args.c c.requires.0 c.requires.1)) (free_le _ _ (sound c.requires.0) (le_refl _))

pub loop-a-init : goal.loop-a-init
unfolding benefits
loop-a-init c = refl

pub offset_bounds-s-b : goal.offset_bounds-s-b
offset_bounds-s-b c = omega (arith, few c.requires.0 c.args.best.now c.requires.4 c.loop-a.a c.loop-a-test.true c.in-Some.is)

pub bounds-s-b : goal.bounds-s-b
bounds-s-b c = few c.requires.0 c.args.best.now c.requires.4 c.loop-a.a c.loop-a-test.true c.in-Some.is

pub lighter-requires : goal.lighter-requires
lighter-requires c =
    let g = c.requires.0 in
    let a = c.loop-a.a in
    let k = c.requires.3 a c.loop-a-test.true in
    let h = free_le a c.args.s.now.count (sound g) (le_refl _) in
    let q = g.q_max in (
      rw c.loop-a.invariant (w_handed _ a g _ (found g c.args.best.now c.requires.4 a c.loop-a-test.true c.in-Some.is)),
      rw (c.from.ensures, k) (record { up_small = omega arith; dn_small = omega arith }),
    )

pub offset_bounds-s-b-in-Some : goal.offset_bounds-s-b-in-Some
offset_bounds-s-b-in-Some c = omega (arith, few c.requires.0 c.args.best.now c.requires.4 c.loop-a.a c.loop-a-test.true c.in-Some.is)

pub bounds-s-b-in-Some : goal.bounds-s-b-in-Some
bounds-s-b-in-Some c = few c.requires.0 c.args.best.now c.requires.4 c.loop-a.a c.loop-a-test.true c.in-Some.is

pub loop-a-preserved : goal.loop-a-preserved
loop-a-preserved c =
    let s = c.args.s.now in
    let l = c.loop-a in
    let own = (at s.threads c.args.c).app in
    let t = c.loop-a-test.true in
    let e = c.requires.4 l.a t in
    elim c.if-a-own.branch [
      | then-a-own+in-Some w ↦
          let b = w.in-Some.b.thread in
          let i = its c.requires.0 c.args.best.now c.requires.4 l.a t w.in-Some.is in
          w.s-is
          ∙ ap (λ (y : Thread). with_rows l.s (set l.s.threads b y)) (w.lighter.ensures ∙ ap (λ (m : Amount). loses m.0 (at l.s.threads b)) w.from.ensures)
          ∙ ap (λ (y : State). with_rows y (set y.threads b (loses (pos (get_or c.args.free.now l.a 0)) (at y.threads b)))) l.invariant
          ∙ ap (with_rows s) (hand_one own l.a s s.threads w.if-a-own.true b i.0 (λ z. i.1 (sym i.0 ∙ z)) _ (c.requires.3 l.a t))
      | then-a-own+in_default w ↦ w.s-is ∙ l.invariant ∙ ap (with_rows s) (sym (hand_none own l.a s s.threads w.if-a-own.true (led_nobody s.threads (beneficiary l.a s) (sym w.in_default.is ∙ e))))
      | else-a-own w ↦ w.s-is ∙ l.invariant ∙ ap (with_rows s) (sym (hand_own own l.a s s.threads w.if-a-own.false))
    ]

pub add-requires : goal.add-requires
add-requires c =
    let q = c.requires.0.q_max in
    rw (c.loop-a.invariant, c.from-2.ensures)
    (small_add w64 _ _ (lit< tt) (w_handed _ c.loop-a.a c.requires.0 _ c.requires.1) (record { up_small = omega arith; dn_small = omega arith }))

pub move_on-requires : goal.move_on-requires
move_on-requires c = rw c.loop-a.invariant c.requires.2

pub returns : goal.returns
unfolding charged moved
returns c =
    rw (c.move_on.ensures, c.add.ensures, c.from-2.ensures, c.requires.3 _ (okay c.args.c c.requires.0 c.requires.1), c.loop-a.invariant, le_antisymm c.loop-a.auto.a-end c.loop-a-test.false)
