use Rattle.std.proofs.Common.{not, false, List, ℕ, Option, None, ◌≡◌, ◌+◌, ◌-◌, ◌<◌, ◌≤◌, refl, sym, ap, ◌∙◌, subst, arith, le_antisymm, le_refl, get_or, set}
use Rattle.std.proofs.Math.ListN.{get_or-replicate}
use Rattle.rules.specs.Threads.{Thread, State, Phase, Inactive, Contending, NonContending, with_rows, at, is_inactive, is_contending, contends, active, active_in, free_of}
use Rattle.rules.specs.Fitting.{fit, fit_in, fitted}
use Rattle.promises.specs.Keep.{fit_app}
use Rattle.promises.specs.Ready.{Steady, fitted_steady}
use Rattle.promises.specs.Sound.{RowOk, sound, free_le}
use Rattle.promises.specs.Item3.{Earliest}
use Rattle.promises.specs.Remainders.{parted_is}
use Rattle.promises.specs.Tables.{Changed, change_none, change_next, change_turn, change_more, Table16, lead_none, lead_past, lead_parted, lead_next, leads_past, leads_next}
use Rattle.promises.specs.Taken.{is_fitted, chosen_of_all, best_of_all}
use Rattle.schedule.proofs.passes.fit.Goals as goal
use Rattle.schedule.proofs.passes.fit.Goals.{In-loop-i, then-is_active+then-contends, then-is_active+else-contends, else-is_active}

pub loop-i-init : goal.loop-i-init
loop-i-init c =
    let l = c.args.s.now in
    let xs = (fitted l).threads in
    record {
      fit = change_none (fit_in l) l;
      first = lead_none contends xs 0;
      led = record { long = refl; each = λ a h. rw (get_or-replicate {A = Option Earliest} 16 a None None h) (lead_none (active_in a) xs 0) };
    }

-- thread i, of a state of which the first i threads fit
module _ {l : State} (g : Steady l) (i : ℕ) (h : i < l.count) where
  few : i < 64
  few = omega (arith, h, (sound g).few)

  -- any thread up to i, once it fits, is within bounds
  seen_ok : (k : ℕ) → k < i + 1 → RowOk (at (fitted l).threads k)
  unfolding fitted
  seen_ok k m = (sound (fitted_steady g)).ok k (omega (arith, h, m))

  module _ {z : State} (e : Changed (fit_in l) l i z) where
    -- it is as it was
    okay : RowOk (at z.threads i)
    okay = subst RowOk (sym (change_next (fit_in l) l i e)) ((sound g).ok i h)

    module _ (f : List ℕ) (free : Table16 (λ a. free_of a l) f) where
      room_in : get_or f (at z.threads i).app 0 ≤ l.q
      room_in = omega (arith, free _ okay.app_max, free_le (at z.threads i).app _ (sound g) (le_refl _))

      -- t is that thread once it fits
      module _ (t : Thread) (k : t ≡ fit (l.q - get_or f (at z.threads i).app 0) (at z.threads i)) where
        fits : t ≡ fit_in l (at z.threads i)
        fits = k ∙ ap (λ r. fit (l.q - r) (at z.threads i)) (free (at z.threads i).app okay.app_max)

        fitted_at : t ≡ at (fitted l).threads i
        unfolding fitted
        fitted_at = change_turn (fit_in l) l (sound g) i h e t fits

        -- the table with it
        stored : Changed (fit_in l) l (i + 1) (with_rows z (set z.threads i t))
        stored = change_more (fit_in l) l (sound g) i h e t fits

        own : (at z.threads i).app ≡ (at (fitted l).threads i).app
        own = sym (ap (λ (x : Thread). x.app) (sym fitted_at ∙ k) ∙ fit_app _ (at z.threads i))

        t_ok : RowOk t
        t_ok = subst RowOk (sym fitted_at) (seen_ok i (omega arith))

it_okay : (c : In-loop-i) → RowOk (at c.loop-i.s.threads c.loop-i.i)
it_okay c = okay c.requires.0 c.loop-i.i c.loop-i-test.true c.loop-i.invariant.fit

pub bounds-free-a : goal.bounds-free-a
bounds-free-a c = (it_okay (goal.at.bounds-free-a c).In-loop-i).app_max

pub overflow_sub-q : goal.overflow_sub-q
overflow_sub-q c = room_in c.requires.0 c.loop-i.i c.loop-i-test.true c.loop-i.invariant.fit c.args.free.now c.requires.1

pub fit_one-t-requires : goal.fit_one-t-requires
fit_one-t-requires c = it_okay (goal.at.fit_one-t-requires c).In-loop-i

pub deadline-requires : goal.deadline-requires
deadline-requires c = t_ok c.requires.0 c.loop-i.i c.loop-i-test.true c.loop-i.invariant.fit c.args.free.now c.requires.1 c.fit_one-t.result c.fit_one-t.ensures

pub bounds-best-a : goal.bounds-best-a
bounds-best-a c = (it_okay (goal.at.bounds-best-a c).In-loop-i).app_max

pub closer-requires : goal.closer-requires
closer-requires c =
    let g = c.requires.0 in
    let i = c.loop-i.i in
    let h = c.loop-i-test.true in
    let v = c.loop-i.invariant in
    let a = (it_okay (goal.at.closer-requires c).In-loop-i).app_max in (
      parted_is (t_ok g i h v.fit c.args.free.now c.requires.1 c.fit_one-t.result c.fit_one-t.ensures) c.deadline.ensures,
      lead_parted (active_in _) (fitted c.args.s.now).threads i (v.led.each _ a) (seen_ok g i h),
    )

pub bounds-best-a-then-is_active : goal.bounds-best-a-then-is_active
bounds-best-a-then-is_active c = (it_okay (goal.at.bounds-best-a-then-is_active c).In-loop-i).app_max

pub closer-chosen-requires : goal.closer-chosen-requires
closer-chosen-requires c =
    let g = c.requires.0 in
    let i = c.loop-i.i in
    let h = c.loop-i-test.true in
    let v = c.loop-i.invariant in (
      parted_is (t_ok g i h v.fit c.args.free.now c.requires.1 c.fit_one-t.result c.fit_one-t.ensures) c.deadline.ensures,
      lead_parted contends (fitted c.args.s.now).threads i v.first (seen_ok g i h),
    )

-- who is not active does not contend
resting : (p : Phase) → not (is_inactive p) ≡ false → is_contending p ≡ false
resting Inactive e = refl
resting Contending e = e
resting NonContending e = refl

pub loop-i-preserved : goal.loop-i-preserved
loop-i-preserved c =
    let l = c.args.s.now in
    let xs = (fitted l).threads in
    let g = c.requires.0 in
    let i = c.loop-i.i in
    let h = c.loop-i-test.true in
    let v = c.loop-i.invariant in
    let a = (it_okay (goal.at.loop-i-preserved c).In-loop-i).app_max in
    let n = few g i h in
    let ok = seen_ok g i h in
    let t = fitted_at g i h v.fit c.args.free.now c.requires.1 c.fit_one-t.result c.fit_one-t.ensures in
    let o = own g i h v.fit c.args.free.now c.requires.1 c.fit_one-t.result c.fit_one-t.ensures in
    let s = stored g i h v.fit c.args.free.now c.requires.1 c.fit_one-t.result c.fit_one-t.ensures in
    let is = sym (c.is_active.ensures ∙ ap active t) in
    elim c.if-is_active.branch [
      | then-is_active+then-contends w ↦ record {
        fit = s;
        first = rw (w.chosen-is, w.closer-chosen.ensures, w.deadline.ensures, t) (lead_next contends xs i v.first ok n (sym (w.contends.ensures ∙ ap contends t) ∙ w.if-contends.true));
        led = rw (w.best-is, w.closer.ensures, w.deadline.ensures, t) (leads_next xs i c.loop-i.best v.led n ok _ a o (is ∙ w.if-is_active.true));
      }
      | then-is_active+else-contends w ↦ record {
        fit = s;
        first = rw w.chosen-is (lead_past contends xs i v.first (sym (w.contends.ensures ∙ ap contends t) ∙ w.if-contends.false));
        led = rw (w.best-is, w.closer.ensures, w.deadline.ensures, t) (leads_next xs i c.loop-i.best v.led n ok _ a o (is ∙ w.if-is_active.true));
      }
      | else-is_active w ↦ record {
        fit = s;
        first = rw w.chosen-is (lead_past contends xs i v.first (resting (at xs i).phase (is ∙ w.if-is_active.false)));
        led = rw w.best-is (leads_past xs i c.loop-i.best v.led (is ∙ w.if-is_active.false));
      }
    ]

pub returns-clause-fit : goal.returns-clause-fit
returns-clause-fit c = is_fitted c.args.s.now c.loop-i.i (le_antisymm c.loop-i.auto.i-end c.loop-i-test.false) c.loop-i.invariant.fit

pub returns-clause-chosen : goal.returns-clause-chosen
returns-clause-chosen c = chosen_of_all c.args.s.now c.loop-i.i (le_antisymm c.loop-i.auto.i-end c.loop-i-test.false) c.loop-i.invariant.fit _ c.loop-i.invariant.first

pub returns-clause-best : goal.returns-clause-best
returns-clause-best c = best_of_all c.args.s.now c.loop-i.i (le_antisymm c.loop-i.auto.i-end c.loop-i-test.false) c.loop-i.invariant.fit _ c.loop-i.invariant.led
