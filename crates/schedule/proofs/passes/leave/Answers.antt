use Rattle.std.proofs.Common.{ℕ, ◌≡◌, ◌+◌, ◌<◌, refl, sym, ap, ◌∙◌, subst, arith, le_antisymm, length, length-set}
use Rattle.std.proofs.Math.ListN.{get_or-replicate}
use Rattle.lists.specs.Sum.{sum_none}
use Rattle.rules.specs.Threads.{Thread, State, at, free_share}
use Rattle.rules.specs.Leaving.{gone}
use Rattle.promises.specs.Good.{Good}
use Rattle.promises.specs.Ready.{steady, gone_beside, gone_good}
use Rattle.promises.specs.Sound.{Sound, sound, free_le}
use Rattle.promises.specs.Tables.{Changed, change_none, change_next, change_turn, change_more, leaves, gone_is, free_own, free_more}
use Rattle.promises.specs.Taken.{left_all}
use Rattle.schedule.proofs.passes.leave.Goals as goal

pub loop-i-init : goal.loop-i-init
loop-i-init c =
    let s = c.args.s.now in
    record { long = refl; left = change_none (leaves s) s; shares = λ a h. get_or-replicate 16 a 0 0 h ∙ sym (sum_none (free_share a) (gone s).threads) }

-- thread i, of a state of which the first i threads have left
module _ {s : State} (g : Good s) (i : ℕ) (h : i < s.count) where
  all_gone : Sound (gone s)
  all_gone = sound (gone_good g).0

  -- it is one of the threads of the state once all have left
  inside : i < (gone s).count
  inside = omega (arith, (gone_beside s).count, h)

  -- .. and of its list
  listed : i < length (gone s).threads
  listed = omega (arith, inside, all_gone.few, all_gone.long)

  module _ {z : State} (e : Changed (leaves s) s i z) (x : Thread) (k : x ≡ leaves s (at z.threads i)) where
    -- it has left
    gone_at : x ≡ at (gone s).threads i
    gone_at = change_turn (leaves s) s (sound (steady g)) i h e x k ∙ sym (ap (λ (z : State). at z.threads i) (gone_is s))

    app_in : x.app < 16
    app_in = subst (λ (x : Thread). x.app < 16) (sym gone_at) (all_gone.ok i inside).app_max

pub left_unless-t-requires : goal.left_unless-t-requires
left_unless-t-requires c =
    let s = c.args.s.now in
    let i = c.loop-i.i in
    rw (change_next (leaves s) s i c.loop-i.invariant.left) ((sound (steady c.requires)).ok i c.loop-i-test.true).share_max

pub bounds-free-t : goal.bounds-free-t
bounds-free-t c = app_in c.requires c.loop-i.i c.loop-i-test.true c.loop-i.invariant.left _ c.left_unless-t.ensures

-- a free share so far is at most Q
pub overflow_add-free : goal.overflow_add-free
overflow_add-free c =
    let g = c.requires in
    let i = c.loop-i.i in
    let h = c.loop-i-test.true in
    let v = c.loop-i.invariant in
    let x = c.left_unless-t.result in
    let k = c.left_unless-t.ensures in
    let a = all_gone g i h in
    let n = free_own (gone c.args.s.now).threads i c.loop-i.free v.long x (gone_at g i h v.left x k) x.app refl (app_in g i h v.left x k) (listed g i h) v.shares in
    omega (arith, c.spare.ensures, n, free_le x.app (i + 1) a (omega (arith, inside g i h)), a.q_max)

pub bounds-free-t-in-loop-i : goal.bounds-free-t-in-loop-i
bounds-free-t-in-loop-i c = app_in c.requires c.loop-i.i c.loop-i-test.true c.loop-i.invariant.left _ c.left_unless-t.ensures

pub loop-i-preserved : goal.loop-i-preserved
loop-i-preserved c =
    let s = c.args.s.now in
    let g = c.requires in
    let i = c.loop-i.i in
    let h = c.loop-i-test.true in
    let v = c.loop-i.invariant in
    let x = c.left_unless-t.result in
    let k = c.left_unless-t.ensures in
    record {
      long = length-set c.loop-i.free _ _ ∙ v.long;
      left = change_more (leaves s) s (sound (steady g)) i h v.left _ k;
      shares = rw c.spare.ensures (free_more (gone s).threads i c.loop-i.free v.long x (gone_at g i h v.left x k) x.app refl (app_in g i h v.left x k) (listed g i h) v.shares);
    }

pub returns : goal.returns
returns c = left_all c.requires c.loop-i.i (le_antisymm c.loop-i.auto.i-end c.loop-i-test.false) c.loop-i.invariant.left c.loop-i.invariant.shares
