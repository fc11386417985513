use Rattle.std.proofs.Common.{◌≡◌, ◌+◌, ◌<◌, ℕ, refl, sym, ◌∙◌, subst, arith, length, length-set, length-take, get_or, take}
use Rattle.std.proofs.lemmas.List.{get_or-take}
use Rattle.std.proofs.Math.ListN.{get_or-replicate}
use Rattle.lists.specs.Sum.{sum_none}
use Rattle.rules.specs.Threads.{State, Thread, at, blank, free_share}
use Rattle.promises.specs.Sound.{Sound, free_le}
use Rattle.promises.specs.Tables.{free_own, free_more}
use Rattle.schedule.proofs.passes.free_table.Goals as goal

pub loop-t-init : goal.loop-t-init
loop-t-init c = record { long = refl; shares = λ a h. get_or-replicate 16 a 0 0 h ∙ sym (sum_none (free_share a) c.args.s.threads) }

-- a thread of the state is of an application, and is one of the table
module _ {s : State} (g : Sound s) (i : ℕ) (h : i < s.count) where
  okay : (at s.threads i).app < 16
  okay = (g.ok i h).app_max

  inside : i < length s.threads
  inside = omega (arith, g.few, g.long)

-- the thread whose turn it is
module _ {s : State} (g : Sound s) (i : ℕ) (l : i < length (take s.count s.threads)) where
  turn : i < s.count
  turn = omega (arith, l, length-take s.count s.threads)

  abbrev it : Thread
  it = get_or (take s.count s.threads) i blank

  it_is : it ≡ at s.threads i
  it_is = get_or-take s.count s.threads i blank turn

  it_in : it.app < 16
  it_in = subst (λ (x : Thread). x.app < 16) (sym it_is) (okay g i turn)

-- a free share so far is at most Q
pub overflow_add-free : goal.overflow_add-free
overflow_add-free c =
    let g = c.requires in
    let s = c.args.s in
    let i = c.loop-t.t-index in
    let h = c.loop-t-test.true in
    let v = c.loop-t.invariant in
    let n = free_own s.threads i c.loop-t.free v.long (it g i h) (it_is g i h) (it g i h).app refl (it_in g i h) (inside g i (turn g i h)) v.shares in
    omega (arith, c.spare.ensures, n, free_le (it g i h).app (i + 1) g (omega (arith, turn g i h)), g.q_max)

pub loop-t-preserved : goal.loop-t-preserved
loop-t-preserved c =
    let g = c.requires in
    let s = c.args.s in
    let i = c.loop-t.t-index in
    let h = c.loop-t-test.true in
    let v = c.loop-t.invariant in
    record {
      long = length-set c.loop-t.free _ _ ∙ v.long;
      shares = rw c.spare.ensures (free_more s.threads i c.loop-t.free v.long (it g i h) (it_is g i h) (it g i h).app refl (it_in g i h) (inside g i (turn g i h)) v.shares);
    }
