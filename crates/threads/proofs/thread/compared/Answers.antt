use Rattle.std.proofs.Common.{ℕ, ◌*◌, ◌≡◌, refl, sym, ◌∙◌, arith, ltb, lt-ltb, le-ltb, ◌<◌, cond}
use Rattle.std.specs.Cmp.{ranked}
use Rattle.std.specs.Ordering.{MatchOrdering}
use Rattle.rules.specs.Threads.{Ordering, Less, Equal, Greater}
use Rattle.promises.specs.Item3.{Deadline, compare_parts}
use Rattle.promises.specs.Remainders.{Parted, fewer_ticks, more_ticks, same_ticks}
use Rattle.threads.proofs.thread.compared.Goals as goal

module _ {d o : Deadline} (p : Parted d) (q : Parted o) where
  -- the whole parts tell, unless they are equal
  by_whole : (r : Ordering) → MatchOrdering r (d.whole < o.whole) (d.whole ≡ o.whole) (o.whole < d.whole) → (r ≡ Equal → ⊥) → r ≡ compare_parts d o
  by_whole Less h n = sym (fewer_ticks p q h)
  by_whole Equal h n = absurd (n refl)
  by_whole Greater h n = sym (more_ticks p q h)

  -- .. and where they are, the remainders
  by_remainder : (x y : ℕ) (r : Ordering) → MatchOrdering r (x < y) (x ≡ y) (y < x) → r ≡ cond (ltb x y) Less (cond (ltb y x) Greater Equal)
  by_remainder x y Less h = rw (lt-ltb x y h) refl
  by_remainder x y Equal h = rw (le-ltb x y (omega arith), le-ltb y x (omega arith)) refl
  by_remainder x y Greater h = rw (le-ltb x y (omega arith), lt-ltb y x h) refl

pub returns-in-Equal : goal.returns-in-Equal
returns-in-Equal c =
    let d = c.args.d in
    let o = c.args.o in
    let x = d.remainder * o.share in
    let y = o.remainder * d.share in
    let e : d.whole ≡ o.whole = ranked d.whole o.whole Equal (sym c.in-Equal.is ∙ c.cmp.ensures) in
    by_remainder c.requires.0 c.requires.1 x y _ (ranked x y _ c.cmp-in-Equal.ensures) ∙ sym (same_ticks c.requires.0 c.requires.1 e)

pub returns-in_default : goal.returns-in_default
returns-in_default c =
    let d = c.args.d in
    let o = c.args.o in
    by_whole c.requires.0 c.requires.1 _ (ranked d.whole o.whole _ c.cmp.ensures) c.in_default.not-Equal
