use Rattle.std.proofs.Common.{◌≡◌, false, ◌-◌, length}
use Rattle.listing.specs.Way.{SweptTo}
use Rattle.listing.proofs.sweep.sweep.Given as goal

-- the records that were swept so far
abbrev pub invariant-loop-e : goal.invariant-loop-e
invariant-loop-e l = record {
  swept : SweptTo l.w l.from l.initial.p l.at (record { reading = l.p.reading; place = l.place; done = l.p.done });
  undone : l.p.done ≡ false;
}

abbrev pub decreases-loop-e : goal.decreases-loop-e
decreases-loop-e l = length l.w - l.at
