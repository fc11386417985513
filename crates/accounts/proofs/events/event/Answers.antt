use Rattle.std.proofs.Math.Logic.{inl, inr}
use Rattle.promises.specs.Always.{given_good}
use Rattle.accounts.specs.Told.{tells_none}
use Rattle.accounts.specs.Events.{dropped_none}
use Rattle.accounts.proofs.events.event.Goals as goal

pub arrived-requires : goal.arrived-requires
arrived-requires c = (given_good c.requires.0, c.requires.1, rw c.in-Arrival.is at c.requires.2, c.requires.3)

pub completed-requires : goal.completed-requires
completed-requires c = (given_good c.requires.0, c.requires.1, rw c.in-Completion.is at c.requires.2, c.requires.3)

-- a head, a row, a run to a moment, and a drop
pub returns-in-Head-clause-tells : goal.returns-in-Head-clause-tells
returns-in-Head-clause-tells c =
    elim c.in-Head.is [
      | inl w ↦ rw w.2 tells_none
      | inr (inl w) ↦ rw w.1 tells_none
      | inr (inr (inl w)) ↦ rw w.1 tells_none
      | inr (inr (inr w)) ↦ rw w.2 (dropped_none c.args.t.now c.args.s.now c.args.cs.now w.1 c.args.out.now c.args.from)
    ]
