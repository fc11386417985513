-- What a call of the report comes to.
use Rattle.std.specs.Prelude.{Bool, List, ℕ, ◌-◌, length, drop}
use Rattle.std.proofs.Common.{◌∙◌, subst, arith, length-drop}
use Rattle.calls.specs.declared.told.Turn.{Turn}
use Rattle.calls.specs.Acts as calls
use Rattle.report.specs.declared.Tally.{Tally}
use Rattle.report.specs.contracts.TallyTold.TheImpl.{ghosts}
use Rattle.report.specs.Along.{Brings}
use Rattle.report.specs.Turns.{Halts, is_done, is_full, is_far, wants, Went}
use Rattle.report.specs.Windows.{whole_none}

halts : (last : Bool) (w : List ℕ) (k room : ℕ) (q : Tally) → calls.Halts ghosts last (drop k w) room q → Halts last (length w - k) room q
halts last w k room q (calls.is_done e) = is_done e
halts last w k room q (calls.is_full h) = is_full h
halts last w k room q (calls.is_far h) = is_far h
halts last w k room q (calls.wants e f) = wants e (let n = whole_none (drop k w) f in omega (arith, n, length-drop k w))
halts last w k room q (calls.wants_rest e f h) = wants e (omega (arith, h, length-drop k w))

pub went : {last : Bool} {w out : List ℕ} {p : Tally} {out' : List ℕ} (y : Turn Tally) → calls.Calls ghosts last w out p out' y → Went last w out p out' (record { taken = y.taken; written = y.written; tally = y.progress })
went {last} {w} {out} {p} {out'} y c = record {
  text = c.stage.along.text;
  stored = c.stage.along.stored;
  writes = c.stage.along.writes ∙ omega arith;
  fits = c.stage.along.fits;
  within = c.stage.along.within;
  brings = subst (λ (n : ℕ). Brings last w 0 p c.stage.along.text n y.progress) (omega arith) c.stage.along.brings.is;
  given = c.stage.along.given;
  unmoved = c.stage.unmoved;
  halts = halts last w y.taken (length out - y.written) y.progress c.halts;
}
