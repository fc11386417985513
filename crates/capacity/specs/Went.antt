-- What a call of the report promises the shell.
use Rattle.std.specs.Prelude.{◌≡◌, Bool, false, List, ℕ, ◌+◌, ◌-◌, ◌≤◌, ◌<◌, length}
use Rattle.std.proofs.Common.{subst, arith}
use Rattle.windows.specs.Advance.{widest, farthest}
use Rattle.report.specs.declared.Tally.{Tally}
use Rattle.report.specs.declared.TallyTurn.{TallyTurn}
use Rattle.report.specs.Tallies.{roomy}
use Rattle.report.specs.Turns as report
use Rattle.report.specs.Turns.{Halts, still_wants}
use Rattle.shell.specs.Shell.{Calls}
use Rattle.capacity.specs.declared.Report.{Report}
use Rattle.capacity.specs.contracts.ReportTelling.TheImpl.{ghosts}

module _ {last : Bool} {w out : List ℕ} {p : Report} {out' : List ℕ} (t : TallyTurn) (c : report.Went last w out p.0 out' t) where
  pub unmoved : t.taken + length c.text ≡ 0 → t.tally ≡ p.0
  unmoved none = c.unmoved (omega (arith, none, c.writes))

  pub halts : Halts last (length w - t.taken) (length out - length c.text) t.tally
  halts = subst (λ (n : ℕ). Halts last (length w - t.taken) (length out - n) t.tally) c.writes c.halts

  -- a call with enough room that neither takes nor writes had no wide window
  pub narrow : t.taken + t.written ≡ 0 → roomy ≤ length out → p.0.done ≡ false → t.tally.place ≤ farthest → last ≡ false → length w < widest
  narrow none room undone near more = (still_wants c none room undone (subst (λ (q : Tally). q.place ≤ farthest) (c.unmoved none) near)).1

  pub went : Calls ghosts last w out p out' (record { taken = t.taken; written = t.written; progress = record { 0 = t.tally } })
  went = record {
    text = c.text;
    stored = c.stored;
    writes = c.writes;
    fits = c.fits;
    within = c.within;
    brings = record { goes = c.brings; unmoved = unmoved; halts = halts };
    given = c.given;
    narrow = narrow;
  }
