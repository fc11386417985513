-- How far a report has come, and what is still to be written from there.
use Rattle.std.specs.Prelude.{◌≡◌, true, false, cond, List, [], ◌∷◌, ℕ, length}
use Rattle.rules.specs.Table.{Answer, Done, Refused}
use Rattle.rules.specs.Records.{Record}
use Rattle.rules.specs.Reading.{Reading, fresh, record_read}
use Rattle.rules.specs.Input.{readings}
use Rattle.rules.specs.Stretches.{Activity, all_quiet}
use Rattle.rules.specs.Report.{stand, ticks_for, at_moment, report_from}
pub use Rattle.report.specs.declared.Tally.{Tally}
pub use Rattle.report.specs.declared.TallyTurn.{TallyTurn}

-- a call that has less room left writes nothing more: there is room for all lines of a tick or of an event, or for those of the end
abbrev pub roomy : ℕ
roomy = 16448

-- a report that is not done
abbrev pub reached_at : Reading → List Activity → ℕ → Tally
reached_at r cs b = record { reading = r; activities = cs; place = b; done = false }

-- nothing is read, and the heading line is written
abbrev pub begun : Tally
begun = reached_at fresh all_quiet 0

-- the last line is written
abbrev pub finished : Tally → Tally
finished p = record { reading = p.reading; activities = p.activities; place = p.place; done = true }

-- what is still to be written, from there and from the rest of the input
abbrev pub rest_of : Tally → List ℕ → List ℕ
rest_of p s = cond p.done [] (report_from (length s) p.reading p.activities p.place s)

-- ---- "A state passed in is one that these calls gave"
-- where the applications stand after a record; a refused one leaves them
abbrev pub if_read : Answer → List Activity → List Activity → List Activity
if_read Done new old = new
if_read (Refused n) new old = old

abbrev pub stand_after : Reading → List Activity → Record → List Activity
stand_after r cs e = if_read (record_read r e).answer (stand r.table (stand r.table cs (ticks_for r e)) (at_moment r e)) cs

-- .. and after records, one after the other
unfoldable pub standings : Reading → List Activity → List Record → List Activity
standings r cs [] = cs
standings r cs (e ∷ es) = standings (record_read r e).reading (stand_after r cs e) es

-- the reading and the activities are what some records gave
pub record GivenTally (p : Tally) : Type 0 where
  pub records : List Record
  pub reading : p.reading ≡ readings fresh records
  pub activities : p.activities ≡ standings fresh all_quiet records
