-- Where a tally comes from: records that were read, and ticks that were taken one by one.
use Rattle.std.specs.Prelude.{◌≡◌, refl, true}
use Rattle.std.proofs.Common.{sym, ◌∙◌, arith}
use Rattle.std.proofs.Math.Path.{ap}
use mathlib.Core.List.{List, [], ◌∷◌, ◌++◌}
use Prim.Native.Nat.{ℕ, ◌+◌, ◌-◌, ◌≤◌}
use borrow.Author.Tests.{le-ltb}
use Rattle.rules.specs.Limits.{clock_end}
use Rattle.rules.specs.Table.{Done}
use Rattle.rules.specs.Run.{state_after}
use Rattle.rules.specs.Records.{Record, RunTo, moment}
use Rattle.rules.specs.Reading.{Reading, Read, fresh, at_events, with_state, before_ticks, ticks_due, event_read, record_read}
use Rattle.rules.specs.Input.{readings, GivenReading}
use Rattle.rules.specs.History.{ticks_of}
use Rattle.rules.specs.Stretches.{Activity, all_quiet}
use Rattle.rules.specs.Report.{stand, event_for}
use Rattle.windows.specs.Readings.{readings_more}
use Rattle.report.specs.Folds.{stand_none}
use Rattle.report.specs.Tallies.{Tally, begun, reached_at, finished, if_read, stand_after, standings, GivenTally}

pub given_begun : GivenTally begun
unfolding readings standings
given_begun = record { records = []; reading = refl; activities = refl }

pub given_finished : {p : Tally} → GivenTally p → GivenTally (finished p)
given_finished g = record { records = g.records; reading = g.reading; activities = g.activities }

-- its reading is a given one
pub tally_reading : {p : Tally} → GivenTally p → GivenReading p.reading
tally_reading g = record { records = g.records; came = g.reading }

-- ---- one record more
standings_more : (es : List Record) (r : Reading) (cs : List Activity) (e : Record) → standings r cs (es ++ (e ∷ [])) ≡ stand_after (readings r es) (standings r cs es) e
unfolding standings readings
standings_more [] r cs e = refl
standings_more (d ∷ es) r cs e = standings_more es (record_read r d).reading (stand_after r cs d) e

tally_by : {p : Tally} → GivenTally p → (e : Record) (b : ℕ) → GivenTally (reached_at (record_read p.reading e).reading (stand_after p.reading p.activities e) b)
tally_by {p} g e b = record {
  records = g.records ++ (e ∷ []);
  reading = ap (λ (r : Reading). (record_read r e).reading) g.reading ∙ sym (readings_more g.records fresh e);
  activities =
      ap (λ (r : Reading). stand_after r p.activities e) g.reading
      ∙ ap (λ (cs : List Activity). stand_after (readings fresh g.records) cs e) g.activities
      ∙ sym (standings_more g.records fresh all_quiet e);
}

tally_as : (b : ℕ) {r q : Reading} {cs ds : List Activity} → GivenTally (reached_at r cs b) → r ≡ q → cs ≡ ds → GivenTally (reached_at q ds b)
tally_as b g e f = record { records = g.records; reading = sym e ∙ g.reading; activities = sym f ∙ g.activities }

-- ---- a record that is read, where no tick is due
module _ (r : Reading) (e : Record) (q : Reading) (due : ticks_due r e ≡ 0) (done : record_read r e ≡ record { answer = Done; reading = q }) where
  stand_event : (cs : List Activity) → stand_after r cs e ≡ stand r.table cs (event_for r.state e)
  unfolding ticks_of state_after
  stand_event cs =
      ap (λ (x : Read). if_read x.answer (after (ticks_due r e)) cs) done
      ∙ ap after due
      ∙ ap (λ (c : List Activity). stand r.table c (event_for r.state e)) (stand_none r.table cs)
    where
      after : ℕ → List Activity
      after k = stand r.table (stand r.table cs (ticks_of k r.state)) (event_for (state_after k r.state) e)

pub tally_read : {p : Tally} → GivenTally p → (e : Record) (q : Reading) → ticks_due p.reading e ≡ 0 → record_read p.reading e ≡ record { answer = Done; reading = q } → (b : ℕ)
    → GivenTally (reached_at q (stand p.reading.table p.activities (event_for p.reading.state e)) b)
tally_read {p} g e q due done b = tally_as b (tally_by g e b) (ap (λ (x : Read). x.reading) done) (stand_event p.reading e q due done p.activities)

-- ---- ticks before the clock's end, as a report takes them a part at a time
module _ (r : Reading) (n : ℕ) (events : at_events r ≡ true) (fits : r.state.clock.0 + n ≤ clock_end) where
  abbrev run : Record
  run = RunTo (moment (r.state.clock.0 + n))

  ahead : (r.state.clock.0 + n) - r.state.clock.0 ≡ n
  ahead = omega arith

  run_due : ticks_due r run ≡ n
  unfolding ticks_due before_ticks
  run_due = rw (events, le-ltb clock_end (r.state.clock.0 + n) fits, le-ltb (r.state.clock.0 + n) r.state.clock.0 (omega arith), ahead)

  run_read : record_read r run ≡ record { answer = Done; reading = with_state r (state_after n r.state) }
  unfolding record_read event_read before_ticks
  run_read = rw (events, le-ltb clock_end (r.state.clock.0 + n) fits, le-ltb (r.state.clock.0 + n) r.state.clock.0 (omega arith), ahead)

  stand_run : (cs : List Activity) → stand_after r cs run ≡ stand r.table cs (ticks_of n r.state)
  stand_run cs =
      ap (λ (x : Read). if_read x.answer (stand r.table (stand r.table cs (ticks_of (ticks_due r run) r.state)) []) cs) run_read
      ∙ stand_none r.table (stand r.table cs (ticks_of (ticks_due r run) r.state))
      ∙ ap (λ (k : ℕ). stand r.table cs (ticks_of k r.state)) run_due

pub tally_ticks : {p : Tally} → GivenTally p → (n : ℕ) → at_events p.reading ≡ true → p.reading.state.clock.0 + n ≤ clock_end → (b : ℕ)
    → GivenTally (reached_at (with_state p.reading (state_after n p.reading.state)) (stand p.reading.table p.activities (ticks_of n p.reading.state)) b)
tally_ticks {p} g n events fits b = tally_as b (tally_by g (run p.reading n events fits) b) (ap (λ (x : Read). x.reading) (run_read p.reading n events fits)) (stand_run p.reading n events fits p.activities)
