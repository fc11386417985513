-- The activities of a given tally have to do with its schedule as those of its history do.
use Rattle.std.specs.Prelude.{◌≡◌, Bool, true, false, cond, not, ◌&&◌, List, [], ◌∷◌, ℕ, ◌+◌, eqb, ltb}
use Rattle.std.proofs.Math.Path.{refl, ap, subst}
use Rattle.std.proofs.Common.{sym, ◌∙◌, arith}
use borrow.Author.Tests.{eqb-true, eqb-false, ltb-true, ne_eqb, lt-ltb}
use Rattle.rules.specs.Limits.{usual_period}
use Rattle.rules.specs.Threads.{State}
use Rattle.rules.specs.Table.{Answer, Done, Refused, first, head_answer, row_answer, shares_to, start, no_schedule}
use Rattle.rules.specs.Table as table
use Rattle.rules.specs.Run.{state_after}
use Rattle.rules.specs.Calls as calls
use Rattle.rules.specs.Records.{Record, Head, Row, Arrival, Completion, RunTo, Drop}
use Rattle.rules.specs.Reading.{Reading, Read, fresh, at_head, at_rows, at_events, in_place, read_as, headed, with_row, rowed, with_state, before_ticks, ticks_before, ticks_due, at_its_moment, event_of, event_read, placed_read, record_read}
use Rattle.rules.specs.Input.{readings, GivenReading}
use Rattle.rules.specs.History.{ticks_of}
use Rattle.rules.specs.Stretches.{Activity, all_quiet}
use Rattle.rules.specs.Report.{stand, event_for, ticks_for, at_moment}
use Rattle.promises.specs.Cases.{by_test, true_false, both_true}
use Rattle.promises.specs.Begin.{both_done, head_admitted}
use Rattle.promises.specs.Good.{Good}
use Rattle.promises.specs.Always.{given_good, steps_good}
use Rattle.stretches.specs.Standing.{Kept}
use Rattle.stretches.specs.Start.{kept_start}
use Rattle.stretches.specs.Calls.{kept_ticks, kept_call}
use Rattle.windows.specs.Readings.{given_fresh, reading_by, given_reading, last_admitted}
use Rattle.report.specs.Folds.{stand_none}
use Rattle.report.specs.Tallies.{Tally, if_read, stand_after, standings, GivenTally}

-- the activities are those of a history that led to the schedule; before it begins no thread has been active
record Tallied (r : Reading) (cs : List Activity) : Type 0 where
  given : GivenReading r
  before : at_events r ≡ false → cs ≡ all_quiet
  kept : at_events r ≡ true → Kept r.table r.state cs

-- ---- the places of a reading
head_early : (r : Reading) → at_head r ≡ true → at_events r ≡ false
head_early r e = rw e

rows_early : (r : Reading) → at_rows r ≡ true → at_events r ≡ false
rows_early r e = go (not (at_head r)) (ltb r.rows r.table.threads) (both_true (not (at_head r)) _ e).1
  where
    go : (a b : Bool) → b ≡ true → (a && not b) ≡ false
    go true true f = refl
    go true false f = absurd (true_false (sym f))
    go false b f = refl

-- ---- a record, where nothing is refused
module _ (r : Reading) (cs : List Activity) (t : Tallied r cs) where
  abbrev after : Record → List Activity
  after e = stand r.table (stand r.table cs (ticks_for r e)) (at_moment r e)

  as_tallied : (a : Answer) (new : Reading) (ds : List Activity) → (a ≡ Done → Tallied new ds) → Tallied (read_as a new r).reading (if_read (read_as a new r).answer ds cs)
  as_tallied Done new ds f = f refl
  as_tallied (Refused n) new ds f = t

  -- nothing happens before the schedule begins
  quiet_after : (e : Record) → ticks_due r e ≡ 0 → ((s : State) → event_for s e ≡ []) → at_events r ≡ false → after e ≡ all_quiet
  unfolding ticks_of
  quiet_after e due none early =
      ap (λ hs. stand r.table (stand r.table cs (ticks_for r e)) hs) (none (state_after (ticks_due r e) r.state))
      ∙ stand_none r.table (stand r.table cs (ticks_for r e))
      ∙ ap (λ (k : ℕ). stand r.table cs (ticks_of k r.state)) due
      ∙ stand_none r.table cs
      ∙ t.before early

  -- ---- a head
  head_tallied : (q n : ℕ) → at_head r ≡ true → head_answer q n ≡ Done → GivenReading (headed q n) → Tallied (headed q n) (after (Head q n))
  unfolding ticks_due before_ticks
  head_tallied q n place d g = record {
    given = g;
    before = λ _. quiet_after (Head q n) (rw place) (λ s. refl) (head_early r place);
    kept = λ late. absurd (true_false (sym late ∙ rows_early (headed q n) (rw (ne_eqb n 0 some, lt-ltb 0 n (omega (arith, some))))));
  }
    where
      some : n ≡ 0 → ⊥
      some = (head_admitted q n d).some

  -- ---- a row
  row_tallied : (x : table.Row) → at_rows r ≡ true → row_answer usual_period r.table.q (shares_to r.table.rows r.rows) x ≡ Done → GivenReading (rowed x r) → Tallied (rowed x r) (after (Row x))
  unfolding ticks_due before_ticks
  row_tallied x place d g = record {
    given = g;
    before = λ _. quiet;
    kept = λ late. subst (Kept (rowed x r).table (rowed x r).state) (sym quiet) (begins (eqb (r.rows + 1) r.table.threads) refl late);
  }
    where
      quiet : after (Row x) ≡ all_quiet
      quiet = quiet_after (Row x) (rw place) (λ s. refl) (rows_early r place)

      begins : (b : Bool) → eqb (r.rows + 1) r.table.threads ≡ b → at_events (rowed x r) ≡ true → Kept (rowed x r).table (cond b (start usual_period (with_row r.table r.rows x)) no_schedule) all_quiet
      begins true e late = kept_start usual_period (with_row r.table r.rows x) (last_admitted (given_reading t.given) place x d (eqb-true (r.rows + 1) r.table.threads e))
      begins false e late =
          let f = eqb-false (r.rows + 1) r.table.threads e in
          let h = ltb-true r.rows r.table.threads (both_true (not (at_head r)) _ place).1 in
          absurd (true_false (sym late ∙ rows_early (rowed x r) (rw ((both_true (not (at_head r)) _ place).0, lt-ltb (r.rows + 1) r.table.threads (omega (arith, f, h))))))

  -- ---- an event
  event_kept : (e : Record) (z : State) {ds : List Activity} → Good z → Kept r.table z ds → Kept r.table (at_its_moment z e).state (stand r.table ds (event_for z e))
  event_kept (Head q n) z {ds} g k = subst (Kept r.table z) (sym (stand_none r.table ds)) k
  event_kept (Row x) z {ds} g k = subst (Kept r.table z) (sym (stand_none r.table ds)) k
  event_kept (Arrival m i) z g k = kept_call (calls.arrive i) z g k
  event_kept (Completion m i) z g k = kept_call (calls.complete i) z g k
  event_kept (RunTo m) z {ds} g k = subst (Kept r.table z) (sym (stand_none r.table ds)) k
  event_kept (Drop m i) z g k = kept_call (calls.drop i) z g k

  all_before : (e : Record) → in_place r e ≡ true → before_ticks r.state e ≡ Done → ticks_due r e ≡ ticks_before r.state e
  unfolding ticks_due
  all_before e place d = rw (place, d)

  event_tallied : (e : Record) → in_place r e ≡ true → at_events r ≡ true → GivenReading (event_read r e).reading → Tallied (event_read r e).reading (if_read (event_read r e).answer (after e) cs)
  unfolding event_read
  event_tallied e there place g = as_tallied (first (before_ticks s e) (event_of s e).answer) (with_state r (event_of s e).state) (after e) (λ d. record {
    given = subst (λ (a : Answer). GivenReading (read_as a (with_state r (event_of s e).state) r).reading) d g;
    before = λ early. absurd (true_false (sym place ∙ early));
    kept = λ _.
        subst (λ (k : ℕ). Kept r.table (event_of s e).state (stand r.table (stand r.table cs (ticks_of k s)) (event_for (state_after k s) e))) (sym (all_before e there (both_done (before_ticks s e) (event_of s e).answer d).0))
        (event_kept e (state_after n s) (steps_good n good) (kept_ticks n s good (t.kept place)));
  })
    where
      s : State
      s = r.state

      n : ℕ
      n = ticks_before s e

      good : Good s
      good = given_good (given_reading t.given).given

  -- ---- every record
  placed_tallied : (e : Record) → in_place r e ≡ true → GivenReading (placed_read r e).reading → Tallied (placed_read r e).reading (if_read (placed_read r e).answer (after e) cs)
  placed_tallied (Head q n) p g = as_tallied (head_answer q n) (headed q n) (after (Head q n)) (λ d. head_tallied q n p d (subst (λ (a : Answer). GivenReading (read_as a (headed q n) r).reading) d g))
  placed_tallied (Row x) p g = as_tallied (row_answer usual_period r.table.q (shares_to r.table.rows r.rows) x) (rowed x r) (after (Row x)) (λ d. row_tallied x p d (subst (λ (a : Answer). GivenReading (read_as a (rowed x r) r).reading) d g))
  placed_tallied (Arrival m i) p g = event_tallied (Arrival m i) p p g
  placed_tallied (Completion m i) p g = event_tallied (Completion m i) p p g
  placed_tallied (RunTo m) p g = event_tallied (RunTo m) p p g
  placed_tallied (Drop m i) p g = event_tallied (Drop m i) p p g

  record_placed : (e : Record) → in_place r e ≡ true → record_read r e ≡ placed_read r e
  unfolding record_read
  record_placed e p = rw p

  record_tallied : (e : Record) → Tallied (record_read r e).reading (stand_after r cs e)
  unfolding record_read
  record_tallied e =
      by_test (λ (x : Read). Tallied x.reading (if_read x.answer (after e) cs)) (in_place r e)
      (λ p. placed_tallied e p (subst (λ (x : Read). GivenReading x.reading) (record_placed e p) (reading_by t.given e)))
      (λ _. t)

records_tallied : (es : List Record) (r : Reading) (cs : List Activity) → Tallied r cs → Tallied (readings r es) (standings r cs es)
unfolding readings standings
records_tallied [] r cs t = t
records_tallied (e ∷ es) r cs t = records_tallied es (record_read r e).reading (stand_after r cs e) (record_tallied r cs t e)

fresh_tallied : Tallied fresh all_quiet
fresh_tallied = record { given = given_fresh; before = λ _. refl; kept = λ late. absurd (true_false (sym late)) }

-- while a schedule is there, its activities are kept
pub tally_kept : {p : Tally} → GivenTally p → at_events p.reading ≡ true → Kept p.reading.table p.reading.state p.activities
tally_kept {p} g late =
    subst (λ (cs : List Activity). Kept p.reading.table p.reading.state cs) (sym g.activities)
    (subst (λ (r : Reading). Kept r.table r.state (standings fresh all_quiet g.records)) (sym g.reading)
    ((records_tallied g.records fresh all_quiet fresh_tallied).kept (sym (ap at_events g.reading) ∙ late)))
