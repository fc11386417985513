-- What holds of every reading that records gave.
use Rattle.std.specs.Prelude.{◌≡◌, Bool, true, false, not, cond, List, [], ◌∷◌, ◌++◌, eqb, length, set}
use Rattle.std.proofs.Math.Path.{refl}
use Rattle.std.proofs.Common.{sym, ap, ◌∙◌, subst, arith, eqb-true, ltb-true, ltb-false, ne_eqb, lt-ltb, le-ltb, length-set, get_or-set_same, get_or-set_other}
use Prim.Native.Nat.{ℕ, zero, suc, ◌+◌, ◌-◌, ◌≤◌, ◌<◌}
use Rattle.std.proofs.lemmas.Bool.{eqb-false, not-true}
use Rattle.std.proofs.lemmas.List.{length-replicate}
use Rattle.rules.specs.Limits.{max_threads, clock_end, usual_period}
use Rattle.rules.specs.Threads.{State}
use Rattle.rules.specs.Table.{Table, Answer, Done, Refused, first, head_answer, row_answer, row_at, shares_to, rows_answer, table_answer, no_row, start, no_schedule, opening}
use Rattle.rules.specs.Table as table
use Rattle.rules.specs.Run.{state_after}
use Rattle.rules.specs.Calls as calls
use Rattle.rules.specs.Calls.{Given}
use Rattle.rules.specs.Records as records
use Rattle.rules.specs.Records.{Record, Head, Row, Arrival, Completion, RunTo, Drop, Decoded, Known, moment, decoded}
use Rattle.rules.specs.Reading.{Reading, Read, fresh, at_head, at_rows, at_events, in_place, read_as, headed, rowed, with_row, with_state, before_ticks, ticks_before, at_its_moment, event_of, event_read, placed_read, record_read, decoded_read, read}
use Rattle.rules.specs.Input.{readings, GivenReading}
use Rattle.promises.specs.Cases.{by_test, both_true, and_false}
use Rattle.promises.specs.Admission.{rows_more}
use Rattle.promises.specs.Begin.{head_admitted}
use Rattle.promises.specs.Always.{given_opening, given_by, given_steps}

-- ---- where a reading comes from
pub given_fresh : GivenReading fresh
unfolding readings
given_fresh = record { records = []; came = refl }

pub readings_more : (es : List Record) (r : Reading) (e : Record) → readings r (es ++ (e ∷ [])) ≡ (record_read (readings r es) e).reading
unfolding readings
readings_more [] r e = refl
readings_more (d ∷ es) r e = readings_more es (record_read r d).reading e

-- a record after a given reading, refused or not, gives a given reading
pub reading_by : {r : Reading} → GivenReading r → (e : Record) → GivenReading (record_read r e).reading
reading_by g e = record {
  records = g.records ++ (e ∷ []);
  came = ap (λ (r : Reading). (record_read r e).reading) g.came ∙ sym (readings_more g.records fresh e);
}

-- a run to the moment n ticks ahead
ticks_read : (r : Reading) (n : ℕ) → at_events r ≡ true → r.state.clock.0 + n ≤ clock_end
    → (record_read r (RunTo (moment (r.state.clock.0 + n)))).reading ≡ with_state r (state_after n r.state)
unfolding record_read event_read before_ticks
ticks_read r n e h =
    let d : (r.state.clock.0 + n) - r.state.clock.0 ≡ n = omega arith in
    rw (e, le-ltb clock_end (r.state.clock.0 + n) h, le-ltb (r.state.clock.0 + n) r.state.clock.0 (omega arith), d)

-- so many ticks of a schedule before the clock's end, as a listing takes them one by one
pub reading_ticks : {r : Reading} → GivenReading r → (n : ℕ) → at_events r ≡ true → r.state.clock.0 + n ≤ clock_end → GivenReading (with_state r (state_after n r.state))
reading_ticks {r} g n e h = subst GivenReading (ticks_read r n e h) (reading_by g (RunTo (moment (r.state.clock.0 + n))))

-- ---- the places of a reading
rows_open : (r : Reading) → at_rows r ≡ true → (r.table.threads ≡ 0 → ⊥) × (r.rows < r.table.threads)
rows_open r e = let p = both_true (not (at_head r)) _ e in (eqb-false _ _ (not-true _ p.0), ltb-true _ _ p.1)

-- a row is to come exactly while fewer have come than the head says
pub rows_come : (r : Reading) → r.rows < r.table.threads → at_rows r ≡ true
rows_come r h = rw (ne_eqb r.table.threads 0 (λ e. omega (arith, e, h)), lt-ltb r.rows r.table.threads h)

pub rows_shut : (r : Reading) → r.table.threads ≤ r.rows → at_rows r ≡ false
rows_shut r h = rw (le-ltb r.rows r.table.threads h) (and_false (not (at_head r)))

events_open : (r : Reading) → at_events r ≡ true → (r.table.threads ≡ 0 → ⊥) × (r.table.threads ≤ r.rows)
events_open r e = let p = both_true (not (at_head r)) _ e in (eqb-false _ _ (not-true _ p.0), ltb-false _ _ (not-true _ p.1))

-- ---- what holds of a given reading
pub record GoodReading (r : Reading) : Type 0 where
  -- no more rows have come than the head says
  pub few : r.rows ≤ r.table.threads
  -- there is room for every row
  pub long : length r.table.rows ≡ max_threads
  -- the head that has come was not refused
  pub head : (r.table.threads ≡ 0 → ⊥) → head_answer r.table.q r.table.threads ≡ Done
  -- .. nor was any row that has come
  pub rows : rows_answer usual_period r.table.q r.table.rows r.rows ≡ Done
  -- the schedule is a given one
  pub given : Given r.state
  -- before the head nothing has been read
  pub bare : r.table.threads ≡ 0 → r ≡ fresh
  -- before the last row there is no schedule
  pub unbegun : r.rows < r.table.threads → r.state ≡ no_schedule

-- ---- a head
given_none : Given no_schedule
unfolding opening table_answer head_answer
given_none = given_opening usual_period fresh.table

head_good : (q n : ℕ) → head_answer q n ≡ Done → GoodReading (headed q n)
unfolding rows_answer
head_good q n e = record {
  few = omega arith;
  long = length-replicate max_threads no_row;
  head = λ _. e;
  rows = refl;
  given = given_none;
  bare = λ z. absurd ((head_admitted q n e).some z);
  unbegun = λ _. refl;
}

-- ---- a row
-- a row at k leaves the sum of the shares before it, and what the rows before it answer
module _ (rows : List table.Row) (k : ℕ) (x : table.Row) where
  row_other : (i : ℕ) → (i ≡ k → ⊥) → row_at (set rows k x) i ≡ row_at rows i
  row_other i f = get_or-set_other rows k i x no_row f

  shares_kept : (i : ℕ) → i ≤ k → shares_to (set rows k x) i ≡ shares_to rows i
  unfolding shares_to
  shares_kept zero h = refl
  shares_kept (suc i) h = rw (shares_kept i (omega arith), row_other i (λ e. omega arith))

  answers_kept : (usual q i : ℕ) → i ≤ k → rows_answer usual q (set rows k x) i ≡ rows_answer usual q rows i
  unfolding rows_answer
  answers_kept usual q zero h = refl
  answers_kept usual q (suc i) h = rw (answers_kept usual q i (omega arith), shares_kept i (omega arith), row_other i (λ e. omega arith))

  -- a row that is not refused after those before it
  row_joins : (usual q : ℕ) → k < length rows → rows_answer usual q rows k ≡ Done → row_answer usual q (shares_to rows k) x ≡ Done → rows_answer usual q (set rows k x) (k + 1) ≡ Done
  row_joins usual q h e d =
      rows_more usual q (set rows k x) k (answers_kept usual q k (omega arith) ∙ e)
      ∙ ap (λ (n : ℕ). row_answer usual q n (row_at (set rows k x) k)) (shares_kept k (omega arith))
      ∙ ap (row_answer usual q (shares_to rows k)) (get_or-set_same rows k x no_row h)
      ∙ d

-- the table with its last row begins a schedule
table_whole : (t : Table) → head_answer t.q t.threads ≡ Done → rows_answer usual_period t.q t.rows t.threads ≡ Done → table_answer usual_period t ≡ Done
unfolding table_answer
table_whole t h e = rw (h, e)

pub opening_whole : (t : Table) → table_answer usual_period t ≡ Done → (opening usual_period t).state ≡ start usual_period t
unfolding opening
opening_whole t e = rw e

module _ {r : Reading} (g : GoodReading r) where
  pub few_threads : (r.table.threads ≡ 0 → ⊥) → r.table.threads ≤ max_threads
  few_threads f = (head_admitted _ _ (g.head f)).few

  module _ (place : at_rows r ≡ true) (x : table.Row) (d : row_answer usual_period r.table.q (shares_to r.table.rows r.rows) x ≡ Done) where
    -- the rows with this one are not refused
    rows_with : rows_answer usual_period r.table.q (set r.table.rows r.rows x) (r.rows + 1) ≡ Done
    rows_with =
        let o = rows_open r place in
        row_joins r.table.rows r.rows x usual_period r.table.q (omega (arith, g.long, few_threads o.0, o.1)) g.rows d

    -- with the last row the table is admitted
    pub last_admitted : r.rows + 1 ≡ r.table.threads → table_answer usual_period (with_row r.table r.rows x) ≡ Done
    last_admitted e =
        table_whole (with_row r.table r.rows x) (g.head (rows_open r place).0)
        (subst (λ (k : ℕ). rows_answer usual_period r.table.q (set r.table.rows r.rows x) k ≡ Done) e rows_with)

    row_good : GoodReading (rowed x r)
    row_good =
        let o = rows_open r place in
        record {
          few = omega (arith, o.1);
          long = length-set r.table.rows r.rows x ∙ g.long;
          head = g.head;
          rows = rows_with;
          given =
              by_test Given (eqb (r.rows + 1) r.table.threads)
              (λ e. let t = with_row r.table r.rows x in subst Given (opening_whole t (last_admitted (eqb-true (r.rows + 1) r.table.threads e))) (given_opening usual_period t))
              (λ _. given_none);
          bare = λ z. absurd (o.0 z);
          unbegun = λ h. ap (λ (b : Bool). cond b (start usual_period (with_row r.table r.rows x)) no_schedule) (ne_eqb (r.rows + 1) r.table.threads (λ e. omega (arith, e, h)));
        }

  -- ---- an event
  module _ (place : at_events r ≡ true) where
    with_good : {s : State} → Given s → GoodReading (with_state r s)
    with_good s =
        let o = events_open r place in
        record {
          few = g.few;
          long = g.long;
          head = g.head;
          rows = g.rows;
          given = s;
          bare = λ z. absurd (o.0 z);
          unbegun = λ h. absurd (omega (arith, o.1, h));
        }

given_moment : {s : State} → Given s → (e : Record) → Given (at_its_moment s e).state
given_moment g (Head q n) = g
given_moment g (Row x) = g
given_moment g (Arrival m i) = given_by g (calls.arrive i)
given_moment g (Completion m i) = given_by g (calls.complete i)
given_moment g (RunTo m) = g
given_moment g (Drop m i) = given_by g (calls.drop i)

-- ---- every record
-- what is read is good where it would be if nothing were refused
as_good : (a : Answer) (new old : Reading) → (a ≡ Done → GoodReading new) → GoodReading old → GoodReading (read_as a new old).reading
as_good Done new old f g = f refl
as_good (Refused n) new old f g = g

event_good : {r : Reading} → GoodReading r → at_events r ≡ true → (e : Record) → GoodReading (event_read r e).reading
unfolding event_read
event_good {r} g place e = as_good (first (before_ticks r.state e) (event_of r.state e).answer) _ r (λ _. with_good g place (given_moment (given_steps (ticks_before r.state e) g.given) e)) g

placed_good : {r : Reading} → GoodReading r → (e : Record) → in_place r e ≡ true → GoodReading (placed_read r e).reading
placed_good {r} g (Head q n) p = as_good (head_answer q n) _ r (λ d. head_good q n d) g
placed_good {r} g (Row x) p = as_good (row_answer usual_period r.table.q (shares_to r.table.rows r.rows) x) _ r (λ d. row_good g p x d) g
placed_good g (Arrival m i) p = event_good g p (Arrival m i)
placed_good g (Completion m i) p = event_good g p (Completion m i)
placed_good g (RunTo m) p = event_good g p (RunTo m)
placed_good g (Drop m i) p = event_good g p (Drop m i)

record_good : {r : Reading} → GoodReading r → (e : Record) → GoodReading (record_read r e).reading
unfolding record_read
record_good {r} g e = by_test (λ (x : Read). GoodReading x.reading) (in_place r e) (λ p. placed_good g e p) (λ _. g)

fresh_good : GoodReading fresh
unfolding rows_answer
fresh_good = record {
  few = omega arith;
  long = length-replicate max_threads no_row;
  head = λ f. absurd (f refl);
  rows = refl;
  given = given_none;
  bare = λ _. refl;
  unbegun = λ _. refl;
}

readings_good : (es : List Record) {r : Reading} → GoodReading r → GoodReading (readings r es)
unfolding readings
readings_good [] g = g
readings_good (e ∷ es) g = readings_good es (record_good g e)

-- every given reading is good
pub given_reading : {r : Reading} → GivenReading r → GoodReading r
given_reading g = rw g.came (readings_good g.records fresh_good)

-- a whole record by its kind and body, refused or not
pub reading_read : {r : Reading} → GivenReading r → (kind : ℕ) (b : List ℕ) → GivenReading (read r kind b).reading
unfolding read
reading_read {r} g kind b = go (decoded kind b)
  where
    go : (d : Decoded) → GivenReading (decoded_read r d).reading
    go (Known e) = reading_by g e
    go (records.Refused n) = g
