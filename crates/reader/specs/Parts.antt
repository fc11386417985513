-- Parts of reading a record, and the cases of a record.
use Rattle.std.specs.Prelude.{◌≡◌, refl, Bool, true, false, List, ℕ, zero, suc, length, take, sum_by, ◌+◌, ◌-◌, ◌≤◌, ◌<◌, ltb}
use Rattle.std.proofs.Common.{sym, ◌∙◌, add-one, subst, arith, ltb-false, le-ltb, eq-eqb, ne_eqb}
use Rattle.std.proofs.Math.Path.{ap}
use Rattle.std.proofs.Math.Bool.{cond}
use Rattle.rules.specs.Limits.{clock_end, usual_period}
use Rattle.rules.specs.Threads.{State}
use Rattle.rules.specs.Table.{Table, Answer, Done, Refused, Answered, done, refused, first, head_answer, row_answer, shares_to, no_row, start, no_schedule, opening}
use Rattle.rules.specs.Table as table
use Rattle.rules.specs.Run.{state_after, passed}
use Rattle.rules.specs.Records.{Moment, Record, Head, Row, Arrival, Completion, RunTo, Drop}
use Rattle.rules.specs.Reading.{Reading, Read, fresh, at_head, at_rows, at_events, read_as, moment_answer, before_ticks, ticks_before, event_of, due_as, ticks_due, headed, with_row, rowed, with_state, event_read, record_read}
use Rattle.std.proofs.lemmas.List.Sums.{sum_by_more}
use Rattle.promises.specs.Begin.{both_done}
use Rattle.windows.specs.Readings.{GoodReading, rows_come, rows_shut, opening_whole, last_admitted}

-- the moment of an event; a head and a row bear none, and have the present one
abbrev pub moment_of : Record → Moment → Moment
moment_of (Head q n) now = now
moment_of (Row x) now = now
moment_of (Arrival m i) now = m
moment_of (Completion m i) now = m
moment_of (RunTo m) now = m
moment_of (Drop m i) now = m

-- an event, or a record in an event's place
abbrev pub event_in : Reading → Record → Read
event_in r e = cond (at_events r) (event_read r e) (read_as (Refused 16) r r)

-- ---- they are the parts of document 01
pub ticks_at : (s : State) (e : Record) → (moment_of e s.clock).0 - s.clock.0 ≡ ticks_before s e
ticks_at s (Head q n) = omega arith
ticks_at s (Row x) = omega arith
ticks_at s (Arrival m i) = refl
ticks_at s (Completion m i) = refl
ticks_at s (RunTo m) = refl
ticks_at s (Drop m i) = refl

none : (b : Bool) → ◌≡◌ {A = ℕ} (cond b 0 0) 0
none true = refl
none false = refl

-- no tick is due for a head or a row, so the place of events decides
pub due_at : (r : Reading) (e : Record) → cond (at_events r) (due_as (before_ticks r.state e) (ticks_before r.state e)) 0 ≡ ticks_due r e
unfolding ticks_due before_ticks
due_at r (Head q n) = none (at_events r) ∙ sym (none (at_head r))
due_at r (Row x) = none (at_events r) ∙ sym (none (at_rows r))
due_at r (Arrival m i) = refl
due_at r (Completion m i) = refl
due_at r (RunTo m) = refl
due_at r (Drop m i) = refl

pub due_is : (r : Reading) (e : Record) (b : Bool) (a : Answer) → at_events r ≡ b → before_ticks r.state e ≡ a → cond b (due_as a (ticks_before r.state e)) 0 ≡ ticks_due r e
due_is r e b a p d = rw (← p, ← d) (due_at r e)

-- ---- a moment that is not refused
peel : (b : Bool) (k : ℕ) (a : Answer) → cond b (Refused k) a ≡ Done → (b ≡ false) × (a ≡ Done)
peel true k a e = let z : ◌≡◌ {A = ℕ} 0 1 = cc in absurd (omega arith)
peel false k a e = (refl, e)

-- the moment t lies between the clock and its end
abbrev pub Ahead : State → ℕ → Type 0
Ahead s t = (s.clock.0 ≤ t) × (t ≤ clock_end)

ahead_moment : (s : State) (m : Moment) → moment_answer s m ≡ Done → Ahead s m.0
ahead_moment s m e =
    let p = peel (ltb clock_end m.0) 13 _ e in
    let q = peel (ltb m.0 s.clock.0) 12 Done p.1 in
    (ltb-false _ _ q.0, ltb-false _ _ p.0)

pub ahead : (s : State) (e : Record) → s.clock.0 ≤ clock_end → before_ticks s e ≡ Done → Ahead s (moment_of e s.clock).0
unfolding before_ticks
ahead s (Head q n) t d = (omega arith, t)
ahead s (Row x) t d = (omega arith, t)
ahead s (Arrival m i) t d = ahead_moment s m (both_done _ _ d).0
ahead s (Completion m i) t d = ahead_moment s m (both_done _ _ d).0
ahead s (RunTo m) t d = ahead_moment s m d
ahead s (Drop m i) t d = ahead_moment s m (both_done _ _ d).0

-- the run to an event's moment
pub passed_at : (s : State) (e : Record) → Ahead s (moment_of e s.clock).0 → passed s (moment_of e s.clock).0 ≡ done (state_after (ticks_before s e) s)
unfolding passed
passed_at s e h = rw (le-ltb _ _ h.0, le-ltb _ _ h.1, ticks_at)

-- .. of an event that is not refused before any tick
pub passed_then : (s : State) (e : Record) → s.clock.0 ≤ clock_end → before_ticks s e ≡ Done → passed s (moment_of e s.clock).0 ≡ done (state_after (ticks_before s e) s)
passed_then s e t d = passed_at s e (ahead s e t d)

-- ---- the cases of an event
module _ (r : Reading) (e : Record) where
  pub out_of_place : at_events r ≡ false → read_as (Refused 16) r r ≡ event_in r e
  out_of_place p = rw p

  module _ (p : at_events r ≡ true) where
    pub refused_before : (n : ℕ) → before_ticks r.state e ≡ Refused n → read_as (Refused n) r r ≡ event_in r e
    unfolding event_read
    refused_before n b = rw (p, b)

    module _ (b : before_ticks r.state e ≡ Done) where
      pub refused_then : (n : ℕ) (s : State) → event_of r.state e ≡ refused n s → read_as (Refused n) r r ≡ event_in r e
      unfolding event_read
      refused_then n s x = rw (p, b, x)

      pub taken_then : (s : State) → event_of r.state e ≡ done s → read_as Done (with_state r s) r ≡ event_in r e
      unfolding event_read
      taken_then s x = rw (p, b, x)

-- ---- the cases of a head
head_first : (q n : ℕ) → head_answer q n ≡ Done → read_as Done (headed q n) fresh ≡ record_read fresh (Head q n)
unfolding record_read
head_first q n d = ap (λ (a : Answer). read_as a (headed q n) fresh) (sym d)

-- the reading with a new head of its table
abbrev pub with_head : ℕ → ℕ → Reading → Reading
with_head q n r = record { table = record { q = q; threads = n; rows = r.table.rows }; rows = r.rows; state = r.state }

pub head_taken : (r : Reading) (q n : ℕ) → r ≡ fresh → head_answer q n ≡ Done → read_as Done (with_head q n r) r ≡ record_read r (Head q n)
head_taken r q n e d = subst (λ (r : Reading). read_as Done (with_head q n r) r ≡ record_read r (Head q n)) (sym e) (head_first q n d)

-- ---- the cases of a row
-- the sum of the shares, as the library says it
pub shares_sum : (rows : List table.Row) (n : ℕ) → n ≤ length rows → sum_by (λ (x : table.Row). x.share) (take n rows) ≡ shares_to rows n
unfolding shares_to
shares_sum rows zero h = refl
shares_sum rows (suc n) h = rw (← add-one n, sum_by_more (λ (x : table.Row). x.share) rows n no_row (omega arith), shares_sum rows n (omega arith))

module _ (r : Reading) (x : table.Row) where
  -- what the row answers, and the table with it
  abbrev pub its_answer : Answer
  its_answer = row_answer usual_period r.table.q (shares_to r.table.rows r.rows) x

  abbrev pub with_it : Table
  with_it = with_row r.table r.rows x

  -- a row where none is to come
  pub row_out : r.table.threads ≤ r.rows → read_as (Refused 16) r r ≡ record_read r (Row x)
  unfolding record_read
  row_out h = ap (λ (b : Bool). cond b (read_as its_answer (rowed x r) r) (read_as (Refused 16) r r)) (sym (rows_shut r h))

  module _ (h : r.rows < r.table.threads) where
    row_in : read_as its_answer (rowed x r) r ≡ record_read r (Row x)
    unfolding record_read
    row_in = ap (λ (b : Bool). cond b (read_as its_answer (rowed x r) r) (read_as (Refused 16) r r)) (sym (rows_come r h))

    pub row_refused : (n : ℕ) → its_answer ≡ Refused n → read_as (Refused n) r r ≡ record_read r (Row x)
    row_refused n d = ap (λ (a : Answer). read_as a (rowed x r) r) (sym d) ∙ row_in

    module _ (d : its_answer ≡ Done) where
      row_done : read_as Done (rowed x r) r ≡ record_read r (Row x)
      row_done = ap (λ (a : Answer). read_as a (rowed x r) r) (sym d) ∙ row_in

      -- the reading with the row and this state
      abbrev pub rowed_to : State → Read
      rowed_to s = read_as Done (record { table = with_it; rows = r.rows + 1; state = s }) r

      module _ (g : GoodReading r) where
        -- the last row admits the table
        pub row_begins : r.rows + 1 ≡ r.table.threads → opening usual_period with_it ≡ done (start usual_period with_it)
        unfolding opening
        row_begins e = rw (last_admitted g (rows_come r h) x d e)

        pub row_last : r.rows + 1 ≡ r.table.threads → rowed_to (opening usual_period with_it).state ≡ record_read r (Row x)
        row_last e =
            ap rowed_to (opening_whole with_it (last_admitted g (rows_come r h) x d e))
            ∙ ap (λ (b : Bool). rowed_to (cond b (start usual_period with_it) no_schedule)) (sym (eq-eqb _ _ e))
            ∙ row_done

        pub row_joined : (r.rows + 1 ≡ r.table.threads → ⊥) → rowed_to r.state ≡ record_read r (Row x)
        row_joined f =
            ap rowed_to (g.unbegun h)
            ∙ ap (λ (b : Bool). rowed_to (cond b (start usual_period with_it) no_schedule)) (sym (ne_eqb _ _ f))
            ∙ row_done
