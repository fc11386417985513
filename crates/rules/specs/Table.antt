-- Document 01, "Quantities" and "Refusal numbers": which tables are admitted, and the state that one begins with.
use Rattle.std.specs.Prelude.{false, cond, List, ℕ, zero, suc, ◌+◌, ◌*◌, eqb, ltb, pos, get_or, set, replicate}
use Rattle.rules.specs.Limits.{max_q, max_threads, max_app, max_period, nobody}
use Rattle.rules.specs.Threads.{Thread, State, Inactive, blank, amt}
pub use Rattle.quantities.specs.declared.Row.{Row}
pub use Rattle.quantities.specs.declared.Table.{Table}

-- what a table, an event or a run answers
pub data Answer : Type 0 where
  Done : Answer
  Refused : ℕ → Answer

-- "a refusal returns its number and the state it was given"
pub record Answered : Type 0 where
  pub answer : Answer
  pub state : State

-- the number of a refusal, and 0 for none
abbrev pub number_of : Answer → ℕ
number_of Done = 0
number_of (Refused n) = n

-- the first answer, unless it is no refusal
abbrev pub first : Answer → Answer → Answer
first Done b = b
first (Refused n) b = Refused n

abbrev pub refused : ℕ → State → Answered
refused n s = record { answer = Refused n; state = s }

abbrev pub done : State → Answered
done s = record { answer = Done; state = s }

-- "period P: 1 to 65,536; 0 in a row stands for 100": the period that is meant, `usual` being what 0 stands for
abbrev pub meant : ℕ → ℕ → ℕ
meant usual p = cond (eqb p 0) usual p

-- "Order: head 1, 2": "Q outside its range", "thread count outside its range"
unfoldable pub head_answer : ℕ → ℕ → Answer
head_answer q n =
    cond (eqb q 0) (Refused 1)
    (cond (ltb max_q q) (Refused 1)
    (cond (eqb n 0) (Refused 2)
    (cond (ltb max_threads n) (Refused 2)
    Done)))

-- "each row 3, 4, 5, 6, 7": "application above 15", "share 0 or above Q", "period above 65,536", "u × P below Q",
-- "shares up to and with this row exceed Q"; `before` is the sum of the shares of the rows before it
unfoldable pub row_answer : ℕ → ℕ → ℕ → Row → Answer
row_answer usual q before x =
    cond (ltb max_app x.app) (Refused 3)
    (cond (eqb x.share 0) (Refused 4)
    (cond (ltb q x.share) (Refused 4)
    (cond (ltb max_period (meant usual x.period)) (Refused 5)
    (cond (ltb (x.share * meant usual x.period) q) (Refused 6)
    (cond (ltb q (before + x.share)) (Refused 7)
    Done)))))

-- a row that was not written
abbrev pub no_row : Row
no_row = record { app = 0; share = 0; period = 0 }

abbrev pub row_at : List Row → ℕ → Row
row_at rows i = get_or rows i no_row

-- the sum of the shares of the first i rows
unfoldable pub shares_to : List Row → ℕ → ℕ
shares_to rows zero = 0
shares_to rows (suc i) = shares_to rows i + (row_at rows i).share

-- the first refusal among the first n rows
unfoldable pub rows_answer : ℕ → ℕ → List Row → ℕ → Answer
rows_answer usual q rows zero = Done
rows_answer usual q rows (suc i) = first (rows_answer usual q rows i) (row_answer usual q (shares_to rows i) (row_at rows i))

-- what a table answers: its head, then each of its rows
unfoldable pub table_answer : ℕ → Table → Answer
table_answer usual t = first (head_answer t.q t.threads) (rows_answer usual t.q t.rows t.threads)

-- "All begin inactive."
abbrev pub opened : ℕ → Row → Thread
opened usual x = record { app = x.app; phase = Inactive; share = x.share; period = meant usual x.period; jobs = 0; w = amt (pos 0); e = amt (pos 0) }

-- "numbered from 0 in row order": the first n rows as threads, and nobody after them
unfoldable pub opened_to : ℕ → List Row → ℕ → List Thread
opened_to usual rows zero = replicate max_threads blank
opened_to usual rows (suc i) = set (opened_to usual rows i) i (opened usual (row_at rows i))

-- the state that an admitted table begins with
unfoldable pub start : ℕ → Table → State
start usual t = record {
  threads = opened_to usual t.rows t.threads;
  count = t.threads;
  had = nobody;
  q = t.q;
  clock = record { 0 = 0 };
  completed = false;
  closed = false;
}

-- "for a refused table, no schedule": what stands in the state's place
abbrev pub no_schedule : State
no_schedule = record { threads = replicate max_threads blank; count = 0; had = nobody; q = 0; clock = record { 0 = 0 }; completed = false; closed = false }

abbrev pub opened_as : Answer → State → Answered
opened_as Done s = done s
opened_as (Refused n) s = refused n no_schedule

-- the answer to a table, with the schedule that it begins
unfoldable pub opening : ℕ → Table → Answered
opening usual t = opened_as (table_answer usual t) (start usual t)
