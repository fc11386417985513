-- Document 01: "The caller lends a row of 16-bit numbers for a run: one entry a tick, the thread, or 65,535 for idle; entries
-- past the run stay. A run to the present clock does nothing."
use Rattle.std.specs.Prelude.{cond, List, [], ◌∷◌, ◌++◌, ℕ, zero, suc, ◌-◌, ltb, length, drop}
use Rattle.rules.specs.Limits.{clock_end, idle_entry}
use Rattle.rules.specs.Threads.{State}
use Rattle.rules.specs.Table.{Answered, done, refused}
use Rattle.rules.specs.Step.{Outcome, Grant, Idle, Refused, stepped}

-- "one entry a tick, the thread, or 65,535 for idle"; a tick of a run is never refused
abbrev pub entry_of : Outcome → ℕ
entry_of (Grant i) = i
entry_of Idle = idle_entry
entry_of (Refused n) = idle_entry

-- the state after k ticks
unfoldable pub state_after : ℕ → State → State
state_after zero s = s
state_after (suc k) s = (stepped (state_after k s)).state

-- the entries of k ticks
unfoldable pub row_after : ℕ → State → List ℕ
row_after zero s = []
row_after (suc k) s = row_after k s ++ (entry_of (stepped (state_after k s)).outcome ∷ [])

-- what a run gives: the answer with the state, and the lent row
pub record Ran : Type 0 where
  pub result : Answered
  pub row : List ℕ

abbrev pub unrun : ℕ → State → List ℕ → Ran
unrun n s row = record { result = refused n s; row = row }

-- "A run into a lent row: 12, 13, 17.": "tick before the clock", "tick beyond the clock's end", "lent row shorter than the run"
unfoldable pub ran : State → ℕ → List ℕ → Ran
ran s to row =
    cond (ltb to s.clock.0) (unrun 12 s row)
    (cond (ltb clock_end to) (unrun 13 s row)
    (cond (ltb (length row) (to - s.clock.0)) (unrun 17 s row)
    (record {
      result = done (state_after (to - s.clock.0) s);
      row = row_after (to - s.clock.0) s ++ drop (to - s.clock.0) row;
    })))

-- the same run where no row is lent, as reading a trace does it: 12, 13
unfoldable pub passed : State → ℕ → Answered
passed s to =
    cond (ltb to s.clock.0) (refused 12 s)
    (cond (ltb clock_end to) (refused 13 s)
    (done (state_after (to - s.clock.0) s)))
