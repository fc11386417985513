-- Document 01, "What each contract has to say": "A state passed in is one that these calls gave".
use Rattle.std.specs.Prelude.{◌≡◌, List, [], ◌∷◌, ℕ}
use Rattle.rules.specs.Threads.{State}
use Rattle.rules.specs.Table.{Table, number_of, opening}
use Rattle.rules.specs.Completion.{completion}
use Rattle.rules.specs.Arrival.{arrival}
use Rattle.rules.specs.Drop.{dropped}
use Rattle.rules.specs.Step.{step_number, stepped}
use Rattle.rules.specs.Run.{ran}

-- a call with its arguments; a run with the moment it goes to and the row that is lent
pub data Call : Type 0 where
  complete : ℕ → Call
  arrive : ℕ → Call
  drop : ℕ → Call
  step : Call
  run : ℕ → List ℕ → Call

-- the state that a call gives, refused or not
abbrev pub apply : State → Call → State
apply s (complete i) = (completion s i).state
apply s (arrive i) = (arrival s i).state
apply s (drop i) = (dropped s i).state
apply s step = (stepped s).state
apply s (run to row) = (ran s to row).result.state

-- the state that a sequence of calls gives, the first call first
unfoldable pub after : State → List Call → State
after s [] = s
after s (c ∷ cs) = after (apply s c) cs

-- the number with which a call is refused, and 0 for none
abbrev pub refusal_of : State → Call → ℕ
refusal_of s (complete i) = number_of (completion s i).answer
refusal_of s (arrive i) = number_of (arrival s i).answer
refusal_of s (drop i) = number_of (dropped s i).answer
refusal_of s step = step_number (stepped s).outcome
refusal_of s (run to row) = number_of (ran s to row).result.answer

-- s is what some calls gave, refused ones among them, from a table on; what a refused table hands out in a state's place is
-- given too, so that no caller is trusted to have looked
pub record Given (s : State) : Type 0 where
  pub usual : ℕ
  pub table : Table
  pub calls : List Call
  pub came : s ≡ after (opening usual table).state calls
