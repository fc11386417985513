-- Document 01, "Refusal numbers": what the code's results say, in the numbers of the document.
use Rattle.std.specs.Prelude.{ℕ, Result, Ok, Err}
use Rattle.rules.specs.Threads.{State}
use Rattle.rules.specs.Table.{Answer, Done, Refused, Answered, done, refused}
use Rattle.rules.specs.Records.{Record, Decoded, Known}
use Rattle.rules.specs.Records as records
use Rattle.rules.specs.Reading.{Reading, Read, read_as}
use Rattle.rules.specs.Input.{InputRead, stopped}
use Rattle.quantities.specs.declared.InputRead as declared
pub use Rattle.quantities.specs.declared.Refusal.{Refusal}
pub use Rattle.quantities.specs.declared.Refusal.TheVariants.{QOutsideItsRange, ThreadsOutsideTheirRange, NoSuchApplication, ShareOutsideItsRange, PeriodTooLong, LessThanATick, SharesAboveQ, NoSuchThread, NotItsTick, AfterAnArrival, TooManyJobs, BeforeTheClock, BeyondTheEnd, CutShort, UnknownKind, NotInItsPlace, RowTooShort}

-- the number of each refusal
abbrev pub number : Refusal → ℕ
number QOutsideItsRange = 1
number ThreadsOutsideTheirRange = 2
number NoSuchApplication = 3
number ShareOutsideItsRange = 4
number PeriodTooLong = 5
number LessThanATick = 6
number SharesAboveQ = 7
number NoSuchThread = 8
number NotItsTick = 9
number AfterAnArrival = 10
number TooManyJobs = 11
number BeforeTheClock = 12
number BeyondTheEnd = 13
number CutShort = 14
number UnknownKind = 15
number NotInItsPlace = 16
number RowTooShort = 17

-- a result of the code as an answer
abbrev pub answer_of : {A : Type 0} → Result A Refusal → Answer
answer_of (Ok x) = Done
answer_of (Err e) = Refused (number e)

-- .. with the new state; where it is refused the state stays
abbrev pub answered : State → Result State Refusal → Answered
answered s (Ok z) = done z
answered s (Err e) = refused (number e) s

-- what the body of a record says
abbrev pub said : Result Record Refusal → Decoded
said (Ok e) = Known e
said (Err e) = records.Refused (number e)

-- the new reading; where the record is refused the reading stays
abbrev pub read_from : Reading → Result Reading Refusal → Read
read_from r (Ok z) = read_as Done z z
read_from r (Err e) = read_as (Refused (number e)) r r

-- what an input held whole gives
abbrev pub input_of : declared.InputRead → InputRead
input_of x = stopped (answer_of x.answer) x.at x.reading
