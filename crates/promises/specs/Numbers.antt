-- Document 01, "Refusal numbers": a number names one refusal, so what a result of the code says settles the result.
use Rattle.std.specs.Prelude.{◌≡◌, refl, ℕ, ◌+◌, ◌<◌, ◌^◌, cond, eqb, Result, Ok, Err}
use Rattle.std.proofs.Common.{sym, ap, ◌∙◌, arith}
use denote.Enum.Declared.{tag_of}
use Rattle.quantities.specs.contracts.Refusal.{the_type}
use Rattle.rules.specs.Threads.{State}
use Rattle.rules.specs.Table.{Done, Refused, Answered}
use Rattle.rules.specs.Records.{Record}
use Rattle.rules.specs.Reading.{Reading, Read}
use Rattle.rules.specs.Input.{InputRead}
use Rattle.rules.specs.Refusals.{Refusal, number, answer_of, answered, said, read_from, input_of}
use Rattle.rules.specs.Refusals.{QOutsideItsRange, ThreadsOutsideTheirRange, NoSuchApplication, ShareOutsideItsRange, PeriodTooLong, LessThanATick, SharesAboveQ, NoSuchThread, NotItsTick, AfterAnArrival, TooManyJobs, BeforeTheClock, BeyondTheEnd, CutShort, UnknownKind, NotInItsPlace, RowTooShort}
use Rattle.quantities.specs.declared.InputRead as declared

-- the refusal of a number
abbrev named : ℕ → Refusal
named n =
    cond (eqb n 1) QOutsideItsRange
    (cond (eqb n 2) ThreadsOutsideTheirRange
    (cond (eqb n 3) NoSuchApplication
    (cond (eqb n 4) ShareOutsideItsRange
    (cond (eqb n 5) PeriodTooLong
    (cond (eqb n 6) LessThanATick
    (cond (eqb n 7) SharesAboveQ
    (cond (eqb n 8) NoSuchThread
    (cond (eqb n 9) NotItsTick
    (cond (eqb n 10) AfterAnArrival
    (cond (eqb n 11) TooManyJobs
    (cond (eqb n 12) BeforeTheClock
    (cond (eqb n 13) BeyondTheEnd
    (cond (eqb n 14) CutShort
    (cond (eqb n 15) UnknownKind
    (cond (eqb n 16) NotInItsPlace
    RowTooShort)))))))))))))))

named_number : (e : Refusal) → named (number e) ≡ e
named_number QOutsideItsRange = refl
named_number ThreadsOutsideTheirRange = refl
named_number NoSuchApplication = refl
named_number ShareOutsideItsRange = refl
named_number PeriodTooLong = refl
named_number LessThanATick = refl
named_number SharesAboveQ = refl
named_number NoSuchThread = refl
named_number NotItsTick = refl
named_number AfterAnArrival = refl
named_number TooManyJobs = refl
named_number BeforeTheClock = refl
named_number BeyondTheEnd = refl
named_number CutShort = refl
named_number UnknownKind = refl
named_number NotInItsPlace = refl
named_number RowTooShort = refl

pub number_one : (e f : Refusal) → number e ≡ number f → e ≡ f
number_one e f h = sym (named_number e) ∙ ap named h ∙ named_number f

pub answer_settles : (x y : Result Unit Refusal) → answer_of x ≡ answer_of y → x ≡ y
answer_settles (Ok u) (Ok v) h = refl
answer_settles (Ok u) (Err f) h = cc
answer_settles (Err e) (Ok v) h = cc
answer_settles (Err e) (Err f) h = ap Err (number_one e f (cc))

pub answered_settles : (s : State) (x y : Result State Refusal) → answered s x ≡ answered s y → x ≡ y
answered_settles s (Ok u) (Ok v) h = ap (λ (a : Answered). Ok a.state) h
answered_settles s (Ok u) (Err f) h = let a : Done ≡ Refused (number f) = ap (λ (a : Answered). a.answer) h in cc
answered_settles s (Err e) (Ok v) h = let a : Refused (number e) ≡ Done = ap (λ (a : Answered). a.answer) h in cc
answered_settles s (Err e) (Err f) h = let a : Refused (number e) ≡ Refused (number f) = ap (λ (a : Answered). a.answer) h in ap Err (number_one e f (cc))

pub said_settles : (x y : Result Record Refusal) → said x ≡ said y → x ≡ y
said_settles (Ok u) (Ok v) h = cc
said_settles (Ok u) (Err f) h = cc
said_settles (Err e) (Ok v) h = cc
said_settles (Err e) (Err f) h = ap Err (number_one e f (cc))

pub reading_settles : (r : Reading) (x y : Result Reading Refusal) → read_from r x ≡ read_from r y → x ≡ y
reading_settles r (Ok u) (Ok v) h = ap (λ (a : Read). Ok a.reading) h
reading_settles r (Ok u) (Err f) h = let a : Done ≡ Refused (number f) = ap (λ (a : Read). a.answer) h in cc
reading_settles r (Err e) (Ok v) h = let a : Refused (number e) ≡ Done = ap (λ (a : Read). a.answer) h in cc
reading_settles r (Err e) (Err f) h = let a : Refused (number e) ≡ Refused (number f) = ap (λ (a : Read). a.answer) h in ap Err (number_one e f (cc))

pub input_settles : (x y : declared.InputRead) → input_of x ≡ input_of y → x ≡ y
input_settles x y h = built (answer_settles x.answer y.answer (ap (λ (z : InputRead). z.answer) h)) (ap (λ (z : InputRead). z.at) h) (ap (λ (z : InputRead). z.reading) h)
  where
    built : x.answer ≡ y.answer → x.at ≡ y.at → x.reading ≡ y.reading → x ≡ y
    built a b c = rw (a, b, c)

-- ---- `refusal as u8`
pub number_as : (e : Refusal) → tag_of the_type e + 1 ≡ number e
number_as QOutsideItsRange = refl
number_as ThreadsOutsideTheirRange = refl
number_as NoSuchApplication = refl
number_as ShareOutsideItsRange = refl
number_as PeriodTooLong = refl
number_as LessThanATick = refl
number_as SharesAboveQ = refl
number_as NoSuchThread = refl
number_as NotItsTick = refl
number_as AfterAnArrival = refl
number_as TooManyJobs = refl
number_as BeforeTheClock = refl
number_as BeyondTheEnd = refl
number_as CutShort = refl
number_as UnknownKind = refl
number_as NotInItsPlace = refl
number_as RowTooShort = refl

-- a number is short
pub number_short : (e : Refusal) → number e < 2 ^ 8
number_short QOutsideItsRange = omega arith
number_short ThreadsOutsideTheirRange = omega arith
number_short NoSuchApplication = omega arith
number_short ShareOutsideItsRange = omega arith
number_short PeriodTooLong = omega arith
number_short LessThanATick = omega arith
number_short SharesAboveQ = omega arith
number_short NoSuchThread = omega arith
number_short NotItsTick = omega arith
number_short AfterAnArrival = omega arith
number_short TooManyJobs = omega arith
number_short BeforeTheClock = omega arith
number_short BeyondTheEnd = omega arith
number_short CutShort = omega arith
number_short UnknownKind = omega arith
number_short NotInItsPlace = omega arith
number_short RowTooShort = omega arith
