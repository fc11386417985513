-- What is refused leaves the state, or the reading, as it was.
use Rattle.std.proofs.Common.{◌≡◌, sym, subst}
use Rattle.std.specs.Prelude.{Result, Ok, Err}
use Rattle.std.specs.Result.{result_unwrap_or}
use Rattle.rules.specs.Threads.{State}
use Rattle.rules.specs.Table.{Answered}
use Rattle.rules.specs.Calls.{Given}
use Rattle.rules.specs.Reading.{Reading, Read}
use Rattle.rules.specs.Input.{GivenReading}
use Rattle.rules.specs.Refusals.{Refusal, answered, read_from}

pub stays : (s : State) (r : Result State Refusal) {a : Answered} → answered s r ≡ a → Given a.state → Given (result_unwrap_or r s)
stays s (Ok z) e g = subst (λ (a : Answered). Given a.state) (sym e) g
stays s (Err f) e g = subst (λ (a : Answered). Given a.state) (sym e) g

pub reading_stays : (r : Reading) (x : Result Reading Refusal) {a : Read} → read_from r x ≡ a → GivenReading a.reading → GivenReading (result_unwrap_or x r)
reading_stays r (Ok z) e g = subst (λ (a : Read). GivenReading a.reading) (sym e) g
reading_stays r (Err f) e g = subst (λ (a : Read). GivenReading a.reading) (sym e) g
