use Rattle.std.proofs.Common.{◌≡◌, refl, sym, ap, ◌∙◌, List, ℕ, None, Some, Result, Ok, Err}
use Rattle.std.specs.Result.{result_ok}
use Rattle.std.proofs.lemmas.Option.{none-some, same_Some}
use Rattle.rules.specs.Records.{Record, Frame, Ended, Cut, Whole, Known, frame_of, body_of, decoded}
use Rattle.rules.specs.Refusals.{Refusal, number, said}
use Rattle.windows.specs.Inputs.{whole_within}
use Rattle.listing.specs.Way.{seen_at, seen_known, seen_refused}
use Rattle.listing.proofs.sweep.look.Goals as goal

-- what is no whole record is not seen
not_whole : (s : List ℕ) (f : Frame) → f ≡ frame_of s → ((kind n : ℕ) → f ≡ Whole kind n → ⊥) → None ≡ seen_at s
unfolding seen_at
not_whole s Ended e o = rw (← e)
not_whole s Cut e o = rw (← e)
not_whole s (Whole kind n) e o = absurd (o kind n refl)

-- what a record's body says, by whether it is known
known_said : (x : Result Record Refusal) (e : Record) → result_ok x ≡ Some e → said x ≡ Known e
known_said (Ok y) e h = ap Known (same_Some _ _ h)
known_said (Err m) e h = absurd (none-some _ h)

unknown : (s : List ℕ) (kind n : ℕ) → frame_of s ≡ Whole kind n → (x : Result Record Refusal) → said x ≡ decoded kind (body_of s n) → result_ok x ≡ None → None ≡ seen_at s
unknown s kind n f (Ok y) d h = absurd (none-some _ (sym h))
unknown s kind n f (Err m) d h = seen_refused s kind n (number m) f (sym d)

pub returns-in_default-clause-value : goal.returns-in_default-clause-value
returns-in_default-clause-value c = not_whole _ _ c.frame.ensures.value c.in_default.not-Whole

pub slice_bounds-decode-count : goal.slice_bounds-decode-count
slice_bounds-decode-count c = (whole_within _ _ _ (sym c.in-Whole.ensures.value)).0

pub slice_bounds-decode-start : goal.slice_bounds-decode-start
slice_bounds-decode-start c = (whole_within _ _ _ (sym c.in-Whole.ensures.value)).0

pub slice_bounds-decode-end : goal.slice_bounds-decode-end
slice_bounds-decode-end c = (whole_within _ _ _ (sym c.in-Whole.ensures.value)).1

pub returns-in_err-e-clause-value : goal.returns-in_err-e-clause-value
returns-in_err-e-clause-value c = c.from_residual.ensures ∙ unknown _ _ _ (sym c.in-Whole.ensures.value) _ c.decode.ensures (sym c.ok.ensures.value ∙ c.in_err-e.was)

pub returns-clause-value : goal.returns-clause-value
returns-clause-value c = seen_known _ _ _ _ (sym c.in-Whole.ensures.value) (sym c.decode.ensures ∙ known_said _ _ (sym c.ok.ensures.value ∙ c.in_ok-e.was))
