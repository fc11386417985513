-- An event that is read at its moment.
use Rattle.std.specs.Prelude.{◌≡◌, refl, Bool, true, false, cond, [], ℕ}
use Rattle.std.proofs.Math.Path.{sym}
use Rattle.std.proofs.Common.{ap, ◌∙◌, subst}
use Rattle.rules.specs.Threads.{State}
use Rattle.rules.specs.Table.{Answer, Done, Refused, first}
use Rattle.rules.specs.Run.{state_after}
use Rattle.rules.specs.Records.{Record, Head, Row, Arrival, Completion, RunTo, Drop}
use Rattle.rules.specs.Reading.{Reading, Read, at_events, in_place, read_as, before_ticks, ticks_before, ticks_due, at_its_moment, event_of, event_read, with_state, placed_read, record_read}
use Rattle.rules.specs.Report.{event_for}
use Rattle.promises.specs.Begin.{both_done}
use Rattle.promises.specs.Cases.{true_false}

-- a record by which something happens at its moment
abbrev pub is_event : Record → Bool
is_event (Head q n) = false
is_event (Row x) = false
is_event (Arrival m i) = true
is_event (Completion m i) = true
is_event (RunTo m) = false
is_event (Drop m i) = true

pub quiet_event : (e : Record) → is_event e ≡ false → (s : State) → event_for s e ≡ []
quiet_event (Head q n) f s = refl
quiet_event (Row x) f s = refl
quiet_event (Arrival m i) f s = absurd (true_false f)
quiet_event (Completion m i) f s = absurd (true_false f)
quiet_event (RunTo m) f s = refl
quiet_event (Drop m i) f s = absurd (true_false f)

-- it stands behind the rows, and is read as an event
record Timed (r : Reading) (e : Record) : Type 0 where
  place : in_place r e ≡ at_events r
  reads : placed_read r e ≡ event_read r e

timed : (r : Reading) (e : Record) → is_event e ≡ true → Timed r e
timed r (Head q n) f = absurd (true_false (sym f))
timed r (Row x) f = absurd (true_false (sym f))
timed r (Arrival m i) f = record { place = refl; reads = refl }
timed r (Completion m i) f = record { place = refl; reads = refl }
timed r (RunTo m) f = absurd (true_false (sym f))
timed r (Drop m i) f = record { place = refl; reads = refl }

read_answer : (a : Answer) (x y : Reading) → (read_as a x y).answer ≡ a
read_answer Done x y = refl
read_answer (Refused n) x y = refl

no_refusal : (n : ℕ) → Refused n ≡ Done → ⊥
no_refusal n e = subst IsRefused e tt
  where
    IsRefused : Answer → Type 0
    IsRefused Done = ⊥
    IsRefused (Refused m) = Unit {0}

placed : (b : Bool) (x : Read) (r : Reading) → (cond b x (read_as (Refused 16) r r)).answer ≡ Done → (b ≡ true) × (x.answer ≡ Done)
placed true x r h = (refl, h)
placed false x r h = absurd (no_refusal 16 h)

module _ (r : Reading) (e : Record) (is : is_event e ≡ true) (read : (record_read r e).answer ≡ Done) where
  facts : (in_place r e ≡ true) × ((placed_read r e).answer ≡ Done)
  unfolding record_read
  facts = placed (in_place r e) (placed_read r e) r read

  pub event_place : at_events r ≡ true
  event_place = sym (timed r e is).place ∙ facts.0

  answers : (before_ticks r.state e ≡ Done) × ((event_of r.state e).answer ≡ Done)
  unfolding event_read
  answers =
      both_done (before_ticks r.state e) (event_of r.state e).answer
      (sym (read_answer (first (before_ticks r.state e) (event_of r.state e).answer) (with_state r (event_of r.state e).state) r) ∙ sym (ap (λ (x : Read). x.answer) (timed r e is).reads) ∙ facts.1)

  module _ (due : ticks_due r e ≡ 0) where
    none_before : ticks_before r.state e ≡ 0
    unfolding ticks_due
    none_before = sym (rw (facts.0, answers.0)) ∙ due

    -- it is accepted in the state that is
    pub event_done : (at_its_moment r.state e).answer ≡ Done
    unfolding state_after
    event_done = sym (ap (λ (k : ℕ). (at_its_moment (state_after k r.state) e).answer) none_before) ∙ answers.1
