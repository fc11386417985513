-- A state and an answer as they stand outside, where a number stands in place of an enum.
use Rattle.std.specs.Prelude.{◌≡◌, refl, cond, List, [], ◌∷◌, map, ℕ, eqb}
use Rattle.std.proofs.Common.{sym, ap, ◌∙◌, subst}
use Rattle.rules.specs.Threads.{Phase, Inactive, Contending, NonContending, Thread, State, with, with_rows}
use Rattle.rules.specs.Table.{Answered, number_of}
use Rattle.rules.specs.Step.{Stepped, step_number}
use Rattle.rules.specs.Run.{entry_of}
use Rattle.rules.specs.Calls.{Given}
use Rattle.capi.specs.declared.OutThread.{OutThread}
use Rattle.capi.specs.declared.OutState.{OutState}
use Rattle.capi.specs.declared.OutAnswered.{OutAnswered}
use Rattle.capi.specs.declared.OutStepped.{OutStepped}

-- 0 inactive, 1 contending, 2 non-contending
abbrev pub phase_number : Phase → ℕ
phase_number Inactive = 0
phase_number Contending = 1
phase_number NonContending = 2

abbrev pub phase_of : ℕ → Phase
phase_of n = cond (eqb n 1) Contending (cond (eqb n 2) NonContending Inactive)

abbrev pub outside : Thread → OutThread
outside x = record { app = x.app; phase = phase_number x.phase; share = x.share; period = x.period; jobs = x.jobs; w = x.w; e = x.e }

abbrev pub inside : OutThread → Thread
inside x = record { app = x.app; phase = phase_of x.phase; share = x.share; period = x.period; jobs = x.jobs; w = x.w; e = x.e }

abbrev pub outside_state : State → OutState
outside_state s = record { threads = map outside s.threads; count = s.count; had = s.had; q = s.q; clock = s.clock; completed = s.completed; closed = s.closed }

abbrev pub inside_state : OutState → State
inside_state s = record { threads = map inside s.threads; count = s.count; had = s.had; q = s.q; clock = s.clock; completed = s.completed; closed = s.closed }

abbrev pub crossed : Answered → OutAnswered
crossed r = record { refusal = number_of r.answer; state = outside_state r.state }

-- the thread that has the tick stands beside the number, 65,535 where none has
abbrev pub crossed_step : Stepped → OutStepped
crossed_step r = record { refusal = step_number r.outcome; thread = entry_of r.outcome; state = outside_state r.state }

-- ---- a state that went out comes in as it was, so one call's state may be handed to the next
phase_back : (p : Phase) → phase_of (phase_number p) ≡ p
phase_back Inactive = refl
phase_back Contending = refl
phase_back NonContending = refl

thread_back : (x : Thread) → inside (outside x) ≡ x
thread_back x = ap (λ (p : Phase). with x p x.w.0 x.e.0) (phase_back x.phase)

threads_back : (xs : List Thread) → map inside (map outside xs) ≡ xs
threads_back [] = refl
threads_back (x ∷ xs) = ap (λ (y : Thread). y ∷ map inside (map outside xs)) (thread_back x) ∙ ap (λ (ys : List Thread). x ∷ ys) (threads_back xs)

pub state_back : (s : State) → inside_state (outside_state s) ≡ s
state_back s = ap (with_rows s) (threads_back s.threads)

pub given_back : {s : State} → Given s → Given (inside_state (outside_state s))
given_back {s} g = subst Given (sym (state_back s)) g
