-- Where no thread is active, only time passes: every tick is idle and changes no thread, up to the clock's end.
use Rattle.std.specs.Prelude.{◌≡◌, false, List, take}
use Rattle.std.proofs.Math.Path.{refl, ap}
use Rattle.std.proofs.Common.{sym, ◌∙◌, subst, arith}
use Prim.Native.Nat.{ℕ, zero, suc, ◌+◌, ◌-◌, ◌≤◌, ◌<◌}
use Rattle.lists.specs.All.{All, all_or, all_set, all_stay, all_same, all_made}
use Rattle.rules.specs.Limits.{max_threads, nobody, clock_end}
use Rattle.rules.specs.Threads.{Thread, State, with_rows, blank, at, idle, contends, earliest}
use Rattle.rules.specs.Table.{Row, Table, Answer, Done, Refused, row_at, opened, opened_to, start, opened_as, table_answer, opening}
use Rattle.rules.specs.Leaving.{leave, gone}
use Rattle.rules.specs.Fitting.{fit, fit_in, fitted, room_of}
use Rattle.rules.specs.Choice.{chosen, idled}
use Rattle.rules.specs.Charge.{moved}
use Rattle.rules.specs.Step.{Idle, Stepped, ready, taken, stepped}
use Rattle.rules.specs.Run.{state_after}
use Rattle.rules.specs.Records.{Moment}
use Rattle.rules.specs.Calls.{Given}
use Rattle.promises.specs.Cases.{by_test}
use Rattle.promises.specs.Always.{given_opening, given_steps}
use Rattle.promises.specs.Ready.{ready_beside}
use Rattle.promises.specs.Taken.{step_is}

-- x is inactive: "An inactive thread has W = 0 and E = 0"
abbrev AtRest : Thread → Type 0
AtRest x = idle x ≡ x

-- no thread of the table is active
abbrev pub NoneActive : State → Type 0
NoneActive s = All AtRest (take s.count s.threads)

-- s at the moment m after idle ticks: its threads as they were, nobody had the tick just ended, and the moment has no event yet
abbrev pub idle_to : ℕ → State → State
idle_to m s = record {
  threads = s.threads;
  count = s.count;
  had = nobody;
  q = s.q;
  clock = record { 0 = m };
  completed = false;
  closed = false;
}

-- s with another clock, and else as it is
abbrev pub with_clock : ℕ → State → State
with_clock m s = record {
  threads = s.threads;
  count = s.count;
  had = s.had;
  q = s.q;
  clock = record { 0 = m };
  completed = s.completed;
  closed = s.closed;
}

-- ---- one thread: no step of a tick changes it
rest_leave : (t : ℕ) (x : Thread) → AtRest x → leave t x ≡ x
unfolding leave
rest_leave t x e = subst (λ (y : Thread). leave t y ≡ y) e refl

rest_fit : (room : ℕ) (x : Thread) → AtRest x → fit room x ≡ x
unfolding fit
rest_fit room x e = subst (λ (y : Thread). fit room y ≡ y) e refl

rest_contends : (x : Thread) → AtRest x → contends x ≡ false
rest_contends x e = ap contends (sym e)

-- ---- one tick
module _ (s : State) (a : NoneActive s) where
  rest_gone : gone s ≡ s
  unfolding gone
  rest_gone = by_test (λ (z : State). z ≡ s) s.closed (λ _. refl) (λ _. ap (with_rows s) (all_stay s.count (leave s.clock.0) s.threads (rest_leave s.clock.0) a))

  rest_fitted : fitted s ≡ s
  unfolding fitted
  rest_fitted = ap (with_rows s) (all_stay s.count (fit_in s) s.threads (λ x e. rest_fit (room_of s x) x e) a)

  rest_ready : ready s ≡ s
  rest_ready = ap fitted rest_gone ∙ rest_fitted

  rest_idled : idled s ≡ s
  unfolding idled
  rest_idled = ap (with_rows s) (all_stay s.count idle s.threads (λ x e. e) a)

  none_contends : (n : ℕ) → n ≤ s.count → earliest contends n s.threads ≡ nobody
  unfolding earliest
  none_contends zero h = refl
  none_contends (suc i) h = rw (rest_contends (at s.threads i) (all_or {P = AtRest} s.count s.threads i blank refl a (omega arith))) (none_contends i (omega arith))

  -- the tick is idle
  rest_step : (s.clock.0 ≡ clock_end → ⊥) → stepped s ≡ record { outcome = Idle; state = idle_to (s.clock.0 + 1) s }
  unfolding moved
  rest_step early =
      step_is s early
      ∙ ap (λ (z : State). taken z (chosen z)) rest_ready
      ∙ ap (taken s) (none_contends s.count (omega arith))
      ∙ ap (λ (z : State). record { outcome = Idle; state = moved z nobody }) rest_idled

-- ---- any number of ticks
-- a tick that nobody has, and after which no thread is active
none_chosen : (s : State) → chosen (ready s) ≡ nobody → (s.clock.0 ≡ clock_end → ⊥) → stepped s ≡ record { outcome = Idle; state = idle_to (s.clock.0 + 1) (idled (ready s)) }
unfolding moved idled
none_chosen s e early =
    step_is s early ∙ ap (taken (ready s)) e
    ∙ ap (λ (m : Moment). record { outcome = Idle; state = idle_to (m.0 + 1) (idled (ready s)) }) (ready_beside s).clock

all_idled : (s : State) → NoneActive (idled s)
unfolding idled
all_idled s = all_made s.count idle s.threads (λ x. refl)

-- Where no thread contends at the choice, every tick from then on is idle, to the clock's end: all threads become inactive, and
-- then nothing changes but the clock.
idle_on : (n : ℕ) (s : State) → chosen (ready s) ≡ nobody → s.clock.0 + suc n ≤ clock_end → state_after (suc n) s ≡ idle_to (s.clock.0 + suc n) (idled (ready s))
unfolding state_after
idle_on zero s e h = ap (λ (r : Stepped). r.state) (none_chosen s e (λ f. omega arith))
idle_on (suc n) s e h =
    let k : (s.clock.0 + suc n) + 1 ≡ s.clock.0 + suc (suc n) = omega arith in
    ap (λ (z : State). (stepped z).state) (idle_on n s e (omega arith))
    ∙ ap (λ (r : Stepped). r.state) (rest_step (idle_to (s.clock.0 + suc n) (idled (ready s))) (all_idled (ready s)) (λ f. omega arith))
    ∙ ap (λ m. idle_to m (idled (ready s))) k

-- A schedule in which no thread is active stays the same through idle ticks, but for the clock.
pub rest_steps : (n : ℕ) (s : State) → NoneActive s → s.clock.0 + suc n ≤ clock_end → state_after (suc n) s ≡ idle_to (s.clock.0 + suc n) s
rest_steps n s a h =
    idle_on n s (ap chosen (rest_ready s a) ∙ none_contends s a s.count (omega arith)) h
    ∙ ap (idle_to (s.clock.0 + suc n)) (ap idled (rest_ready s a) ∙ rest_idled s a)

-- .. and is given at every later moment
given_idle : {s : State} → Given s → NoneActive s → (m : ℕ) → s.clock.0 < m → m ≤ clock_end → Given (idle_to m s)
given_idle {s} g a m h l =
    let n : s.clock.0 + suc (m - suc s.clock.0) ≡ m = omega arith in
    subst (λ k. Given (idle_to k s)) n (subst Given (rest_steps (m - suc s.clock.0) s a (omega arith)) (given_steps (suc (m - suc s.clock.0)) g))

-- ---- "All begin inactive."
opened_rest : (usual : ℕ) (rows : List Row) (n k : ℕ) → All AtRest (take n (opened_to usual rows k))
unfolding opened_to
opened_rest usual rows n zero = all_same n max_threads blank refl
opened_rest usual rows n (suc k) = all_set n (opened_to usual rows k) k (opened usual (row_at rows k)) (opened_rest usual rows n k) refl

-- what a table begins with, and what a refused one hands out
opening_rest : (usual : ℕ) (t : Table) → NoneActive (opening usual t).state
unfolding opening start
opening_rest usual t = go (table_answer usual t)
  where
    go : (a : Answer) → NoneActive (opened_as a (start usual t)).state
    go Done = opened_rest usual t.rows t.threads t.threads
    go (Refused n) = all_same 0 max_threads blank refl

-- .. and so it is given at every moment of the clock, where no event has come
pub given_late : (usual : ℕ) (t : Table) (m : ℕ) → m ≤ clock_end → Given (with_clock m (opening usual t).state)
unfolding opening start
given_late usual t zero h = go (table_answer usual t) (given_opening usual t)
  where
    go : (a : Answer) → Given (opened_as a (start usual t)).state → Given (with_clock 0 (opened_as a (start usual t)).state)
    go Done g = g
    go (Refused n) g = g
given_late usual t (suc m) h = go (table_answer usual t) (λ l. given_idle (given_opening usual t) (opening_rest usual t) (suc m) l h)
  where
    go : (a : Answer) → ((opened_as a (start usual t)).state.clock.0 < suc m → Given (idle_to (suc m) (opened_as a (start usual t)).state))
        → Given (with_clock (suc m) (opened_as a (start usual t)).state)
    go Done f = f (omega arith)
    go (Refused n) f = f (omega arith)
