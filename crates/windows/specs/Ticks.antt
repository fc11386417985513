-- The listing of an input goes on from any tick: the ticks before a record may be listed a part at a time.
use Rattle.std.specs.Prelude.{◌≡◌, refl, Bool, true, false, cond, List, ◌++◌, ℕ, zero, suc, ◌+◌, ◌-◌, ◌≤◌, ◌<◌, ltb}
use Rattle.std.proofs.Common.{sym, ap, ◌∙◌, append-nil, append_assoc, suc-add, zero-add, arith, le-ltb, ltb-false}
use Rattle.rules.specs.Limits.{clock_end}
use Rattle.rules.specs.Threads.{State}
use Rattle.rules.specs.Table.{Answer, Done, Refused, first}
use Rattle.rules.specs.Step.{stepped}
use Rattle.rules.specs.Run.{state_after}
use Rattle.rules.specs.Records.{Moment, Record, Head, Row, Arrival, Completion, RunTo, Drop}
use Rattle.rules.specs.Reading.{Reading, Read, at_head, at_rows, at_events, in_place, moment_answer, thread_answer, before_ticks, ticks_to, ticks_before, due_as, ticks_due, at_its_moment, event_of, event_read, read_as, with_state, placed_read, record_read}
use Rattle.rules.specs.Listing.{Rest, tick_line, tick_lines, onward}
use Rattle.promises.specs.Unchanged.{step_same}
use Rattle.promises.specs.Begin.{peel, both_done}
use Rattle.promises.specs.Taken.{steps_clock}

-- the first tick of a run is taken first
pub steps_first : (k : ℕ) (s : State) → state_after (suc k) s ≡ state_after k (stepped s).state
unfolding state_after
steps_first zero s = refl
steps_first (suc k) s = ap (λ (z : State). (stepped z).state) (steps_first k s)

pub lines_first : (k : ℕ) (s : State) → tick_lines (suc k) s ≡ tick_line s ++ tick_lines k (stepped s).state
unfolding tick_lines state_after
lines_first zero s = sym (append-nil (tick_line s))
lines_first (suc k) s =
    ap (λ (t : List ℕ). t ++ tick_line (state_after (suc k) s)) (lines_first k s)
    ∙ ap (λ (z : State). (tick_line s ++ tick_lines k (stepped s).state) ++ tick_line z) (steps_first k s)
    ∙ append_assoc (tick_line s) (tick_lines k (stepped s).state) (tick_line (state_after k (stepped s).state))

-- ---- a record with a moment
moment_done : (s : State) (m : Moment) → moment_answer s m ≡ Done → (m.0 ≤ clock_end) × (s.clock.0 ≤ m.0)
moment_done s m h =
    let p = peel (ltb clock_end m.0) 13 _ h in
    let q = peel (ltb m.0 s.clock.0) 12 Done p.1 in
    (ltb-false _ _ p.0, ltb-false _ _ q.0)

moment_is : (s : State) (m : Moment) → m.0 ≤ clock_end → s.clock.0 ≤ m.0 → moment_answer s m ≡ Done
moment_is s m h k = rw (le-ltb _ _ h, le-ltb _ _ k)

-- e is an event at the moment m
record Timed (e : Record) (m : Moment) : Type 0 where
  ticks : (s : State) → ticks_before s e ≡ ticks_to s m
  in_time : (s : State) → before_ticks s e ≡ Done → moment_answer s m ≡ Done
  again : (s z : State) → z.count ≡ s.count → moment_answer z m ≡ Done → before_ticks s e ≡ Done → before_ticks z e ≡ Done
  place : (r : Reading) → in_place r e ≡ at_events r
  reads : (r : Reading) → placed_read r e ≡ event_read r e

-- .. of a thread
thread_again : (s z : State) (m : Moment) (i : ℕ) → z.count ≡ s.count → moment_answer z m ≡ Done → first (moment_answer s m) (thread_answer s i) ≡ Done
    → first (moment_answer z m) (thread_answer z i) ≡ Done
thread_again s z m i c h k = ap (λ a. first a (thread_answer z i)) h ∙ ap (λ (n : ℕ). cond (ltb i n) Done (Refused 8)) c ∙ (both_done (moment_answer s m) (thread_answer s i) k).1

arrival_timed : (m : Moment) (i : ℕ) → Timed (Arrival m i) m
unfolding before_ticks
arrival_timed m i = record { ticks = λ s. refl; in_time = λ s h. (both_done _ _ h).0; again = λ s z c h k. thread_again s z m i c h k; place = λ r. refl; reads = λ r. refl }

completion_timed : (m : Moment) (i : ℕ) → Timed (Completion m i) m
unfolding before_ticks
completion_timed m i = record { ticks = λ s. refl; in_time = λ s h. (both_done _ _ h).0; again = λ s z c h k. thread_again s z m i c h k; place = λ r. refl; reads = λ r. refl }

drop_timed : (m : Moment) (i : ℕ) → Timed (Drop m i) m
unfolding before_ticks
drop_timed m i = record { ticks = λ s. refl; in_time = λ s h. (both_done _ _ h).0; again = λ s z c h k. thread_again s z m i c h k; place = λ r. refl; reads = λ r. refl }

run_timed : (m : Moment) → Timed (RunTo m) m
unfolding before_ticks
run_timed m = record { ticks = λ s. refl; in_time = λ s h. h; again = λ s z c h k. h; place = λ r. refl; reads = λ r. refl }

-- what it says that ticks are due
due_facts : (b : Bool) (a : Answer) (n d : ℕ) → cond b (due_as a n) 0 ≡ suc d → (b ≡ true) × (a ≡ Done) × (n ≡ suc d)
due_facts true Done n d h = (refl, refl, h)
due_facts true (Refused k) n d h = absurd (omega arith)
due_facts false a n d h = absurd (omega arith)

-- a record for which ticks are due has a moment
timed : (e : Record) (r : Reading) (d : ℕ) → ticks_due r e ≡ suc d → (m : Moment) × Timed e m
unfolding ticks_due before_ticks
timed (Head q n) r d h = absurd (let f = due_facts (at_head r) Done 0 d h in omega arith)
timed (Row x) r d h = absurd (let f = due_facts (at_rows r) Done 0 d h in omega arith)
timed (Arrival m i) r d h = (m, arrival_timed m i)
timed (Completion m i) r d h = (m, completion_timed m i)
timed (RunTo m) r d h = (m, run_timed m)
timed (Drop m i) r d h = (m, drop_timed m i)

-- ---- one tick of those that are due
module _ (r : Reading) (e : Record) (d : ℕ) (due : ticks_due r e ≡ suc d) where
  -- the reading after the tick
  abbrev after_tick : Reading
  after_tick = with_state r (stepped r.state).state

  t : Timed e (timed e r d due).0
  t = (timed e r d due).1

  facts : (in_place r e ≡ true) × (before_ticks r.state e ≡ Done) × (ticks_before r.state e ≡ suc d)
  unfolding ticks_due
  facts = due_facts (in_place r e) (before_ticks r.state e) (ticks_before r.state e) d due

  pub due_events : at_events r ≡ true
  due_events = sym (t.place r) ∙ facts.0

  -- its moment
  abbrev its_moment : ℕ
  its_moment = (timed e r d due).0.0

  limits : (its_moment ≤ clock_end) × (r.state.clock.0 ≤ its_moment)
  limits = moment_done r.state (timed e r d due).0 (t.in_time r.state facts.1)

  ahead : its_moment - r.state.clock.0 ≡ suc d
  ahead = sym (t.ticks r.state) ∙ facts.2

  pub before_end : r.state.clock.0 < clock_end
  before_end = omega (arith, limits.0, limits.1, ahead)

  -- all of them come before the clock's end
  pub due_fits : r.state.clock.0 + suc d ≤ clock_end
  due_fits = omega (arith, limits.0, limits.1, ahead)

  clock : (stepped r.state).state.clock.0 ≡ r.state.clock.0 + 1
  unfolding state_after
  clock = steps_clock 1 r.state (omega (arith, before_end))

  z_before : before_ticks (stepped r.state).state e ≡ Done
  z_before = t.again r.state _ (step_same r.state).count (moment_is (stepped r.state).state (timed e r d due).0 limits.0 (omega (arith, clock, limits.1, ahead))) facts.1

  z_left : its_moment - (stepped r.state).state.clock.0 ≡ d
  z_left = omega (arith, clock, limits.1, ahead)

  z_ticks : ticks_before (stepped r.state).state e ≡ d
  z_ticks = t.ticks (stepped r.state).state ∙ z_left

  z_place : in_place after_tick e ≡ true
  z_place = t.place after_tick ∙ sym (t.place r) ∙ facts.0

  pub due_after : ticks_due after_tick e ≡ d
  unfolding ticks_due
  due_after = rw (z_place, z_before) z_ticks

  same_event : event_of (stepped r.state).state e ≡ event_of r.state e
  same_event =
      ap (λ (n : ℕ). at_its_moment (state_after n (stepped r.state).state) e) z_ticks
      ∙ ap (λ (x : State). at_its_moment x e) (sym (steps_first d r.state))
      ∙ ap (λ (n : ℕ). at_its_moment (state_after n r.state) e) (sym facts.2)

  -- the reading once it is applied
  abbrev applied : Reading
  applied = with_state r (event_of r.state e).state

  read_before : record_read r e ≡ read_as (event_of r.state e).answer applied r
  unfolding record_read event_read
  read_before = rw (facts.0, t.reads r, facts.1)

  read_after : record_read after_tick e ≡ read_as (event_of r.state e).answer applied after_tick
  unfolding record_read event_read
  read_after = rw (z_place, t.reads after_tick, z_before, same_event)

  -- the listing goes on alike
  pub onward_after : (rest : Rest) (b n : ℕ) (s : List ℕ)
      → onward (record_read after_tick e).answer rest (record_read after_tick e).reading b n s ≡ onward (record_read r e).answer rest (record_read r e).reading b n s
  onward_after rest b n s = rw (read_before, read_after) (go (event_of r.state e).answer)
    where
      on : Read → List ℕ
      on x = onward x.answer rest x.reading b n s

      go : (a : Answer) → on (read_as a applied after_tick) ≡ on (read_as a applied r)
      go Done = refl
      go (Refused k) = refl

-- ---- any number of those that are due
pub due_steps : (k d : ℕ) (r : Reading) (e : Record) → ticks_due r e ≡ k + d → ticks_due (with_state r (state_after k r.state)) e ≡ d
unfolding state_after
due_steps zero d r e due = due ∙ zero-add d
due_steps (suc k) d r e due =
    ap (λ (z : State). ticks_due (with_state r z) e) (steps_first k r.state)
    ∙ due_steps k d (with_state r (stepped r.state).state) e (due_after r e (k + d) (due ∙ suc-add k d))
