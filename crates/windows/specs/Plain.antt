-- Records that change the jobs of one thread and nothing else: at the present moment, a drop, and an arrival of a contending
-- thread once the moment is closed. They can be read one after the other without looking at the rest of the state.
use Rattle.std.specs.Prelude.{◌≡◌, refl, Bool, true, false, cond, ◌&&◌, ℕ, ◌+◌, ◌≤◌, ◌<◌, eqb, ltb, set}
use Rattle.std.proofs.Common.{sym, ap, ◌∙◌, subst, arith, ne_eqb, lt-ltb, le-ltb, eqb-true, ltb-true}
use Rattle.std.proofs.Math.Decide.{dec_lt}
use Rattle.rules.specs.Limits.{nobody, max_jobs, clock_end}
use Rattle.rules.specs.Threads.{Thread, State, Phase, Inactive, Contending, NonContending, at, is_contending, contends, with_jobs, with_rows}
use Rattle.rules.specs.Table.{Done, first, done, no_schedule}
use Rattle.rules.specs.Leaving.{gone}
use Rattle.rules.specs.Arrival.{arrive, arrival}
use Rattle.rules.specs.Drop.{head_only, dropped}
use Rattle.rules.specs.Run.{state_after}
use Rattle.rules.specs.Records.{Moment, Record, Head, Row, Arrival, Completion, RunTo, Drop}
use Rattle.rules.specs.Reading.{Reading, at_events, moment_answer, thread_answer, before_ticks, ticks_to, ticks_due, event_read, read_as, with_state, record_read}
use Rattle.promises.specs.Cases.{true_false}
use Rattle.promises.specs.Sound.{given_sound}
use Rattle.windows.specs.Readings.{GoodReading}

-- the thread of an event at the present moment t, among n of them, or nobody
abbrev pub at_once : Moment → ℕ → ℕ → ℕ → ℕ
at_once m i t n = cond (eqb m.0 t) (cond (ltb i n) i nobody) nobody

abbrev pub touched : Record → ℕ → ℕ → ℕ
touched (Head q k) t n = nobody
touched (Row x) t n = nobody
touched (Arrival m i) t n = at_once m i t n
touched (Completion m i) t n = nobody
touched (RunTo m) t n = nobody
touched (Drop m i) t n = at_once m i t n

-- more jobs than a thread may have
abbrev too_many : ℕ
too_many = 65536

abbrev pub one_more : Thread → Bool → ℕ
one_more x closed = cond (contends x && closed) (x.jobs + 1) too_many

pub more_none : (x : Thread) (closed : Bool) → contends x ≡ false → too_many ≡ one_more x closed
more_none x closed e = rw e

pub more_open : (x : Thread) (closed : Bool) → contends x ≡ true → closed ≡ false → too_many ≡ one_more x closed
more_open x closed e f = sym (ap (λ (b : Bool). cond (b && closed) (x.jobs + 1) too_many) e ∙ ap (λ (b : Bool). cond b (x.jobs + 1) too_many) f)

pub more_closed : (x : Thread) (closed : Bool) → contends x ≡ true → closed ≡ true → x.jobs + 1 ≡ one_more x closed
more_closed x closed e f = sym (ap (λ (b : Bool). cond (b && closed) (x.jobs + 1) too_many) e ∙ ap (λ (b : Bool). cond b (x.jobs + 1) too_many) f)

-- how many jobs the thread x then has, or too many where the record would change more
abbrev pub jobs_after : Thread → Record → Bool → ℕ
jobs_after x (Head q k) closed = too_many
jobs_after x (Row y) closed = too_many
jobs_after x (Arrival m i) closed = one_more x closed
jobs_after x (Completion m i) closed = too_many
jobs_after x (RunTo m) closed = too_many
jobs_after x (Drop m i) closed = cond (ltb 1 x.jobs) 1 x.jobs

-- the state with that many jobs of the thread k
abbrev pub recounted : State → ℕ → ℕ → State
recounted s k n = with_rows s (set s.threads k (with_jobs (at s.threads k) n))

-- ---- what these say
once_facts : (m : Moment) (i t n k : ℕ) → at_once m i t n ≡ k → (k ≡ nobody → ⊥) → (m.0 ≡ t) × (i < n) × (k ≡ i)
once_facts m i t n k e some = go (eqb m.0 t) (ltb i n) refl refl e
  where
    go : (a b : Bool) → eqb m.0 t ≡ a → ltb i n ≡ b → cond a (cond b i nobody) nobody ≡ k → (m.0 ≡ t) × (i < n) × (k ≡ i)
    go true true p q h = (eqb-true _ _ p, ltb-true _ _ q, sym h)
    go true false p q h = absurd (some (sym h))
    go false b p q h = absurd (some (sym h))

arrival_facts : (runs closed : Bool) (n j : ℕ) → cond (runs && closed) (n + 1) too_many ≡ j → j ≤ max_jobs → (closed ≡ true) × (runs ≡ true) × (n + 1 ≡ j)
arrival_facts true true n j e h = (refl, refl, e)
arrival_facts true false n j e h = absurd (omega arith)
arrival_facts false closed n j e h = absurd (omega arith)

contends_is : (p : Phase) → is_contending p ≡ true → p ≡ Contending
contends_is Inactive e = absurd (true_false (sym e))
contends_is Contending e = refl
contends_is NonContending e = absurd (true_false (sym e))

-- a thread that contends has one job more
arrive_plain : (t : ℕ) (x : Thread) → x.phase ≡ Contending → arrive t x ≡ with_jobs x (x.jobs + 1)
unfolding arrive
arrive_plain t x e = rw e

arrival_plain : (s : State) (i : ℕ) → s.closed ≡ true → i < s.count → contends (at s.threads i) ≡ true → (at s.threads i).jobs < max_jobs
    → arrival s i ≡ done (recounted s i ((at s.threads i).jobs + 1))
unfolding arrival gone
arrival_plain s i c h p j =
    rw (lt-ltb _ _ h, lt-ltb _ _ j, c)
    (ap (λ (x : Thread). done (record { threads = set s.threads i x; count = s.count; had = s.had; q = s.q; clock = s.clock; completed = s.completed; closed = true })) (arrive_plain s.clock.0 (at s.threads i) (contends_is _ p)))

drop_plain : (s : State) (i : ℕ) → i < s.count → dropped s i ≡ done (recounted s i (cond (ltb 1 (at s.threads i).jobs) 1 (at s.threads i).jobs))
unfolding dropped head_only
drop_plain s i h = rw (lt-ltb _ _ h)

-- ---- reading one
module _ (r : Reading) (g : GoodReading r) where
  none_yet : r.state ≡ no_schedule → (i : ℕ) → i < r.state.count → ⊥
  none_yet e i h = let z = ap (λ (s : State). s.count) e in omega arith

  begun_events : (i : ℕ) → i < r.state.count → at_events r ≡ true
  begun_events i h = rw (ne_eqb r.table.threads 0 (λ e. none_yet (ap (λ (q : Reading). q.state) (g.bare e)) i h), le-ltb r.rows r.table.threads (not_below (dec_lt r.rows r.table.threads)))
    where
      not_below : Dec (r.rows < r.table.threads) → r.table.threads ≤ r.rows
      not_below (yes l) = absurd (none_yet (g.unbegun l) i h)
      not_below (no l) = omega (arith, l)

  module _ (m : Moment) (i : ℕ) (now : m.0 ≡ r.state.clock.0) (h : i < r.state.count) where
    before_plain : first (moment_answer r.state m) (thread_answer r.state i) ≡ Done
    before_plain = rw (le-ltb clock_end m.0 (let t = (given_sound g.given).time in omega arith), le-ltb m.0 r.state.clock.0 (omega arith), lt-ltb _ _ h)

    at_once_lem : ticks_to r.state m ≡ 0
    at_once_lem = omega arith

  abbrev Reads : Record → ℕ → ℕ → Type 0
  Reads e k j = (ticks_due r e ≡ 0) × (record_read r e ≡ read_as Done (with_state r (recounted r.state k j)) r)

  arrival_reads : (m : Moment) (i : ℕ) → m.0 ≡ r.state.clock.0 → i < r.state.count → r.state.closed ≡ true
      → contends (at r.state.threads i) ≡ true → (at r.state.threads i).jobs < max_jobs
      → Reads (Arrival m i) i ((at r.state.threads i).jobs + 1)
  unfolding ticks_due before_ticks record_read event_read state_after
  arrival_reads m i now h c p j = (
    rw (begun_events i h, before_plain m i now h) (at_once_lem m i now h),
    rw (begun_events i h, before_plain m i now h, at_once_lem m i now h, arrival_plain r.state i c h p j),
  )

  drop_reads : (m : Moment) (i : ℕ) → m.0 ≡ r.state.clock.0 → i < r.state.count
      → Reads (Drop m i) i (cond (ltb 1 (at r.state.threads i).jobs) 1 (at r.state.threads i).jobs)
  unfolding ticks_due before_ticks record_read event_read state_after
  drop_reads m i now h = (
    rw (begun_events i h, before_plain m i now h) (at_once_lem m i now h),
    rw (begun_events i h, before_plain m i now h, at_once_lem m i now h, drop_plain r.state i h),
  )

  pub plain_reads : (e : Record) (k j : ℕ) → touched e r.state.clock.0 r.state.count ≡ k → (k ≡ nobody → ⊥)
      → jobs_after (at r.state.threads k) e r.state.closed ≡ j → j ≤ max_jobs → Reads e k j
  plain_reads (Head q n) k j t some js few = absurd (some (sym t))
  plain_reads (Row x) k j t some js few = absurd (some (sym t))
  plain_reads (Arrival m i) k j t some js few =
      let f = once_facts m i r.state.clock.0 r.state.count k t some in
      let a = arrival_facts (contends (at r.state.threads k)) r.state.closed (at r.state.threads k).jobs j js few in
      subst (λ (n : ℕ). Reads (Arrival m i) k n) a.2
      (subst (λ (n : ℕ). Reads (Arrival m i) n ((at r.state.threads n).jobs + 1)) (sym f.2) (arrival_reads m i f.0 f.1 a.0 (subst (λ (n : ℕ). contends (at r.state.threads n) ≡ true) f.2 a.1) (subst (λ (n : ℕ). (at r.state.threads n).jobs < max_jobs) f.2 (omega (arith, a.2)))))
  plain_reads (Completion m i) k j t some js few = absurd (some (sym t))
  plain_reads (RunTo m) k j t some js few = absurd (some (sym t))
  plain_reads (Drop m i) k j t some js few =
      let f = once_facts m i r.state.clock.0 r.state.count k t some in
      subst (λ (n : ℕ). Reads (Drop m i) k n) js
      (subst (λ (n : ℕ). Reads (Drop m i) n (cond (ltb 1 (at r.state.threads n).jobs) 1 (at r.state.threads n).jobs)) (sym f.2) (drop_reads m i f.0 f.1))
