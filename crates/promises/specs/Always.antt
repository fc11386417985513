-- Every given state is good, and a call on a given state gives a given state.
use Rattle.std.specs.Prelude.{◌≡◌, refl, false, List, [], ◌∷◌, ◌++◌, ℕ, zero, suc, ◌-◌, ◌≤◌, ◌<◌, ltb, set}
use Rattle.std.proofs.Common.{sym, ap, ◌∙◌, arith}
use Rattle.lists.specs.MapTo.{map_same}
use Rattle.lists.specs.Take.{all_upd, at_upd}
use Rattle.rules.specs.Limits.{nobody, max_jobs, clock_end}
use Rattle.rules.specs.Threads.{Thread, State, with_rows, blank, at}
use Rattle.rules.specs.Table.{Table, Answered, done, opening}
use Rattle.rules.specs.Completion.{completion, after_completion}
use Rattle.rules.specs.Leaving.{leave, gone}
use Rattle.rules.specs.Arrival.{arrival, arrived}
use Rattle.rules.specs.Drop.{head_only, dropped}
use Rattle.rules.specs.Choice.{chosen, idled}
use Rattle.rules.specs.Charge.{charged, moved}
use Rattle.rules.specs.Step.{Stepped, ready, stepped}
use Rattle.rules.specs.Run.{Ran, state_after, ran, passed}
use Rattle.rules.specs.Calls as calls
use Rattle.rules.specs.Calls.{Call, apply, after, Given}
use Rattle.promises.specs.Cases.{by_test, true_false}
use Rattle.promises.specs.Branches.{by_leaving, by_completion, by_arrival, by_drop, by_step, by_run}
use Rattle.promises.specs.Good.{Good}
use Rattle.promises.specs.Tick.{Alike, leads_alike, Chosen, charge_rows, charge_alike, idle_rows}
use Rattle.promises.specs.Events.{completing_rows, arrive_rows, arrive_left, drop_rows, head_alike, head_ahead}
use Rattle.promises.specs.Begin.{opening_good}
use Rattle.promises.specs.Ready.{Ready, gone_beside, gone_good, ready_ready, chosen_leads, none_contends, before_end}

-- ---- the step
idle_good : {z : State} → Ready z → z.clock.0 < clock_end → chosen z ≡ nobody → Good (moved (idled z) nobody)
unfolding moved idled
idle_good {z} y h e = let s = y.sound in record {
  time = omega arith;
  q_max = s.q_max;
  rows = idle_rows s.rows (none_contends y e);
  head_start = λ _ _ k. absurd (no s.rows.few k);
  left = λ c. absurd (true_false (sym c));
}
  where
    no : z.count ≤ 64 → 64 < z.count → ⊥
    no f k = omega arith

grant_good : {z : State} → Ready z → z.clock.0 < clock_end → (c : ℕ) → Chosen z c → Good (moved (charged z c) c)
unfolding moved charged
grant_good {z} y h c ch = let s = y.sound in record {
  time = omega arith;
  q_max = s.q_max;
  rows = charge_rows z c ch s.rows;
  head_start = λ _ _ _. leads_alike (charge_alike z c ch s.rows) ch.leads;
  left = λ c. absurd (true_false (sym c));
}

step_good : {s : State} → Good s → Good (stepped s).state
step_good {s} g =
    let y = ready_ready g in
    by_step s (λ (r : Stepped). Good r.state) (λ _. g)
    (λ t e. idle_good y (before_end g t) e)
    (λ t n. grant_good y (before_end g t) (chosen (ready s)) (chosen_leads y n))

pub steps_good : (n : ℕ) {s : State} → Good s → Good (state_after n s)
unfolding state_after
steps_good zero g = g
steps_good (suc n) g = step_good (steps_good n g)

run_good : {s : State} (to : ℕ) (row : List ℕ) → Good s → Good (ran s to row).result.state
run_good {s} to row g = by_run s (λ (r : Ran). Good r.result.state) to row (λ _. g) (steps_good (to - s.clock.0) g)

-- ---- the events
abbrev GoodA : Answered → Type 0
GoodA r = Good r.state

-- leaving changes no number of jobs
pub same_jobs : (s : State) (i : ℕ) → (at (gone s).threads i).jobs ≡ (at s.threads i).jobs
unfolding gone
same_jobs s i = by_test (λ (z : State). (at z.threads i).jobs ≡ (at s.threads i).jobs) s.closed (λ _. refl) (λ _. map_same (λ (x : Thread). x.jobs) (leave s.clock.0) one s.count s.threads i blank)
  where
    one : (x : Thread) → (leave s.clock.0 x).jobs ≡ x.jobs
    one x = by_leaving (λ (y : Thread). y.jobs ≡ x.jobs) s.clock.0 x refl (λ _ _. refl)

arrived_good : {s : State} (i : ℕ) → Good s → i < s.count → (at s.threads i).jobs < max_jobs → Good (arrived (gone s) i)
arrived_good {s} i g h j =
    let l = gone_good g in
    let k : i < (gone s).count = omega (arith, (gone_beside s).count) in
    record {
      time = l.0.time;
      q_max = l.0.q_max;
      rows = arrive_rows l.0.rows l.1 i k (omega (arith, same_jobs s i));
      head_start = λ c. absurd (true_false c);
      left = λ _. arrive_left l.0.rows l.1 i k;
    }

arrival_good : {s : State} (i : ℕ) → Good s → Good (arrival s i).state
arrival_good {s} i g = by_arrival s GoodA i (λ _. g) (arrived_good i g)

completed_good : {s : State} (i : ℕ) → Good s → i < s.count → s.closed ≡ false → s.completed ≡ false → i ≡ s.had → Good (after_completion s i)
unfolding after_completion
completed_good {s} i g h c d e = rw e (record {
  time = g.time;
  q_max = g.q_max;
  rows = completing_rows g.rows s.had (g.head_start c d (rw e at h));
  head_start = λ _ d. absurd (true_false d);
  left = λ e. absurd (true_false (sym e ∙ c));
})

completion_good : {s : State} (i : ℕ) → Good s → Good (completion s i).state
completion_good {s} i g = by_completion s GoodA i (λ _. g) (completed_good i g)

drop_good : {s : State} (i : ℕ) → Good s → Good (dropped s i).state
drop_good {s} i g = by_drop s GoodA i (λ _. g) into
  where
    alike : (j : ℕ) → Alike (at s.threads j) (at (set s.threads i (head_only (at s.threads i))) j)
    alike j = at_upd {P = Alike (at s.threads j)} head_only (head_alike (at s.threads j)) s.threads i j blank (record { share_same = refl; phase_same = refl; e_same = refl })

    into : i < s.count → GoodA (done (with_rows s (set s.threads i (head_only (at s.threads i)))))
    into h = record {
      time = g.time;
      q_max = g.q_max;
      rows = drop_rows g.rows i h;
      head_start = λ c d k. leads_alike alike (g.head_start c d k);
      left = λ c. all_upd head_only (head_ahead s.clock.0) s.count s.threads i blank (g.left c);
    }

-- ---- the calls
pub apply_good : (c : Call) {s : State} → Good s → Good (apply s c)
apply_good (calls.complete i) g = completion_good i g
apply_good (calls.arrive i) g = arrival_good i g
apply_good (calls.drop i) g = drop_good i g
apply_good calls.step g = step_good g
apply_good (calls.run to row) g = run_good to row g

pub after_good : (cs : List Call) {s : State} → Good s → Good (after s cs)
unfolding after
after_good [] g = g
after_good (c ∷ cs) g = after_good cs (apply_good c g)

-- every given state is good
pub given_good : {s : State} → Given s → Good s
given_good g = rw g.came (after_good g.calls (opening_good g.usual g.table))

-- ---- where a state comes from
pub given_opening : (usual : ℕ) (t : Table) → Given (opening usual t).state
unfolding after
given_opening usual t = record { usual = usual; table = t; calls = []; came = refl }

after_more : (cs : List Call) (s : State) (c : Call) → after s (cs ++ (c ∷ [])) ≡ apply (after s cs) c
unfolding after
after_more [] s c = refl
after_more (d ∷ cs) s c = after_more cs (apply s d) c

-- a call on a given state gives a given state
pub given_by : {s : State} → Given s → (c : Call) → Given (apply s c)
given_by g c = record {
  usual = g.usual;
  table = g.table;
  calls = g.calls ++ (c ∷ []);
  came = ap (λ s. apply s c) g.came ∙ sym (after_more g.calls (opening g.usual g.table).state c);
}

pub given_steps : (n : ℕ) {s : State} → Given s → Given (state_after n s)
unfolding state_after
given_steps zero g = g
given_steps (suc n) g = given_by (given_steps n g) calls.step

pub given_passed : {s : State} → Given s → (to : ℕ) → Given (passed s to).state
unfolding passed
given_passed {s} g to =
    by_test (λ (r : Answered). Given r.state) (ltb to s.clock.0) (λ _. g)
    (λ _. by_test (λ (r : Answered). Given r.state) (ltb clock_end to) (λ _. g) (λ _. given_steps _ g))

pub given_after : {s : State} → Given s → (cs : List Call) → Given (after s cs)
unfolding after
given_after g [] = g
given_after {s = s} g (c ∷ cs) = given_after {s = apply s c} (given_by g c) cs
