-- What holds between the parts of a step: after leaving, after fitting, and at the choice.
use Rattle.std.specs.Prelude.{◌≡◌, refl, ℕ, ◌-◌, ◌≤◌, ◌<◌, T, take}
use Rattle.std.proofs.Common.{sym, subst, arith}
use Rattle.lists.specs.Sum.{sum_map}
use Rattle.lists.specs.All.{All, all_at}
use Rattle.rules.specs.Limits.{max_q, nobody, clock_end}
use Rattle.rules.specs.Threads.{State, blank, at, contends, free_share, free_of}
use Rattle.rules.specs.Leaving.{gone}
use Rattle.rules.specs.Fitting.{fit_in, fitted, room_of}
use Rattle.rules.specs.Choice.{chosen}
use Rattle.rules.specs.Step.{ready}
use Rattle.promises.specs.Cases.{by_test}
use Rattle.promises.specs.Deadlines.{earliest_in, earliest_first}
use Rattle.promises.specs.Good.{Rows, Ahead, Good}
use Rattle.promises.specs.Row.{Fits}
use Rattle.promises.specs.Keep.{inside, fine_at, leave_rows, fit_rows, all_fit, fit_free}
use Rattle.promises.specs.Tick.{Chosen}

-- what holds of a state whatever happened at its moment
pub record Steady (s : State) : Type 0 where
  pub time : s.clock.0 ≤ clock_end
  pub q_max : s.q ≤ max_q
  pub rows : Rows s.count s.q s.clock.0 s.threads

pub steady : {s : State} → Good s → Steady s
steady g = record { time = g.time; q_max = g.q_max; rows = g.rows }

-- leaving and fitting leave the numbers beside the threads
pub record Beside (s z : State) : Type 0 where
  pub count : z.count ≡ s.count
  pub q : z.q ≡ s.q
  pub clock : z.clock ≡ s.clock

pub gone_beside : (s : State) → Beside s (gone s)
unfolding gone
gone_beside s = by_test (Beside s) s.closed (λ _. record { count = refl; q = refl; clock = refl }) (λ _. record { count = refl; q = refl; clock = refl })

pub ready_beside : (s : State) → Beside s (ready s)
unfolding fitted
ready_beside s = let b = gone_beside s in record { count = b.count; q = b.q; clock = b.clock }

-- once those that leave have left
pub gone_good : {s : State} → Good s → Steady (gone s) × All (Ahead (gone s).clock.0) (take (gone s).count (gone s).threads)
unfolding gone
gone_good {s} g =
    by_test (λ (z : State). Steady z × All (Ahead z.clock.0) (take z.count z.threads)) s.closed
    (λ c. (steady g, g.left c))
    (λ _. let l = leave_rows g.rows in (record { time = g.time; q_max = g.q_max; rows = l.0 }, l.1))

-- .. and once all contending threads fit
pub record Ready (z : State) : Type 0 where
  pub sound : Steady z
  pub fit : (c : ℕ) → c < z.count → Fits (room_of z (at z.threads c)) (at z.threads c)

-- fitting changes no free share
pub fitted_free : (a : ℕ) (s : State) → free_of a (fitted s) ≡ free_of a s
unfolding fitted
fitted_free a s = sum_map (free_share a) (fit_in s) (λ x. fit_free a (room_of s x) x) s.count s.count s.threads

pub fitted_steady : {s : State} → Steady s → Steady (fitted s)
unfolding fitted
fitted_steady {s} g = record { time = g.time; q_max = g.q_max; rows = fit_rows (λ a. free_of a s) g.rows }

fitted_fits : {s : State} → Steady s → (c : ℕ) → c < (fitted s).count → Fits ((fitted s).q - free_of (at (fitted s).threads c).app s) (at (fitted s).threads c)
unfolding fitted
fitted_fits {s} g c h = all_at s.count (fitted s).threads c blank (all_fit (λ a. free_of a s) g.rows) h (inside (fitted_steady g).rows h)

fitted_ready : {s : State} → Steady s → Ready (fitted s)
fitted_ready {s} g = record {
  sound = fitted_steady g;
  fit = λ c h. subst (λ (r : ℕ). Fits ((fitted s).q - r) (at (fitted s).threads c)) (sym (fitted_free (at (fitted s).threads c).app s)) (fitted_fits g c h);
}

pub ready_ready : {s : State} → Good s → Ready (ready s)
ready_ready g = fitted_ready (gone_good g).0

-- ---- the choice
-- who is chosen, if anybody is
pub chosen_leads : {z : State} → Ready z → (chosen z ≡ nobody → ⊥) → Chosen z (chosen z)
chosen_leads {z} y n =
    let r = y.sound.rows in
    let i = earliest_in contends z.count z.threads n in
    record {
      leads = record {
        inside = i.0;
        runs = i.1;
        first = λ j h k. (earliest_first contends z.threads z.count r.few (λ j h _. (fine_at r j h).share_min) j h k).1;
      };
      fits = y.fit (chosen z) i.0;
    }

-- where nobody is, none contends
pub none_contends : {z : State} → Ready z → chosen z ≡ nobody → (j : ℕ) → j < z.count → T (contends (at z.threads j)) → ⊥
none_contends {z} y e j h k = let r = y.sound.rows in (earliest_first contends z.threads z.count r.few (λ j h _. (fine_at r j h).share_min) j h k).0 e

-- a step that is not refused is taken before the clock's end
pub before_end : {s : State} → Good s → (s.clock.0 ≡ clock_end → ⊥) → (ready s).clock.0 < clock_end
before_end {s} g n = rw (ready_beside s).clock (let t = g.time in omega arith)
