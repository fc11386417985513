-- What the step knows once it has chosen, and what a run knows at each of its ticks.
use Rattle.std.specs.Prelude.{◌≡◌, refl, Bool, true, false, cond, List, Option, None, ℕ, zero, suc, ◌+◌, ◌≤◌, ◌<◌, eqb, length, get_or}
use Rattle.std.proofs.Math.Path.{sym, ap}
use Rattle.std.proofs.Common.{◌∙◌, subst, arith, eq-eqb, ne_eqb, length-append}
use Rattle.lists.specs.MapTo.{map_to}
use Rattle.rules.specs.Limits.{nobody, clock_end, idle_entry}
use Rattle.rules.specs.Threads.{Thread, State, with_rows, contends, active_in, free, free_of, earliest}
use Rattle.rules.specs.Leaving.{gone}
use Rattle.rules.specs.Fitting.{fit_in, fitted}
use Rattle.rules.specs.Choice.{chosen, idled}
use Rattle.rules.specs.Charge.{beneficiary, charged, moved}
use Rattle.rules.specs.Step.{Outcome, Grant, Idle, Stepped, ready, taken, stepped}
use Rattle.rules.specs.Run.{entry_of, state_after, row_after}
use Rattle.promises.specs.Branches.{by_step}
use Rattle.promises.specs.Good.{Good}
use Rattle.promises.specs.Ready.{Steady, Ready, gone_beside, ready_beside, gone_good, fitted_steady, ready_ready, fitted_free, before_end, chosen_leads}
use Rattle.promises.specs.Sound.{Sound, sound}
use Rattle.promises.specs.Item3.{Earliest}
use Rattle.promises.specs.Tables.{Changed, leaves, gone_is, Table16, led, Lead, Leads}

-- the answer and the entry of a tick, by who had it
abbrev pub outcome_to : ℕ → Outcome
outcome_to b = cond (eqb b nobody) Idle (Grant b)

abbrev pub entry_to : ℕ → ℕ
entry_to b = cond (eqb b nobody) idle_entry b

pub entry_to_lem : (b : ℕ) → entry_of (outcome_to b) ≡ entry_to b
entry_to_lem b = go (eqb b nobody)
  where
    go : (c : Bool) → entry_of (cond c Idle (Grant b)) ≡ cond c idle_entry b
    go true = refl
    go false = refl

-- the whole answer by the state after the tick, in which who had it stands
abbrev pub By : State → Stepped
By z = record { outcome = outcome_to z.had; state = z }

taken_by : (z : State) (b : ℕ) → taken z b ≡ By (taken z b).state
unfolding moved
taken_by z b = go (eqb b nobody) refl
  where
    tick : Bool → Stepped
    tick c = cond c (record { outcome = Idle; state = moved (idled z) nobody }) (record { outcome = Grant b; state = moved (charged z b) b })

    go : (c : Bool) → eqb b nobody ≡ c → tick c ≡ By (tick c).state
    go true e = refl
    go false e = rw e

module _ (s : State) (early : s.clock.0 ≡ clock_end → ⊥) where
  pub step_is : stepped s ≡ taken (ready s) (chosen (ready s))
  unfolding stepped
  step_is = rw (ne_eqb _ _ early)

  pub step_by : stepped s ≡ By (stepped s).state
  step_by = subst (λ (r : Stepped). r ≡ By r.state) (sym step_is) (taken_by (ready s) (chosen (ready s)))

-- ---- once those that leave have left; f has the free shares
pub record Left (s l : State) (f : List ℕ) : Type 0 where
  pub good : Good s
  pub left : l ≡ gone s
  pub free : Table16 (λ a. free_of a l) f

module _ {s z : State} {f : List ℕ} (g : Good s) (i : ℕ) (all : i ≡ s.count) (e : Changed (leaves s) s i z) where
  pub left_all : Table16 (λ a. free a i (gone s).threads) f → Left s z f
  left_all t = record {
    good = g;
    left = is_gone;
    free = λ a h. t a h ∙ ap (λ k. free a k (gone s).threads) (all ∙ sym (gone_beside s).count) ∙ sym (ap (λ z. free_of a z) is_gone);
  }
    where
      is_gone : z ≡ gone s
      is_gone = e ∙ ap (λ k. with_rows s (map_to k (leaves s) s.threads)) all ∙ sym (gone_is s)

module _ {s l : State} {f : List ℕ} (c : Left s l f) where
  pub l_steady : Steady l
  l_steady = rw c.left (gone_good c.good).0

  pub l_sound : Sound l
  l_sound = sound l_steady

  pub l_count : l.count ≡ s.count
  l_count = ap (λ (z : State). z.count) c.left ∙ (gone_beside s).count

  pub l_q : l.q ≡ s.q
  l_q = ap (λ (z : State). z.q) c.left ∙ (gone_beside s).q

  -- every thread as it is once it fits
  pub fit_sound : Sound (fitted l)
  fit_sound = sound (fitted_steady l_steady)

-- ---- from the choice on
pub record Chose (s l z : State) (b : ℕ) : Type 0 where
  pub good : Good s
  pub early : s.clock.0 ≡ clock_end → ⊥
  pub left : l ≡ gone s
  pub fit : z ≡ fitted l
  pub best : b ≡ chosen z

-- best has the beneficiary of each application in the state z, and its deadline
abbrev pub Best : State → List (Option Earliest) → Type 0
Best z best = (a : ℕ) → a < 16 → get_or best a None ≡ led z.threads (beneficiary a z)

module _ (l : State) {z : State} (i : ℕ) (all : i ≡ l.count) (e : Changed (fit_in l) l i z) where
  pub is_fitted : z ≡ fitted l
  unfolding fitted
  is_fitted = e ∙ ap (λ k. with_rows l (map_to k (fit_in l) l.threads)) all

  -- the earliest of all that fit
  first_of_all : (p : Thread → Bool) (o : Option Earliest) → Lead p (fitted l).threads i o → o ≡ led z.threads (earliest p z.count z.threads)
  unfolding fitted
  first_of_all p o k = k
      ∙ ap (λ k. led (fitted l).threads (earliest p k (fitted l).threads)) all
      ∙ sym (ap (λ (z : State). led z.threads (earliest p z.count z.threads)) is_fitted)

  pub chosen_of_all : (o : Option Earliest) → Lead contends (fitted l).threads i o → o ≡ led z.threads (chosen z)
  chosen_of_all = first_of_all contends

  pub best_of_all : (r : List (Option Earliest)) → Leads (fitted l).threads i r → Best z r
  best_of_all r t a h = first_of_all (active_in a) (get_or r a None) (t.each a h)

pub chose : {s l z : State} {f : List ℕ} → Left s l f → (s.clock.0 ≡ clock_end → ⊥) → z ≡ fitted l → (b : ℕ) → b ≡ chosen z → Chose s l z b
chose c h e b k = record { good = c.good; early = h; left = c.left; fit = e; best = k }

module _ {s l z : State} {b : ℕ} (c : Chose s l z b) where
  z_ready : Ready z
  z_ready = rw (c.fit, c.left) (ready_ready c.good)

  pub z_steady : Steady z
  z_steady = z_ready.sound

  pub z_time : z.clock.0 < clock_end
  z_time = rw (c.fit, c.left) (before_end c.good c.early)

  pub z_free : (f : List ℕ) → Table16 (λ a. free_of a l) f → Table16 (λ a. free_of a z) f
  z_free f t a h = t a h ∙ sym (ap (λ z. free_of a z) c.fit ∙ fitted_free a l)

  pub b_in : (b ≡ nobody → ⊥) → b < z.count
  b_in f = rw c.best (chosen_leads z_ready (λ e. f (c.best ∙ e))).leads.inside

  pub is_idle : b ≡ nobody → (x : State) → x ≡ moved (idled z) nobody → x ≡ (stepped s).state
  is_idle e x h = rw (step_is s c.early, ← c.left, ← c.fit, ← c.best, eq-eqb _ _ e, h)

  pub is_grant : (b ≡ nobody → ⊥) → (x : State) → x ≡ moved (charged z b) b → x ≡ (stepped s).state
  is_grant f x h = rw (step_is s c.early, ← c.left, ← c.fit, ← c.best, ne_eqb _ _ f, h)

-- who had a tick is a thread or nobody
pub had_max : {s : State} → Good s → (s.clock.0 ≡ clock_end → ⊥) → (stepped s).state.had ≤ nobody
unfolding moved
had_max {s} g e =
    let y = ready_ready g in
    by_step s (λ (r : Stepped). r.state.had ≤ nobody) (λ t. absurd (e t)) (λ _ _. omega arith)
    (λ _ n. let k = y.sound.rows.few in omega (arith, (chosen_leads y n).leads.inside))

-- the entry of a tick is that of who had it
pub step_entry : (s : State) → (s.clock.0 ≡ clock_end → ⊥) → entry_of (stepped s).outcome ≡ entry_to (stepped s).state.had
step_entry s e = ap (λ (r : Stepped). entry_of r.outcome) (step_by s e) ∙ entry_to_lem (stepped s).state.had

-- ---- a run
pub row_length : (n : ℕ) (s : State) → length (row_after n s) ≡ n
unfolding row_after
row_length zero s = refl
row_length (suc n) s = let r = row_length n s in rw length-append (omega arith)

step_clock : (s : State) → (s.clock.0 ≡ clock_end → ⊥) → (stepped s).state.clock.0 ≡ s.clock.0 + 1
unfolding moved idled charged
step_clock s e =
    let k = ap (λ m. m.0 + 1) (ready_beside s).clock in
    by_step s (λ (r : Stepped). r.state.clock.0 ≡ s.clock.0 + 1) (λ t. absurd (e t)) (λ _ _. k) (λ _ _. k)

-- each tick of a run comes before the clock's end
pub steps_clock : (n : ℕ) (s : State) → s.clock.0 + n ≤ clock_end → (state_after n s).clock.0 ≡ s.clock.0 + n
unfolding state_after
steps_clock zero s h = omega arith
steps_clock (suc n) s h = let c = steps_clock n s (omega arith) in omega (arith, step_clock (state_after n s) (λ e. omega arith))

pub steps_early : (i n : ℕ) (s : State) → i < n → s.clock.0 + n ≤ clock_end → (state_after i s).clock.0 ≡ clock_end → ⊥
steps_early i n s h l e = omega (arith, steps_clock i s (omega arith))
