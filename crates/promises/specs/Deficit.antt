-- How far one thread is behind the clock, and how each step changes it.
use Rattle.std.specs.Prelude.{◌≡◌, not, ℕ, ◌+◌, ◌*◌, ◌-◌, ◌≤◌, T, ◌+ℤ◌, ◌-ℤ◌}
use Rattle.std.proofs.Math.Path.{refl}
use Rattle.std.proofs.Math.Bool.{cond}
use native.Mathlib.Omega.{arith}
use Rattle.std.proofs.Math.IntN.{pos}
use Rattle.integers.specs.Parts.{up, dn, add_parts, sub_parts, dn_clip}
use Rattle.rules.specs.Threads.{Thread, Phase, Inactive, Contending, NonContending, with_jobs, is_inactive, active, idle, loses}
use Rattle.rules.specs.Completion.{goes_on, stays, ends}
use Rattle.rules.specs.Leaving.{leave}
use Rattle.rules.specs.Arrival.{arrive_as, arrive}
use Rattle.rules.specs.Fitting.{fit}
use Rattle.rules.specs.Charge.{gains}
use Rattle.promises.specs.Cases.{test}
use Rattle.promises.specs.Branches.{by_leaving, by_fitting}
use Rattle.promises.specs.Shares.{idle_share}
use Rattle.promises.specs.Good.{deficit}

module _ (t : ℕ) (x : Thread) where
  -- u × t − W where that is above 0
  abbrev behind : ℕ
  behind = (x.share * t + dn x.w.0) - up x.w.0

  -- W is no further below 0 than that
  pub below : dn x.w.0 ≤ deficit t x
  unfolding deficit
  below = test (λ c. dn x.w.0 ≤ cond c (dn x.w.0) behind) (is_inactive x.phase)
      (λ _. omega arith)
      (λ _. dn_clip x.w.0 behind (omega arith))

  pub deficit_idle : deficit t (idle x) ≤ 0
  unfolding deficit
  deficit_idle = omega arith

  pub deficit_leave : deficit t (leave t x) ≤ deficit t x
  deficit_leave = by_leaving (λ (y : Thread). deficit t y ≤ deficit t x) t x (omega arith) (λ _ _. omega (arith, deficit_idle))

  pub deficit_fit : (room : ℕ) → deficit t (fit room x) ≤ deficit t x
  unfolding deficit
  deficit_fit room = by_fitting (λ (y : Thread). deficit t y ≤ deficit t x) room x (omega arith) (λ _ _. omega arith)

  pub deficit_loses : (r : ℕ) → deficit t (loses (pos r) x) ≤ deficit t x + r
  unfolding deficit
  deficit_loses r = let d = sub_parts x.w.0 (pos r) in test (λ c. cond c (dn (x.w.0 -ℤ pos r)) ((x.share * t + dn (x.w.0 -ℤ pos r)) - up (x.w.0 -ℤ pos r)) ≤ cond c (dn x.w.0) behind + r) (is_inactive x.phase)
      (λ _. omega arith) (λ _. omega arith)

  pub deficit_gains : (r : ℕ) → deficit t (gains r x) ≤ deficit t x
  unfolding deficit
  deficit_gains r = let d = add_parts x.w.0 (pos r) in test (λ c. cond c (dn (x.w.0 +ℤ pos r)) ((x.share * t + dn (x.w.0 +ℤ pos r)) - up (x.w.0 +ℤ pos r)) ≤ cond c (dn x.w.0) behind) (is_inactive x.phase)
      (λ _. dn_clip (x.w.0 +ℤ pos r) (dn x.w.0) (omega arith)) (λ _. omega arith)

  pub deficit_arrive : deficit t (arrive t x) ≤ deficit t x
  unfolding arrive deficit
  deficit_arrive = go x.phase
    where
      go : (p : Phase) → deficit t (with_jobs (arrive_as p t x) (x.jobs + 1)) ≤ cond (is_inactive p) (dn x.w.0) behind
      go Inactive = omega arith
      go Contending = omega arith
      go NonContending = omega arith

  pub deficit_jobs : (n : ℕ) → deficit t (with_jobs x n) ≡ deficit t x
  unfolding deficit
  deficit_jobs n = refl

  -- ---- an active thread's
  active_as : (p : Phase) → T (not (is_inactive p)) → cond (is_inactive p) (dn x.w.0) behind ≡ behind
  active_as Inactive k = absurd k
  active_as Contending k = refl
  active_as NonContending k = refl

  pub deficit_active : T (active x) → deficit t x ≡ behind
  unfolding deficit
  deficit_active a = active_as x.phase a

  pub deficit_goes : deficit t (goes_on x) ≤ deficit t x
  unfolding deficit
  deficit_goes = omega arith

  pub deficit_stays : T (active x) → deficit t (stays x) ≤ deficit t x
  unfolding deficit
  deficit_stays a = omega (arith, active_as x.phase a)

  pub deficit_ends : deficit t (ends x) ≡ 0
  unfolding deficit
  deficit_ends = refl

  -- ---- a tick puts an active thread one share behind
  unfoldable pub active_share : ℕ
  active_share = cond (is_inactive x.phase) 0 x.share

  pub deficit_later : deficit (t + 1) x ≤ deficit t x + active_share
  unfolding deficit active_share
  deficit_later = test (λ c. cond c (dn x.w.0) ((x.share * (t + 1) + dn x.w.0) - up x.w.0) ≤ cond c (dn x.w.0) behind + cond c 0 x.share) (is_inactive x.phase)
      (λ _. omega arith) (λ _. omega arith)

  pub two_shares : active_share + idle_share x ≤ x.share
  unfolding active_share idle_share
  two_shares = test (λ c. cond c 0 x.share + cond c x.share 0 ≤ x.share) (is_inactive x.phase) (λ _. omega arith) (λ _. omega arith)
