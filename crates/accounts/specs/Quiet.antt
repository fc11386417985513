-- Whether a thread is inactive once those that leave have left.
use Rattle.std.specs.Prelude.{◌≡◌, Bool, ◌&&◌, ℕ}
use Rattle.std.proofs.Math.Path.{refl}
use Rattle.std.proofs.Common.{ap, ◌∙◌}
use Rattle.std.proofs.Math.Bool.{true, false, not, cond}
use Rattle.std.specs.Int.Signed.{lt_z}
use Rattle.rules.specs.Threads.{Thread, scaled, is_inactive, is_non, idle}
use Rattle.rules.specs.Leaving.{leave}
use Rattle.rules.specs.History.{leaves}
use Rattle.promises.specs.Cases.{by_test}

-- is the thread inactive once those that leave have left?
abbrev quiet_as : Bool → ℕ → Thread → Bool
quiet_as closed now x = is_inactive (cond closed x (leave now x)).phase

module _ (closed : Bool) (now : ℕ) (x : Thread) where
  leave_phase : (leave now x).phase ≡ cond (leaves now x) (idle x).phase x.phase
  unfolding leave
  leave_phase = go (is_non x.phase) (lt_z (scaled x now) x.w.0)
    where
      go : (b c : Bool) → (cond b (cond c x (idle x)) x).phase ≡ cond (b && not c) (idle x).phase x.phase
      go true true = refl
      go true false = refl
      go false c = refl

  pub quiet_rests : is_inactive x.phase ≡ true → quiet_as closed now x ≡ true
  quiet_rests e = by_test (λ (y : Thread). is_inactive y.phase ≡ true) closed (λ _. e) (λ _. ap is_inactive leave_phase ∙ by_test (λ p. is_inactive p ≡ true) (leaves now x) (λ _. refl) (λ _. e))

  pub quiet_closed : is_inactive x.phase ≡ false → closed ≡ true → quiet_as closed now x ≡ false
  quiet_closed e c = rw (c, e)

  pub quiet_open : is_inactive x.phase ≡ false → closed ≡ false → quiet_as closed now x ≡ leaves now x
  quiet_open e c = rw c (ap is_inactive leave_phase ∙ go (leaves now x))
    where
      go : (b : Bool) → is_inactive (cond b (idle x).phase x.phase) ≡ b
      go true = refl
      go false = e
