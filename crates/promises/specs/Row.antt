-- Each step keeps what holds of one thread.
use Rattle.std.specs.Prelude.{◌≡◌, refl, not, cond, T, ltb, ℤ, pos, ◌+ℤ◌, ◌-ℤ◌}
use Prim.Native.Nat.{ℕ, ◌+◌, ◌*◌, ◌-◌, ◌≤◌, ◌<◌}
use native.Mathlib.Omega.{arith}
use Rattle.std.proofs.Common.{mul-le-mul_right, T_not}
use borrow.Author.Tests.{ltb-true}
use Rattle.std.specs.Int.Signed.{lt_z}
use Rattle.integers.specs.Parts.{up, dn, ◌≼◌, add_parts, sub_parts, plus_parts, up_clip, dn_clip, one_part, lt_z-true, lt_z-false}
use Rattle.rules.specs.Limits.{max_jobs}
use Rattle.rules.specs.Threads.{Thread, Phase, Inactive, Contending, NonContending, with, with_jobs, scaled, is_inactive, is_contending, is_non, contends, active, idle, loses}
use Rattle.rules.specs.Completion.{goes_on, stays, ends}
use Rattle.rules.specs.Leaving.{leave}
use Rattle.rules.specs.Arrival.{arrive_as, arrive}
use Rattle.rules.specs.Drop.{head_only}
use Rattle.rules.specs.Fitting.{fit, postpone}
use Rattle.rules.specs.Charge.{gains}
use Rattle.promises.specs.Cases.{test, by_test}
use Rattle.promises.specs.Good.{Shape, Fine, Ahead}

-- the tick that is to come fits: E − W is at least Q − r
abbrev pub Fits : ℕ → Thread → Type 0
Fits room x = T (contends x) → up x.w.0 + dn x.e.0 + room ≤ up x.e.0 + dn x.w.0

-- no phase is two
pub apart : (p : Phase) → T (is_non p) → T (is_contending p) → ⊥
apart Inactive n c = c
apart Contending n c = n
apart NonContending n c = c

module _ (q t : ℕ) (x : Thread) (f : Fine q t x) where
  -- the same row with another phase, W, E and number of jobs
  fine_as : (p : Phase) (w e : ℤ) (n : ℕ) → n ≤ max_jobs → Shape p n w e → w ≼ e → (T (is_contending p) → x.share * t ≤ up e) → dn e ≡ 0 → up w ≤ q * t
      → up e ≤ q * t + q + x.share * x.period → Fine q t (with_jobs (with x p w e) n)
  fine_as p w e n j s o d h k l = record {
    app_max = f.app_max;
    share_min = f.share_min;
    share_max = f.share_max;
    period_max = f.period_max;
    long = f.long;
    jobs_max = j;
    shape = s;
    ordered = o;
    due = d;
    e_whole = h;
    w_up = k;
    e_up = l;
  }

  -- W and E stay
  fine_phase : (p : Phase) (n : ℕ) → n ≤ max_jobs → Shape p n x.w.0 x.e.0 → (T (is_contending p) → T (contends x)) → Fine q t (with_jobs (with x p x.w.0 x.e.0) n)
  fine_phase p n j s c = fine_as p x.w.0 x.e.0 n j s f.ordered (λ k. f.due (c k)) f.e_whole f.w_up f.e_up

  -- ---- by phase
  jobless_as : (p : Phase) → Shape p x.jobs x.w.0 x.e.0 → (T (is_contending p) → ⊥) → x.jobs ≡ 0
  jobless_as Inactive s n = s.0
  jobless_as Contending s n = absurd (n tt)
  jobless_as NonContending s n = s

  -- a thread that does not contend has no job
  jobless : (T (contends x) → ⊥) → x.jobs ≡ 0
  jobless = jobless_as x.phase f.shape

  has_job_as : (p : Phase) → Shape p x.jobs x.w.0 x.e.0 → T (is_contending p) → 1 ≤ x.jobs
  has_job_as Inactive s c = absurd c
  has_job_as Contending s c = s
  has_job_as NonContending s c = absurd c

  -- .. and one that contends has one
  pub has_job : T (contends x) → 1 ≤ x.jobs
  has_job = has_job_as x.phase f.shape

  -- ---- leaving, and an idle tick
  pub fine_idle : (T (contends x) → ⊥) → Fine q t (idle x)
  fine_idle n = fine_as Inactive (pos 0) (pos 0) x.jobs f.jobs_max (jobless n, refl, refl) (omega arith) (λ c. absurd c) refl (omega arith) (omega arith)

  pub fine_leave : Fine q t (leave t x) × Ahead t (leave t x)
  unfolding leave
  fine_leave = test (λ c. P (cond c (cond (lt_z (scaled x t) x.w.0) x (idle x)) x)) (is_non x.phase)
      (λ n. by_test P (lt_z (scaled x t) x.w.0) (λ e. (f, λ _. let h = lt_z-true (scaled x t) x.w.0 e in omega arith)) (λ _. (fine_idle (apart x.phase n), λ c. absurd c)))
      (λ n. (f, λ c. absurd (T_not (is_non x.phase) n c)))
    where
      P : Thread → Type 0
      P y = Fine q t y × Ahead t y

  -- ---- arrivals
  pub fine_arrive : Ahead t x → x.jobs < max_jobs → Fine q t (arrive t x)
  unfolding arrive
  fine_arrive a j = go x.phase a f.due
    where
      up_P : ℕ
      up_P = x.share * x.period

      go : (p : Phase) → (T (is_non p) → x.share * t + dn x.w.0 < up x.w.0) → (T (is_contending p) → x.share * t ≤ up x.e.0)
          → Fine q t (with_jobs (arrive_as p t x) (x.jobs + 1))
      go Inactive a d = let k = mul-le-mul_right t f.share_max in
          fine_as Contending (scaled x t) (scaled x t +ℤ scaled x x.period) (x.jobs + 1) (omega arith) (omega arith) (omega arith) (λ _. omega arith) refl (omega arith) (omega arith)
      go Contending a d = fine_as Contending x.w.0 x.e.0 (x.jobs + 1) (omega arith) (omega arith) f.ordered d f.e_whole f.w_up f.e_up
      go NonContending a d =
          let s = plus_parts x.w.0 up_P in
          let h = a tt in
          let o = one_part x.w.0 (omega arith) in
          let z = dn_clip (x.w.0 +ℤ pos up_P) 0 (omega arith) in
          fine_as Contending x.w.0 (x.w.0 +ℤ pos up_P) (x.jobs + 1) (omega arith) (omega arith) (omega arith) (λ _. omega arith) (omega arith) f.w_up (omega (arith, f.w_up))

  -- ---- fitting
  pub fine_fit : (room : ℕ) → room ≤ q → Fine q t (fit room x) × Fits room (fit room x)
  unfolding fit
  fine_fit room l = test (λ c. P (cond c (cond (lt_z (x.e.0 -ℤ x.w.0) (pos room)) (postpone x) x) x)) (contends x)
      (λ c. by_test P (lt_z (x.e.0 -ℤ x.w.0) (pos room)) (λ e. later c (lt_z-true (x.e.0 -ℤ x.w.0) (pos room) e)) (λ e. (f, λ _. let k = lt_z-false (x.e.0 -ℤ x.w.0) (pos room) e in let d = sub_parts x.e.0 x.w.0 in omega arith)))
      (λ n. (f, λ c. absurd (T_not (contends x) n c)))
    where
      P : Thread → Type 0
      P y = Fine q t y × Fits room y

      up_P : ℕ
      up_P = x.share * x.period

      shape_as : (p : Phase) → T (is_contending p) → Shape p x.jobs x.w.0 x.e.0 → Shape p x.jobs x.w.0 (x.e.0 +ℤ pos up_P)
      shape_as Inactive c s = absurd c
      shape_as Contending c s = s
      shape_as NonContending c s = absurd c

      later : T (contends x) → up (x.e.0 -ℤ x.w.0) + 0 < room + dn (x.e.0 -ℤ x.w.0) → P (postpone x)
      later c k =
          let s = plus_parts x.e.0 up_P in
          let d = sub_parts x.e.0 x.w.0 in
          let w = f.e_whole in
          let z = dn_clip (x.e.0 +ℤ pos up_P) 0 (omega arith) in
          let o = f.ordered in
          let u = f.due c in
          let m = f.long in (
            fine_as x.phase x.w.0 (x.e.0 +ℤ pos up_P) x.jobs f.jobs_max (shape_as x.phase c f.shape) (omega arith) (λ _. omega arith) (omega arith) f.w_up (up_clip (x.e.0 +ℤ pos up_P) (q * t + q + up_P) (omega (arith, f.w_up))),
            λ _. omega arith,
          )

  -- ---- the charge
  -- from an active thread's W a number is taken
  pub fine_loses : (r : ℕ) → T (active x) → Fine q t (loses (pos r) x)
  fine_loses r a =
      let s = sub_parts x.w.0 (pos r) in
      let o = f.ordered in
      fine_as x.phase (x.w.0 -ℤ pos r) x.e.0 x.jobs f.jobs_max (shape_as x.phase a f.shape) (omega arith) f.due f.e_whole (omega (arith, f.w_up)) f.e_up
    where
      shape_as : (p : Phase) → T (not (is_inactive p)) → Shape p x.jobs x.w.0 x.e.0 → Shape p x.jobs (x.w.0 -ℤ pos r) x.e.0
      shape_as Inactive c s = absurd c
      shape_as Contending c s = s
      shape_as NonContending c s = s

  -- the clock has moved, and the deadline is still not past
  pub fine_later : (T (contends x) → x.share * (t + 1) ≤ up x.e.0) → Fine q (t + 1) x
  fine_later d = record {
    app_max = f.app_max;
    share_min = f.share_min;
    share_max = f.share_max;
    period_max = f.period_max;
    long = f.long;
    jobs_max = f.jobs_max;
    shape = f.shape;
    ordered = f.ordered;
    due = d;
    e_whole = f.e_whole;
    w_up = omega (arith, f.w_up);
    e_up = omega (arith, f.e_up);
  }

  -- the chosen thread's W grows
  pub fine_gains : (r : ℕ) → r ≤ q → T (contends x) → Fits r x → x.share * (t + 1) ≤ up x.e.0 → Fine q (t + 1) (gains r x)
  fine_gains r l c h d = record {
    app_max = f.app_max;
    share_min = f.share_min;
    share_max = f.share_max;
    period_max = f.period_max;
    long = f.long;
    jobs_max = f.jobs_max;
    shape = shape_as x.phase c f.shape;
    ordered = let s = plus_parts x.w.0 r in let g = h c in omega arith;
    due = λ _. d;
    e_whole = f.e_whole;
    w_up = let s = add_parts x.w.0 (pos r) in omega (arith, f.w_up);
    e_up = omega (arith, f.e_up);
  }
    where
      shape_as : (p : Phase) → T (is_contending p) → Shape p x.jobs x.w.0 x.e.0 → Shape p x.jobs (x.w.0 +ℤ pos r) x.e.0
      shape_as Inactive c s = absurd c
      shape_as Contending c s = s
      shape_as NonContending c s = absurd c

  -- ---- a completion
  pub fine_goes : T (contends x) → 1 < x.jobs → Fine q t (goes_on x)
  fine_goes c j = by_test (λ (e : ℤ). Fine q t (with_jobs (with x x.phase x.w.0 e) (x.jobs - 1))) (lt_z x.e.0 e')
      (λ e. let k = lt_z-true x.e.0 e' e in
      let s = add_parts x.w.0 (pos up_P) in
      let w = f.e_whole in
      let z = dn_clip e' 0 (omega arith) in
      let u = f.due c in
      fine_as x.phase x.w.0 e' (x.jobs - 1) less (shape_as x.phase c e') (omega arith) (λ _. omega arith) (omega arith) f.w_up (omega (arith, f.w_up)))
      (λ e. fine_as x.phase x.w.0 x.e.0 (x.jobs - 1) less (shape_as x.phase c x.e.0) f.ordered f.due f.e_whole f.w_up f.e_up)
    where
      up_P : ℕ
      up_P = x.share * x.period

      e' : ℤ
      e' = x.w.0 +ℤ pos up_P

      less : x.jobs - 1 ≤ max_jobs
      less = let m = f.jobs_max in omega arith

      shape_as : (p : Phase) → T (is_contending p) → (e : ℤ) → Shape p (x.jobs - 1) x.w.0 e
      shape_as Inactive c e = absurd c
      shape_as Contending c e = omega arith
      shape_as NonContending c e = absurd c

  pub fine_stays : Fine q t (stays x)
  fine_stays = fine_phase NonContending 0 (omega arith) refl (λ c. absurd c)

  pub fine_ends : Fine q t (ends x)
  fine_ends = fine_as Inactive (pos 0) (pos 0) 0 (omega arith) (refl, refl, refl) (omega arith) (λ c. absurd c) refl (omega arith) (omega arith)

  -- ---- a drop
  pub fine_head : Fine q t (head_only x)
  unfolding head_only
  fine_head = by_test (λ (n : ℕ). Fine q t (with_jobs x n)) (ltb 1 x.jobs) (λ e. let m = ltb-true 1 x.jobs e in fine_phase x.phase 1 (omega arith) (one x.phase f.shape m) (λ c. c)) (λ _. fine_phase x.phase x.jobs f.jobs_max f.shape (λ c. c))
    where
      one : (p : Phase) → Shape p x.jobs x.w.0 x.e.0 → 1 < x.jobs → Shape p 1 x.w.0 x.e.0
      one Inactive s m = absurd (no s.0)
        where
          no : x.jobs ≡ 0 → ⊥
          no e = omega arith
      one Contending s m = omega arith
      one NonContending s m = absurd (no s)
        where
          no : x.jobs ≡ 0 → ⊥
          no e = omega arith
