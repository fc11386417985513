-- The lag bound on the threads: what a thread of an application claims, and what it is ahead, make up for its share of the time left.
use Rattle.std.specs.Prelude.{◌≡◌, refl, Bool, true, false, cond, ◌&&◌, not, List, ℕ, ◌+◌, ◌*◌, ◌≤◌, ◌<◌, T, eqb, ◌-ℤ◌, ◌*ℤ◌}
use Rattle.std.proofs.Common.{ap, mul-le-mul_left, eqb→eq}
use native.Mathlib.Omega.{arith}
use Rattle.std.proofs.Math.Dec.{nleb→lt}
use Rattle.std.proofs.Math.IntN.{ℤ, pos}
use Rattle.std.specs.Int.Signed.{lt_z, lt_z_yes}
use Rattle.integers.specs.Parts.{up, dn, ◌≼◌, sub_parts, dn_clip, mul_up, mul_dn, lt_z-false, le_parts}
use Rattle.lists.specs.Sum.{sum_by}
use Rattle.lists.specs.All.{All, none, more}
use Rattle.rules.specs.Threads.{Thread, Phase, Inactive, Contending, NonContending, is_inactive, is_contending, is_non, contends, active}
use Rattle.rules.specs.Stretches.{ahead_in}
use Rattle.promises.specs.Cases.{test, by_test, true_T, and_false}
use Rattle.promises.specs.Good.{early, rest, later, claim_as, claim, Ahead}
use Rattle.lag.specs.Lag.{Behind, DueBy}
use Rattle.stretches.specs.Shares.{own_share}

-- ---- by phase, share, W and E
module _ (t k e u : ℕ) (w z : ℤ) where
  -- W − u × t
  abbrev gap : ℤ
  gap = w -ℤ pos (u * t)

  gap_parts : k * up gap + k * dn w + k * (u * t) ≡ k * up w + k * dn gap
  gap_parts = let d = sub_parts w (pos (u * t)) in omega (arith, ap (λ (n : ℕ). k * n) d.eq)

  -- where it is not behind
  later_covers : u * t + dn w ≤ up w → e * u + k * dn gap ≤ later t k e u w + k * t * u + k * up gap
  later_covers h = omega (arith, gap_parts, mul-le-mul_left k h, ap (λ (n : ℕ). k * n) none_below)
    where
      none_below : dn w ≡ 0
      none_below = let c = dn_clip w 0 (omega arith) in omega arith

  rest_covers : e * u + k * dn gap ≤ rest k e u w + k * t * u + k * up gap
  rest_covers = omega (arith, gap_parts)

  abbrev Covers : Phase → Type 0
  Covers p = e * u + k * cond (is_inactive p) 0 (dn gap) ≤ claim_as p t k e u w z + k * t * u + k * cond (is_inactive p) 0 (up gap)

  -- a thread whose deadline is not early is not behind
  covers : (p : Phase) → (T (is_non p) → u * t + dn w < up w) → (T (is_contending p) → T (not (early k e u z)) → u * t + dn w ≤ up w) → Covers p
  covers Inactive a b = omega arith
  covers Contending a b =
      test (λ c. e * u + k * dn gap ≤ cond c (rest k e u w) (later t k e u w) + k * t * u + k * up gap) (early k e u z)
      (λ _. rest_covers) (λ n. later_covers (b tt n))
  covers NonContending a b = let h = a tt in later_covers (omega arith)

-- ---- the same of threads
module _ (a t k e : ℕ) where
  -- what one thread has to be, after leaving, for the bound: not behind, or due by e / k
  abbrev pub Counts : Thread → Type 0
  Counts x = Ahead t x × (x.app ≡ a → T (contends x) → Behind t x → DueBy k e x)

  -- a deadline that is not early is not due by e / k, so its thread is not behind
  not_behind : (x : Thread) → (Behind t x → DueBy k e x) → T (not (early k e x.share x.e.0)) → x.share * t + dn x.w.0 ≤ up x.w.0
  not_behind x h n = by_test {A = Unit {0}} (λ _. x.share * t + dn x.w.0 ≤ up x.w.0) {x = tt} {y = tt} (lt_z x.w.0 (pos (x.share * t)))
      (λ b. absurd (no (le_parts _ _ (h (lt_z_yes (true_T b)))) (nleb→lt _ _ n)))
      (λ b. let l = lt_z-false x.w.0 (pos (x.share * t)) b in omega arith)
    where
      no : (x.e.0 *ℤ pos k) ≼ pos (e * x.share) → e * x.share + dn x.e.0 * k < up x.e.0 * k → ⊥
      no l m = omega (arith, mul_up x.e.0 k, mul_dn x.e.0 k)

  own_covers : (x : Thread) → T (eqb x.app a) → Counts x
      → e * x.share + k * cond (is_inactive x.phase) 0 (dn (x.w.0 -ℤ pos (x.share * t))) ≤ claim t k e x + k * t * x.share + k * cond (is_inactive x.phase) 0 (up (x.w.0 -ℤ pos (x.share * t)))
  unfolding claim
  own_covers x o c = covers t k e x.share x.w.0 x.e.0 x.phase c.0 (λ r n. not_behind x (c.1 (eqb→eq x.app a o) r) n)

  -- each part of what a thread of a is ahead
  ahead_part : (f : ℤ → ℕ) → f (pos 0) ≡ 0 → (x : Thread) (b : Bool) → T b
      → f (cond (active x && b) (x.w.0 -ℤ pos (x.share * t)) (pos 0)) ≡ cond (is_inactive x.phase) 0 (f (x.w.0 -ℤ pos (x.share * t)))
  ahead_part f z x true h = go x.phase
    where
      d : ℤ
      d = x.w.0 -ℤ pos (x.share * t)

      go : (p : Phase) → f (cond (not (is_inactive p) && true) d (pos 0)) ≡ cond (is_inactive p) 0 (f d)
      go Inactive = z
      go Contending = refl
      go NonContending = refl
  ahead_part f z x false h = absurd h

  -- .. and of another thread
  ahead_none : (x : Thread) (b : Bool) → T (not b) → cond (active x && b) (x.w.0 -ℤ pos (x.share * t)) (pos 0) ≡ pos 0
  ahead_none x true h = absurd h
  ahead_none x false h = rw (and_false (active x)) refl

  -- a thread of a, or of another application, which claims at least nothing
  one_covers : (x : Thread) → Counts x → e * own_share a x + k * dn (ahead_in a t x) ≤ claim t k e x + k * t * own_share a x + k * up (ahead_in a t x)
  unfolding own_share
  one_covers x c = go (eqb x.app a) (λ o. own_covers x o c)
    where
      d : ℤ
      d = x.w.0 -ℤ pos (x.share * t)

      go : (b : Bool) → (T b → e * x.share + k * cond (is_inactive x.phase) 0 (dn d) ≤ claim t k e x + k * t * x.share + k * cond (is_inactive x.phase) 0 (up d))
          → e * cond b x.share 0 + k * dn (cond (active x && b) d (pos 0)) ≤ claim t k e x + k * t * cond b x.share 0 + k * up (cond (active x && b) d (pos 0))
      go true o = rw (ahead_part dn refl x true tt, ahead_part up refl x true tt) (o tt)
      go false o = rw (ahead_none x false tt) (omega arith)

  -- all threads
  pub all_cover : {xs : List Thread} → All Counts xs → e * sum_by (own_share a) xs + k * sum_by (λ x. dn (ahead_in a t x)) xs ≤ sum_by (claim t k e) xs + k * t * sum_by (own_share a) xs + k * sum_by (λ x. up (ahead_in a t x)) xs
  unfolding sum_by
  all_cover none = omega arith
  all_cover (more {x} c r) = omega (arith, one_covers x c, all_cover r)
