-- What one thread claims before a deadline n / k, and how each step changes it.
use Rattle.std.specs.Prelude.{◌≡◌, Bool, not, ◌&&◌, ℕ, ◌+◌, ◌*◌, ◌-◌, ◌≤◌, ◌<◌, eqb, ℤ, ◌+ℤ◌, ◌-ℤ◌}
use Rattle.std.proofs.Math.Path.{refl}
use Rattle.std.proofs.Common.{ap, mul-le-mul_right, mul-le-mul_left, leb→le}
use Rattle.std.proofs.Math.Bool.{true, false, cond}
use native.Mathlib.Omega.{arith}
use Rattle.std.proofs.Math.Dec.{T, nleb→lt}
use Rattle.std.proofs.Math.IntN.{pos}
use Rattle.integers.specs.Parts.{up, dn, ◌≼◌, plus_parts, minus_parts, up_minus, one_part, up_clip}
use Rattle.rules.specs.Threads.{Thread, Phase, Inactive, Contending, NonContending, with, with_jobs, is_inactive, is_contending, is_non, contends, free_share, loses}
use Rattle.rules.specs.Arrival.{arrive_as}
use Rattle.rules.specs.Charge.{gains}
use Rattle.promises.specs.Shares.{idle_share}
use Rattle.promises.specs.Good.{early, rest, later, claim_as, claim, Ahead}

-- a choice of two numbers by a test
either : (P : ℕ → Type 0) (b : Bool) (x y : ℕ) → (T b → P x) → (T (not b) → P y) → P (cond b x y)
either P true x y f g = f tt
either P false x y f g = g tt

-- .. on both sides of a statement
either₂ : (P : ℕ → ℕ → Type 0) (b c : Bool) (x y z v : ℕ) → (T b → T c → P x z) → (T b → T (not c) → P x v) → (T (not b) → T c → P y z)
    → (T (not b) → T (not c) → P y v) → P (cond b x y) (cond c z v)
either₂ P true true x y z v f g h i = f tt tt
either₂ P true false x y z v f g h i = g tt tt
either₂ P false true x y z v f g h i = h tt tt
either₂ P false false x y z v f g h i = i tt tt

-- ---- by phase, share, W and E
-- it does not contend with an early deadline
abbrev pub NotEarly : ℕ → ℕ → ℕ → Phase → ℤ → Type 0
NotEarly k n u Inactive e = Unit {0}
NotEarly k n u Contending e = n * u + dn e * k < up e * k
NotEarly k n u NonContending e = Unit {0}

module _ (t k n u : ℕ) where
  later_le : (w : ℤ) → k * t ≤ n → later t k n u w + k * (u * t) ≤ n * u
  later_le w h = omega (arith, mul-le-mul_right u h)

  -- such a claim is at most the share of the time until then
  claim_as_le : (p : Phase) (w e : ℤ) → k * t ≤ n → NotEarly k n u p e → claim_as p t k n u w e + k * (u * t) ≤ n * u
  claim_as_le Inactive w e h a = omega (arith, mul-le-mul_right u h)
  claim_as_le Contending w e h a =
      either (λ c. c + k * (u * t) ≤ n * u) (early k n u e) (rest k n u w) (later t k n u w)
      (λ b. omega (arith, leb→le)) (λ b. later_le w h)
  claim_as_le NonContending w e h a = later_le w h

  -- the chosen thread, whose tick fits
  gains_as : (w e : ℤ) (r : ℕ) → T (early k n u e) → up w + dn e + r ≤ up e + dn w → claim_as Contending t k n u (w +ℤ pos r) e + k * r ≤ claim_as Contending t k n u w e
  gains_as w e r b f =
      either₂ (λ x y. x + k * r ≤ y) (early k n u e) (early k n u e) _ _ _ _
      (λ _ _. omega (arith, leb→le, ap (λ (z : ℕ). k * z) (plus_parts w r), mul-le-mul_left k f))
      (λ _ c. omega (arith, leb→le, nleb→lt)) (λ c _. omega (arith, leb→le, nleb→lt)) (λ c _. omega (arith, leb→le, nleb→lt))

  later_loses : (w : ℤ) (r : ℕ) → later t k n u (w -ℤ pos r) ≤ later t k n u w + k * r
  later_loses w r = omega (arith, mul-le-mul_left k (up_minus w r))

  -- a thread from whose W r is taken
  loses_as : (p : Phase) (w e : ℤ) (r : ℕ) → claim_as p t k n u (w -ℤ pos r) e ≤ claim_as p t k n u w e + k * r
  loses_as Inactive w e r = omega arith
  loses_as Contending w e r =
      either₂ (λ x y. x ≤ y + k * r) (early k n u e) (early k n u e) _ _ _ _
      (λ _ _. omega (arith, ap (λ (z : ℕ). k * z) (minus_parts w r)))
      (λ b c. omega (arith, leb→le, nleb→lt)) (λ b c. omega (arith, leb→le, nleb→lt)) (λ _ _. later_loses w r)
  loses_as NonContending w e r = later_loses w r

  -- a later deadline of its own
  postponed_as : (w e e' : ℤ) → e ≼ e' → claim_as Contending t k n u w e' ≤ claim_as Contending t k n u w e
  postponed_as w e e' h =
      either₂ (λ x y. x ≤ y) (early k n u e') (early k n u e) _ _ _ _
      (λ _ _. omega arith)
      (λ b c. omega (arith, leb→le, nleb→lt, mul-le-mul_right k h)) (λ _ _. omega arith) (λ _ _. omega arith)

  -- the clock: no claim rises, and an inactive thread's falls by k times its share
  clock_as : (p : Phase) (w e : ℤ) → k * (t + 1) ≤ n → claim_as p (t + 1) k n u w e + k * cond (is_inactive p) u 0 ≤ claim_as p t k n u w e
  clock_as Inactive w e h = omega (arith, mul-le-mul_right u h)
  clock_as Contending w e h =
      either₂ (λ x y. x + k * 0 ≤ y) (early k n u e) (early k n u e) _ _ _ _
      (λ _ _. omega arith)
      (λ b c. omega (arith, leb→le, nleb→lt)) (λ b c. omega (arith, leb→le, nleb→lt)) (λ _ _. omega arith)
  clock_as NonContending w e h = omega arith

  -- arrivals and leaving leave the claim as it is
  from_inactive : (w e e' : ℤ) → claim_as Contending t k n u (pos (u * t)) e' ≤ claim_as Inactive t k n u w e
  from_inactive w e e' = either (λ c. c ≤ n * u - k * (u * t)) (early k n u e') _ _ (λ _. omega arith) (λ _. omega arith)

  from_non : (w e e' : ℤ) → u * t + dn w < up w → claim_as Contending t k n u w e' ≤ claim_as NonContending t k n u w e
  from_non w e e' h =
      either (λ c. c ≤ later t k n u w) (early k n u e') _ _
      (λ _. omega (arith, mul-le-mul_left k (le h), ap (λ (z : ℕ). k * z) (one_part w (omega arith)))) (λ _. omega arith)
    where
      le : u * t + dn w < up w → u * t ≤ up w
      le h = omega arith

  to_inactive : (w e w' e' : ℤ) → up w ≤ u * t + dn w → claim_as Inactive t k n u w' e' ≤ claim_as NonContending t k n u w e
  to_inactive w e w' e' h = omega (arith, mul-le-mul_left k (up_clip w (u * t) h))

  -- a completion to non-contending
  to_non : (w e e' : ℤ) → u * t + dn w < up w → claim_as NonContending t k n u w e' ≤ claim_as Contending t k n u w e
  to_non w e e' h = either (λ c. later t k n u w ≤ c) (early k n u e) _ _ (λ _. omega arith) (λ _. omega arith)

  -- a completion that frees a, of a thread with an early deadline
  freed_as : (w e w' e' : ℤ) (a : ℕ) → T (early k n u e) → k * t ≤ n → up w + a ≡ u * t + dn w → claim_as Inactive t k n u w' e' + k * a ≤ claim_as Contending t k n u w e
  freed_as w e w' e' a b h s =
      either (λ c. n * u - k * (u * t) + k * a ≤ c) (early k n u e) _ _
      (λ _. omega (arith, ap (λ (z : ℕ). k * z) s, mul-le-mul_right u h)) (λ c. omega (arith, leb→le, nleb→lt))

-- ---- the same of threads
module _ (t k n : ℕ) (x : Thread) where
  pub claim_le : k * t ≤ n → NotEarly k n x.share x.phase x.e.0 → claim t k n x + k * (x.share * t) ≤ n * x.share
  unfolding claim
  claim_le h a = claim_as_le t k n x.share x.phase x.w.0 x.e.0 h a

  pub claim_loses : (r : ℕ) → claim t k n (loses (pos r) x) ≤ claim t k n x + k * r
  unfolding claim
  claim_loses r = loses_as t k n x.share x.phase x.w.0 x.e.0 r

  pub claim_clock : k * (t + 1) ≤ n → claim (t + 1) k n x + k * idle_share x ≤ claim t k n x
  unfolding claim idle_share
  claim_clock h = clock_as t k n x.share x.phase x.w.0 x.e.0 h

  pub claim_gains : (r : ℕ) → T (contends x) → T (early k n x.share x.e.0) → up x.w.0 + dn x.e.0 + r ≤ up x.e.0 + dn x.w.0
      → claim t k n (gains r x) + k * r ≤ claim t k n x
  unfolding claim
  claim_gains r c b f = go x.phase c
    where
      go : (p : Phase) → T (is_contending p) → claim_as p t k n x.share (x.w.0 +ℤ pos r) x.e.0 + k * r ≤ claim_as p t k n x.share x.w.0 x.e.0
      go Inactive c = absurd c
      go Contending c = gains_as t k n x.share x.w.0 x.e.0 r b f
      go NonContending c = absurd c

  pub claim_postponed : (e' : ℤ) → T (contends x) → x.e.0 ≼ e' → claim t k n (with x x.phase x.w.0 e') ≤ claim t k n x
  unfolding claim
  claim_postponed e' c h = go x.phase c
    where
      go : (p : Phase) → T (is_contending p) → claim_as p t k n x.share x.w.0 e' ≤ claim_as p t k n x.share x.w.0 x.e.0
      go Inactive c = absurd c
      go Contending c = postponed_as t k n x.share x.w.0 x.e.0 e' h
      go NonContending c = absurd c

  pub claim_leaves : (w e : ℤ) → T (is_non x.phase) → up x.w.0 ≤ x.share * t + dn x.w.0 → claim t k n (with x Inactive w e) ≤ claim t k n x
  unfolding claim
  claim_leaves w e c h = go x.phase c
    where
      go : (p : Phase) → T (is_non p) → claim_as Inactive t k n x.share w e ≤ claim_as p t k n x.share x.w.0 x.e.0
      go Inactive c = absurd c
      go Contending c = absurd c
      go NonContending c = to_inactive t k n x.share x.w.0 x.e.0 w e h

  pub claim_stays : (e : ℤ) → T (contends x) → x.share * t + dn x.w.0 < up x.w.0 → claim t k n (with x NonContending x.w.0 e) ≤ claim t k n x
  unfolding claim
  claim_stays e c h = go x.phase c
    where
      go : (p : Phase) → T (is_contending p) → claim_as NonContending t k n x.share x.w.0 e ≤ claim_as p t k n x.share x.w.0 x.e.0
      go Inactive c = absurd c
      go Contending c = to_non t k n x.share x.w.0 x.e.0 e h
      go NonContending c = absurd c

  pub claim_freed : (w e : ℤ) (a : ℕ) → T (contends x) → T (early k n x.share x.e.0) → k * t ≤ n
      → up x.w.0 + a ≡ x.share * t + dn x.w.0 → claim t k n (with x Inactive w e) + k * a ≤ claim t k n x
  unfolding claim
  claim_freed w e a c b h s = go x.phase c
    where
      go : (p : Phase) → T (is_contending p) → claim_as Inactive t k n x.share w e + k * a ≤ claim_as p t k n x.share x.w.0 x.e.0
      go Inactive c = absurd c
      go Contending c = freed_as t k n x.share x.w.0 x.e.0 w e a b h s
      go NonContending c = absurd c

  pub claim_arrives : Ahead t x → claim t k n (arrive_as x.phase t x) ≤ claim t k n x
  unfolding claim
  claim_arrives f = go x.phase f
    where
      go : (p : Phase) → (T (is_non p) → x.share * t + dn x.w.0 < up x.w.0) → claim t k n (arrive_as p t x) ≤ claim_as p t k n x.share x.w.0 x.e.0
      go Inactive f = from_inactive t k n x.share x.w.0 x.e.0 (pos (x.share * t) +ℤ pos (x.share * x.period))
      go Contending f = omega arith
      go NonContending f = from_non t k n x.share x.w.0 x.e.0 (x.w.0 +ℤ pos (x.share * x.period)) (f tt)

  -- the number of jobs is no part of a claim
  pub claim_jobs : (m : ℕ) → claim t k n (with_jobs x m) ≡ claim t k n x
  unfolding claim
  claim_jobs m = refl

  -- ---- from below: an inactive thread claims its whole share
  pub free_claim : (a : ℕ) → n * free_share a x ≤ claim t k n x + k * t * free_share a x
  unfolding claim free_share
  free_claim a = go x.phase (eqb x.app a)
    where
      go : (p : Phase) (c : Bool) → n * cond (is_inactive p && c) x.share 0 ≤ claim_as p t k n x.share x.w.0 x.e.0 + k * t * cond (is_inactive p && c) x.share 0
      go Inactive true = omega arith
      go Inactive false = omega arith
      go Contending c = omega arith
      go NonContending c = omega arith

-- .. and a contending one, at its own deadline, at least the tick that fits
pub own_claim : (t n r : ℕ) (x : Thread) → T (contends x) → up x.e.0 ≡ n → dn x.e.0 ≡ 0
    → up x.w.0 + dn x.e.0 + r ≤ up x.e.0 + dn x.w.0 → x.share * r ≤ claim t x.share n x
unfolding claim
own_claim t n r x c p z f = go x.phase c
  where
    go : (p : Phase) → T (is_contending p) → x.share * r ≤ claim_as p t x.share n x.share x.w.0 x.e.0
    go Inactive c = absurd c
    go NonContending c = absurd c
    go Contending c =
        either (λ y. x.share * r ≤ y) (early x.share n x.share x.e.0) _ _
        (λ b. omega (arith, mul-le-mul_left x.share f, ap (λ (z : ℕ). x.share * z) p, ap (λ (z : ℕ). x.share * z) z))
        (λ b. absurd (no (nleb→lt _ _ b)))
      where
        no : n * x.share + dn x.e.0 * x.share < up x.e.0 * x.share → ⊥
        no h = omega (arith, ap (λ (z : ℕ). x.share * z) p)
