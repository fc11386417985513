-- A fraction e / u in two parts: m whole ones and a remainder of r parts, r below u, so that e is m × u + r. The order by whole part and
-- remainder is the order of the fractions, e1 × u2 against e2 × u1, and only remainders are multiplied, each with the other's u.
use Rattle.std.specs.Prelude.{◌≡◌, refl, Bool, true, false, ◌&&◌, ◌||◌, ℕ, zero, suc, ◌+◌, ◌*◌, ◌/◌, ◌%◌, ◌≤◌, ◌<◌, ltb, eqb}
use Rattle.std.proofs.Common.{ap, le_refl, mul-le-mul, div-add-mod', arith, ltb-true, ltb-false, lt-ltb, le-ltb, eqb-true}
use Rattle.std.proofs.Math.Nat.{add-mul-div_left, add-mul-mod_self_left}
use Rattle.std.proofs.lemmas.Bool.{eqb-false}

-- e again
abbrev pub joined : ℕ → ℕ → ℕ → ℕ
joined m r u = m * u + r

-- m whole ones and r parts of u are before n whole ones and s parts of v: fewer whole ones, or as many and the lesser remainder
abbrev pub before : ℕ → ℕ → ℕ → ℕ → ℕ → ℕ → Bool
before m r u n s v = ltb m n || (eqb m n && ltb (r * v) (s * u))

-- fewer whole ones make the lesser fraction, whatever the remainders
whole_less : (m r u n s v : ℕ) → r < u → s < v → m < n → joined m r u * v < joined n s v * u
whole_less m r u n s v h k l =
    let a = mul-le-mul l (le_refl (u * v)) in
    let b = mul-le-mul h (le_refl v) in
    omega arith

-- the order of the fractions is the order by whole part and remainder
module _ (m r u n s v : ℕ) (h : r < u) (k : s < v) where
  abbrev a : ℕ
  a = joined m r u * v

  abbrev b : ℕ
  b = joined n s v * u

  by_remainder : m ≡ n → (t : Bool) → ltb (r * v) (s * u) ≡ t → ltb a b ≡ t
  by_remainder q true e = let w = ap (λ k. k * (u * v)) q in let l = ltb-true (r * v) (s * u) e in lt-ltb a b (omega arith)
  by_remainder q false e = let w = ap (λ k. k * (u * v)) q in let l = ltb-false (r * v) (s * u) e in le-ltb a b (omega arith)

  by_more : n ≤ m → (m ≡ n → ⊥) → ltb a b ≡ false
  by_more l d = let w = whole_less n s v m r u k h (omega (arith, d)) in le-ltb a b (omega arith)

  by_same : n ≤ m → (t : Bool) → eqb m n ≡ t → ltb a b ≡ (t && ltb (r * v) (s * u))
  by_same l true q = by_remainder (eqb-true m n q) _ refl
  by_same l false q = by_more l (eqb-false m n q)

  by_whole : (t : Bool) → ltb m n ≡ t → ltb a b ≡ (t || (eqb m n && ltb (r * v) (s * u)))
  by_whole true e = lt-ltb a b (whole_less m r u n s v h k (ltb-true m n e))
  by_whole false e = by_same (ltb-false m n e) _ refl

  pub order : ltb (joined m r u * v) (joined n s v * u) ≡ before m r u n s v
  order = by_whole _ refl

-- ---- of a number e
pub apart : (e u : ℕ) → joined (e / u) (e % u) u ≡ e
apart e u = div-add-mod' e u

-- a remainder is below its u, so its product with the other's u is below the square of what bounds both
pub remainder_small : (r u v b : ℕ) → r < u → u ≤ b → v ≤ b → r * v < b * b
remainder_small r u v b h k l =
    let p = mul-le-mul {n₁ = r + 1} {m₁ = v} {n₂ = b} {m₂ = b} (omega arith) l in
    by v p l
  where
    by : (v : ℕ) → (r + 1) * v ≤ b * b → v ≤ b → r * v < b * b
    by zero p l = let q = mul-le-mul {n₁ = 1} {m₁ = 1} {n₂ = b} {m₂ = b} (omega arith) (omega arith) in omega arith
    by (suc v) p l = omega arith

-- u × p more is p whole ones more, and the same remainder
pub more_whole : (e u p : ℕ) → 0 < u → (e + u * p) / u ≡ e / u + p
more_whole e u p h = add-mul-div_left e p h

pub more_remainder : (e u p : ℕ) → (e + u * p) % u ≡ e % u
more_remainder e u p = add-mul-mod_self_left e u p
