-- Cases on a test, with what the test says.
use Rattle.std.specs.Prelude.{◌≡◌, refl, Bool, true, false, not, cond, ◌&&◌, ℕ, T, eqb}
use Rattle.std.proofs.Common.{sym, subst, T_not}
use Rattle.std.proofs.Math.Dec.{eqb_refl}

-- a test by its two values
pub test : (Q : Bool → Type 0) (b : Bool) → (T b → Q true) → (T (not b) → Q false) → Q b
test Q true f g = f tt
test Q false f g = g tt

-- a choice by a test
pub by_test : {A : Type 0} (P : A → Type 0) {x y : A} (b : Bool) → (b ≡ true → P x) → (b ≡ false → P y) → P (cond b x y)
by_test P true f g = f refl
by_test P false f g = g refl

pub true_T : {b : Bool} → b ≡ true → T b
true_T e = subst T (sym e) tt

pub T_true : (b : Bool) → T b → b ≡ true
T_true true h = refl
T_true false h = absurd h

pub not_T : (b : Bool) → (T b → ⊥) → b ≡ false
not_T true f = absurd (f tt)
not_T false f = refl

pub true_false : true ≡ false → ⊥
true_false e = subst T e tt

pub neqb→ne : (m n : ℕ) → T (not (eqb m n)) → m ≡ n → ⊥
neqb→ne m n f e = T_not (eqb m n) f (subst (λ (z : ℕ). T (eqb m z)) e (eqb_refl m))

pub both : (a b : Bool) → T (a && b) → T a × T b
both true b t = (tt, t)
both false b t = absurd t

pub both_true : (a b : Bool) → (a && b) ≡ true → (a ≡ true) × (b ≡ true)
both_true true b e = (refl, e)
both_true false b e = absurd (true_false (sym e))

pub and_false : (b : Bool) → (b && false) ≡ false
and_false true = refl
and_false false = refl
