-- The lines of the listing, in the parts in which they are put.
use Rattle.std.specs.Prelude.{◌≡◌, refl, true, false, not, ◌∷◌, ◌++◌, ℕ, ℤ, pos, negsuc, nat_abs}
use Rattle.std.proofs.Common.{append_assoc, arith}
use Rattle.std.specs.Int.Signed.{non_neg}
use Rattle.rules.specs.Listing.{bytes, line, decimal, signed, grant_line, idle_line, refusal_line, end_line}
use Rattle.text.specs.Put.{ended}

pub minus : (z : ℤ) → not (non_neg z) ≡ true → signed z ≡ 45 ∷ decimal (nat_abs z)
unfolding bytes
minus (pos n) h = absurd (let z : ◌≡◌ {A = ℕ} 0 1 = cc in omega arith)
minus (negsuc n) h = refl

pub plain : (z : ℤ) → not (non_neg z) ≡ false → signed z ≡ decimal (nat_abs z)
plain (pos n) h = refl
plain (negsuc n) h = absurd (let z : ◌≡◌ {A = ℕ} 0 1 = cc in omega arith)

pub grant_parts : (t j a : ℕ) (e w : ℤ) → grant_line t j a e w ≡ ended (decimal t) 32 ++ (ended (decimal j) 32 ++ (ended (decimal a) 32 ++ (ended (signed e) 32 ++ ended (signed w) 10)))
unfolding bytes line
grant_parts t j a e w = simp append_assoc

pub idle_parts : (t : ℕ) → idle_line t ≡ decimal t ++ bytes " - - - -\n"
unfolding bytes line
idle_parts t = refl

pub refusal_parts : (n b : ℕ) → refusal_line n b ≡ bytes "refused " ++ (decimal n ++ (bytes " at " ++ ended (decimal b) 10))
unfolding bytes line
refusal_parts n b = refl

pub end_parts : (t : ℕ) → end_line t ≡ bytes "end " ++ ended (decimal t) 10
unfolding bytes line
end_parts t = refl
