-- How long the texts are: at most 64 bytes.
use Rattle.std.specs.Prelude.{◌≡◌, refl, List, [], ◌∷◌, ℕ, suc, ◌+◌, ◌^◌, ◌<◌, ◌≤◌, ℤ, pos, negsuc, length}
use Rattle.std.proofs.Common.{ap, ◌∙◌, arith, length-append, SFits}
use Rattle.std.specs.Int.{w64}
use Rattle.rules.specs.Listing.{bytes, decimal, signed, heading, grant_line, idle_line, refusal_line, end_line}
use Rattle.text.specs.Put.{ended, longest}
use Rattle.text.specs.Digits.{decimal_most}
use Rattle.text.specs.Lines.{grant_parts, idle_parts, refusal_parts, end_parts}

pub decimal_8 : (n : ℕ) → n < 2 ^ 8 → length (decimal n) ≤ 3
decimal_8 n h = decimal_most 2 n (omega arith)

pub decimal_16 : (n : ℕ) → n < 2 ^ 16 → length (decimal n) ≤ 5
decimal_16 n h = decimal_most 4 n (omega arith)

pub decimal_32 : (n : ℕ) → n < 2 ^ 32 → length (decimal n) ≤ 10
decimal_32 n h = decimal_most 9 n (omega arith)

pub decimal_64 : (n : ℕ) → n < 2 ^ 64 → length (decimal n) ≤ 20
decimal_64 n h = decimal_most 19 n (omega arith)

pub signed_64 : (z : ℤ) → SFits w64 z → length (signed z) ≤ 20
unfolding bytes
signed_64 (pos n) f = omega (arith, decimal_most 18 n (omega (arith, f.sfits)))
signed_64 (negsuc n) f = omega (arith, decimal_most 18 (suc n) (omega (arith, f.sfits)))

pub ended_length : (t : List ℕ) (b : ℕ) → length (ended t b) ≡ length t + 1
ended_length t b = length-append t (b ∷ [])

-- ---- the lengths, by those of their numbers
pub heading_length : length heading ≡ 33
unfolding bytes heading
heading_length = refl

pub grant_length : (t j a : ℕ) (e w : ℤ) → length (grant_line t j a e w) ≡ length (ended (decimal t) 32) + (length (ended (decimal j) 32) + (length (ended (decimal a) 32) + (length (ended (signed e) 32) + length (ended (signed w) 10))))
grant_length t j a e w = ap length (grant_parts t j a e w) ∙ simp length-append

pub idle_length : (t : ℕ) → length (idle_line t) ≡ length (decimal t) + 9
unfolding bytes
idle_length t = ap length (idle_parts t) ∙ simp length-append

pub refusal_length : (n b : ℕ) → length (refusal_line n b) ≡ length (decimal n) + (length (decimal b) + 13)
unfolding bytes
refusal_length n b = ap length (refusal_parts n b) ∙ simp length-append (omega arith)

pub end_length : (t : ℕ) → length (end_line t) ≡ length (decimal t) + 5
unfolding bytes
end_length t = ap length (end_parts t) ∙ simp length-append (omega arith)

-- ---- no text is longer than 64 bytes
pub heading_longest : length heading ≤ longest
heading_longest = omega (arith, heading_length)

pub grant_longest : (t j a : ℕ) (e w : ℤ) → t < 2 ^ 32 → j < 2 ^ 16 → a < 2 ^ 8 → SFits w64 e → SFits w64 w → length (grant_line t j a e w) ≤ longest
grant_longest t j a e w ht hj ha he hw = omega (arith, grant_length t j a e w, ended_length (decimal t) 32, ended_length (decimal j) 32, ended_length (decimal a) 32, ended_length (signed e) 32, ended_length (signed w) 10, decimal_32 t ht, decimal_16 j hj, decimal_8 a ha, signed_64 e he, signed_64 w hw)

pub idle_longest : (t : ℕ) → t < 2 ^ 32 → length (idle_line t) ≤ longest
idle_longest t h = omega (arith, idle_length t, decimal_32 t h)

pub refusal_longest : (n b : ℕ) → n < 2 ^ 8 → b < 2 ^ 64 → length (refusal_line n b) ≤ longest
refusal_longest n b hn hb = omega (arith, refusal_length n b, decimal_8 n hn, decimal_64 b hb)

pub end_longest : (t : ℕ) → t < 2 ^ 32 → length (end_line t) ≤ longest
end_longest t h = omega (arith, end_length t, decimal_32 t h)
