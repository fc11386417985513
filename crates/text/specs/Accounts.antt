-- The line of a stretch, of its numbers, in the parts in which it is put; and how long it is.
use Rattle.std.specs.Prelude.{◌≡◌, refl, List, [], ◌∷◌, ◌++◌, ℕ, ◌+◌, ◌^◌, ◌<◌, ◌≤◌, ℤ, length}
use Rattle.std.proofs.Common.{ap, append_assoc, arith, length-append, SFits}
use Rattle.std.specs.Int.{w64}
use Rattle.rules.specs.Listing.{bytes, line, decimal, signed}
use Rattle.rules.specs.Report.{report_heading}
use Rattle.rules.specs.Stretches.{Stretch}
use Rattle.text.specs.declared.report.How.{How}
use Rattle.text.specs.declared.report.How.TheVariants.{Over, Idle, Open}
use Rattle.text.specs.Put.{ended}
use Rattle.text.specs.Laws.{decimal_16, decimal_32, decimal_64, signed_64, ended_length}
use Rattle.text.specs.Wide.{wide}

-- the last word
abbrev pub word_of : How → List ℕ
word_of Over = bytes "over"
word_of Idle = bytes "idle"
word_of Open = bytes "open"

-- the line of the numbers: `share` is share × elapsed
abbrev pub account_line : ℕ → ℕ → Stretch → ℕ → ℤ → How → List ℕ
account_line a t c share sum how =
    line (decimal a ∷ decimal c.since.0 ∷ decimal t ∷ decimal c.granted ∷ signed c.lost.0
    ∷ decimal share ∷ signed sum ∷ word_of how ∷ [])

-- ---- its parts
abbrev pub span_text : ℕ → ℕ → ℕ → List ℕ
span_text a f t = ended (decimal a) 32 ++ (ended (decimal f) 32 ++ ended (decimal t) 32)

abbrev pub sums_text : ℤ → ℕ → ℤ → List ℕ
sums_text l n z = ended (signed l) 32 ++ (ended (decimal n) 32 ++ ended (signed z) 32)

unfoldable pub how_text : How → List ℕ
how_text h = ended (word_of h) 10

pub account_parts : (a t : ℕ) (c : Stretch) (n : ℕ) (z : ℤ) (h : How)
    → span_text a c.since.0 t ++ (ended (decimal c.granted) 32 ++ (sums_text c.lost.0 n z ++ how_text h)) ≡ account_line a t c n z h
unfolding bytes line how_text
account_parts a t c n z h = simp append_assoc

pub word_length : (h : How) → length (word_of h) ≡ 4
unfolding bytes
word_length Over = refl
word_length Idle = refl
word_length Open = refl

how_length : (h : How) → length (how_text h) ≡ 5
unfolding bytes how_text
how_length Over = refl
how_length Idle = refl
how_length Open = refl

pub span_length : (a f t : ℕ) → length (span_text a f t) ≡ length (decimal a) + (length (decimal f) + (length (decimal t) + 3))
span_length a f t = simp length-append (omega arith)

pub sums_length : (l : ℤ) (n : ℕ) (z : ℤ) → length (sums_text l n z) ≡ length (signed l) + (length (decimal n) + (length (signed z) + 3))
sums_length l n z = simp length-append (omega arith)

-- ---- no line is longer than 128 bytes
pub span_most : (a f t : ℕ) → a < 2 ^ 16 → f < 2 ^ 32 → t < 2 ^ 32 → length (span_text a f t) ≤ 28
span_most a f t p q r = omega (arith, span_length a f t, decimal_16 a p, decimal_32 f q, decimal_32 t r)

pub sums_most : (l : ℤ) (n : ℕ) (z : ℤ) → SFits w64 l → n < 2 ^ 64 → SFits w64 z → length (sums_text l n z) ≤ 63
sums_most l n z p q r = omega (arith, sums_length l n z, signed_64 l p, decimal_64 n q, signed_64 z r)

account_length : (a t : ℕ) (c : Stretch) (n : ℕ) (z : ℤ) (h : How) → length (account_line a t c n z h) ≡ length (span_text a c.since.0 t) + (length (decimal c.granted) + (length (sums_text c.lost.0 n z) + 6))
account_length a t c n z h =
    let s = span_text a c.since.0 t in
    let g = ended (decimal c.granted) 32 in
    let m = sums_text c.lost.0 n z in
    omega (arith, ap length (account_parts a t c n z h), length-append s (g ++ (m ++ how_text h)), length-append g (m ++ how_text h), length-append m (how_text h), ended_length (decimal c.granted) 32, how_length h)

pub account_widest : (a t : ℕ) (c : Stretch) (n : ℕ) (z : ℤ) (h : How) → a < 2 ^ 16 → t < 2 ^ 32 → c.since.0 < 2 ^ 32 → c.granted < 2 ^ 32 → SFits w64 c.lost.0 → n < 2 ^ 64 → SFits w64 z → length (account_line a t c n z h) ≤ wide
account_widest a t c n z h ha ht hf hg hl hn hz = omega (arith, account_length a t c n z h, span_most a c.since.0 t ha hf ht, decimal_32 c.granted hg, sums_most c.lost.0 n z hl hn hz)

pub report_heading_length : length report_heading ≡ 39
unfolding bytes report_heading
report_heading_length = refl
