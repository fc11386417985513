-- The decimal digits of a number, taken apart at 10, 100, 10,000 and 100,000,000; and how many there are.
use Rattle.std.specs.Prelude.{ℕ, zero, suc, ◌+◌, ◌/◌, ◌%◌, ◌^◌, ◌<◌, ◌≤◌, ◌≡◌, Bool, true, false, List, [], ◌∷◌, ◌++◌, length}
use Rattle.std.proofs.Common.{pow-suc, div-lt_iff_lt-mul, arith, sym, ap, ◌∙◌, append_assoc, lit<, length-append, lt-ltb, le-ltb}
use Rattle.std.proofs.Math.Decide.{dec_lt}
use Rattle.rules.specs.Listing.{digits, decimal}
use Rattle.text.specs.Put.{ended, pair, four, eight}

-- by cases on whether n is below 10
split : {P : Type 0} (n : ℕ) → (n < 10 → P) → (10 ≤ n → P) → P
split {P} n small large = by (dec_lt n 10)
  where
    by : Dec (n < 10) → P
    by (yes h) = small h
    by (no h) = large (omega (arith, h))

-- the digits, by the test that they begin with
abbrev by_test : Bool → ℕ → ℕ → List ℕ
by_test b k n = elim b [ true ↦ (48 + n) ∷ [] | false ↦ ended (digits k (n / 10)) (48 + n % 10) ]

one : (k n : ℕ) → n < 10 → digits (suc k) n ≡ (48 + n) ∷ []
unfolding digits
one k n h = ap (λ (b : Bool). by_test b k n) (lt-ltb n 10 h)

more : (k n : ℕ) → 10 ≤ n → digits (suc k) n ≡ ended (digits k (n / 10)) (48 + n % 10)
unfolding digits
more k n h = ap (λ (b : Bool). by_test b k n) (le-ltb n 10 h)

-- any two numbers of digits that are enough give the same
pub enough : (k m n : ℕ) → n < k → n < m → digits k n ≡ digits m n
enough zero m n h h' = absurd (omega arith)
enough (suc k) zero n h h' = absurd (omega arith)
enough (suc k) (suc m) n h h' =
    split n (λ l. one k n l ∙ sym (one m n l))
    (λ l. more k n l ∙ ap (λ (d : List ℕ). ended d (48 + n % 10)) (enough k m (n / 10) (omega arith) (omega arith)) ∙ sym (more m n l))

pub below_10 : (n : ℕ) → n < 10 → decimal n ≡ (48 + n) ∷ []
below_10 n h = one n n h

-- a number from m on is what stands before m, and a text of the rest
abbrev Apart : ℕ → (ℕ → List ℕ) → Type 0
Apart m text = (n : ℕ) → m ≤ n → decimal n ≡ decimal (n / m) ++ text (n % m)

-- taken apart at m twice over is taken apart at m × m, k here so that omega knows its quotients
twice : (m k : ℕ) (text : ℕ → List ℕ)
    → ((n : ℕ) → (n / m / m ≡ n / k) × (n / m % m ≡ n % k / m) × (n % m ≡ n % k % m))
    → ((n : ℕ) → k ≤ n → (m ≤ n) × (m ≤ n / m))
    → Apart m text → Apart k (λ n. text (n / m) ++ text (n % m))
twice m k text parts long apart n h =
    apart n (long n h).0
    ∙ ap (λ (d : List ℕ). d ++ text (n % m)) (apart (n / m) (long n h).1)
    ∙ append_assoc (decimal (n / m / m)) (text (n / m % m)) (text (n % m))
    ∙ rw ((parts n).0, (parts n).1, (parts n).2)

pub by_10 : Apart 10 (λ n. (48 + n) ∷ [])
by_10 n h = more n n h ∙ ap (λ (d : List ℕ). ended d (48 + n % 10)) (enough n (suc (n / 10)) (n / 10) (omega arith) (omega arith))

pub below_100 : (n : ℕ) → 10 ≤ n → n < 100 → decimal n ≡ pair n
below_100 n h h' = by_10 n h ∙ ap (λ (d : List ℕ). ended d (48 + n % 10)) (below_10 (n / 10) (omega arith))

pub by_100 : Apart 100 pair
by_100 = twice 10 100 (λ n. (48 + n) ∷ []) (λ n. (omega arith, omega arith, omega arith)) (λ n h. (omega arith, omega arith)) by_10

pub by_10000 : Apart 10000 four
by_10000 = twice 100 10000 pair (λ n. (omega arith, omega arith, omega arith)) (λ n h. (omega arith, omega arith)) by_100

pub by_100000000 : Apart 100000000 eight
by_100000000 = twice 10000 100000000 four (λ n. (omega arith, omega arith, omega arith)) (λ n h. (omega arith, omega arith)) by_10000

-- ---- the same for how many digits there are
pub length_below_10 : (n : ℕ) → n < 10 → length (decimal n) ≡ 1
length_below_10 n h = ap length (below_10 n h)

pub length_below_100 : (n : ℕ) → 10 ≤ n → n < 100 → length (decimal n) ≡ 2
length_below_100 n h h' = ap length (below_100 n h h')

pub length_by_100 : (n : ℕ) → 100 ≤ n → length (decimal n) ≡ length (decimal (n / 100)) + 2
length_by_100 n h = ap length (by_100 n h) ∙ simp length-append

pub length_by_10000 : (n : ℕ) → 10000 ≤ n → length (decimal n) ≡ length (decimal (n / 10000)) + 4
length_by_10000 n h = ap length (by_10000 n h) ∙ simp length-append

pub length_by_100000000 : (n : ℕ) → 100000000 ≤ n → length (decimal n) ≡ length (decimal (n / 100000000)) + 8
length_by_100000000 n h = ap length (by_100000000 n h) ∙ simp length-append

-- a number below 10 ^ k has at most k digits
pub decimal_most : (k n : ℕ) → n < 10 ^ suc k → length (decimal n) ≤ suc k
decimal_most zero n h = omega (arith, ap length (below_10 n h))
decimal_most (suc k) n h =
    split n (λ l. omega (arith, ap length (below_10 n l)))
    (λ l. omega (arith, ap length (by_10 n l), length-append (decimal (n / 10)) ((48 + n % 10) ∷ []), decimal_most k (n / 10) ((div-lt_iff_lt-mul (lit< tt)).1 (rw (← pow-suc 10 (suc k)) h))))
