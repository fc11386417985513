-- Which frame stands at the start of the rest of an input, and that a window of it decides.
use Rattle.std.specs.Prelude.{◌≡◌, refl, List, ◌++◌, ℕ, ◌+◌, ◌-◌, ◌≤◌, ◌<◌, length, take, drop}
use Rattle.std.proofs.Common.{sym, ap, ◌∙◌, subst, arith, length-append, length-drop}
use Rattle.std.proofs.Math.Decide.{dec_lt, ℕ_discrete}
use borrow.Author.Tests.{eq-eqb, ne_eqb, lt-ltb, le-ltb}
use Rattle.std.proofs.Math.ListN.{get_or-append}
use Rattle.std.proofs.lemmas.List.{take-append-le, drop-append-le}
use Rattle.rules.specs.Records.{Frame, Ended, Cut, Whole, frame_of, body_of, le16}

-- no record is longer than 65,537 bytes
abbrev pub AtMost : Frame → Type 0
AtMost Ended = Unit
AtMost Cut = Unit
AtMost (Whole kind n) = n ≤ 65537

pub at_most : {f : Frame} {kind n : ℕ} → f ≡ Whole kind n → AtMost f → n ≤ 65537
at_most e h = subst AtMost e h

-- ---- the cases of a frame
module _ (s : List ℕ) where
  pub ended : length s ≡ 0 → frame_of s ≡ Ended
  unfolding frame_of
  ended h = simp (eq-eqb _ _ h)

  module _ (some : length s ≡ 0 → ⊥) where
    pub short : length s < 2 → frame_of s ≡ Cut
    unfolding frame_of
    short h = simp (ne_eqb _ _ some, lt-ltb _ _ h)

    module _ (two : 2 ≤ length s) (n : ℕ) (is : n ≡ le16 s 0) where
      pub tiny : n < 2 → frame_of s ≡ Cut
      unfolding frame_of
      tiny h = simp (ne_eqb _ _ some, le-ltb _ _ two, ← is, lt-ltb _ _ h)

      module _ (least : 2 ≤ n) where
        pub cut : length s < 2 + n → frame_of s ≡ Cut
        unfolding frame_of
        cut h = simp (ne_eqb _ _ some, le-ltb _ _ two, ← is, le-ltb _ _ least, lt-ltb _ _ h)

        pub whole : 2 + n ≤ length s → frame_of s ≡ Whole (le16 s 2) (2 + n)
        unfolding frame_of
        whole h = simp (ne_eqb _ _ some, le-ltb _ _ two, ← is, le-ltb _ _ least, le-ltb _ _ h)

-- ---- every input shows one of them
pub data Shown (s : List ℕ) : Type 0 where
  none : length s ≡ 0 → frame_of s ≡ Ended → Shown s
  bad : 2 ≤ length s → le16 s 0 < 2 → frame_of s ≡ Cut → Shown s
  part : 0 < length s → (2 ≤ length s → length s < 2 + le16 s 0) → frame_of s ≡ Cut → Shown s
  full : 2 ≤ le16 s 0 → 2 + le16 s 0 ≤ length s → frame_of s ≡ Whole (le16 s 2) (2 + le16 s 0) → Shown s

pub shown : (s : List ℕ) → Shown s
shown s = by_none (ℕ_discrete (length s) 0)
  where
    by_end : (some : length s ≡ 0 → ⊥) → 2 ≤ length s → 2 ≤ le16 s 0 → Dec (length s < 2 + le16 s 0) → Shown s
    by_end some two least (yes h) = part (omega (arith, some)) (λ _. h) (cut s some two (le16 s 0) refl least h)
    by_end some two least (no h) = full least (omega (arith, h)) (whole s some two (le16 s 0) refl least (omega (arith, h)))

    by_length : (some : length s ≡ 0 → ⊥) → 2 ≤ length s → Dec (le16 s 0 < 2) → Shown s
    by_length some two (yes h) = bad two h (tiny s some two (le16 s 0) refl h)
    by_length some two (no h) = by_end some two (omega (arith, h)) (dec_lt (length s) (2 + le16 s 0))

    by_two : (some : length s ≡ 0 → ⊥) → Dec (length s < 2) → Shown s
    by_two some (yes h) = part (omega (arith, some)) (λ k. absurd (omega arith)) (short s some h)
    by_two some (no h) = by_length some (omega (arith, h)) (dec_lt (le16 s 0) 2)

    by_none : Dec (length s ≡ 0) → Shown s
    by_none (yes h) = none h (ended s h)
    by_none (no h) = by_two h (dec_lt (length s) 2)

-- ---- more of the input behind a window
module _ (w tail : List ℕ) where
  longer : length w ≤ length (w ++ tail)
  longer = omega (arith, length-append w tail)

  same_le16 : (k : ℕ) → k + 2 ≤ length w → le16 (w ++ tail) k ≡ le16 w k
  same_le16 k h = rw (get_or-append w tail 0 k (omega arith), get_or-append w tail 0 (k + 1) (omega arith))

  some : 2 ≤ length w → length (w ++ tail) ≡ 0 → ⊥
  some h e = omega (arith, longer)

  -- a length below 2 stays so
  pub grows_bad : 2 ≤ length w → le16 w 0 < 2 → frame_of (w ++ tail) ≡ Cut
  grows_bad two h = tiny (w ++ tail) (some two) (omega (arith, longer)) (le16 w 0) (sym (same_le16 0 two)) h

  -- a whole record stays whole, and its body is the same
  pub grows_full : 2 ≤ le16 w 0 → 2 + le16 w 0 ≤ length w → frame_of (w ++ tail) ≡ Whole (le16 w 2) (2 + le16 w 0)
  grows_full least h =
      whole (w ++ tail) (some (omega arith)) (omega (arith, longer)) (le16 w 0) (sym (same_le16 0 (omega arith))) least (omega (arith, longer))
      ∙ ap (λ (k : ℕ). Whole k (2 + le16 w 0)) (same_le16 2 (omega arith))

  pub grows_body : (n : ℕ) → 4 ≤ n → n ≤ length w → body_of (w ++ tail) n ≡ body_of w n
  grows_body n least h =
      ap (take (n - 4)) (drop-append-le 4 w tail (omega arith))
      ∙ take-append-le (n - 4) (drop 4 w) tail (omega (arith, length-drop 4 w))
