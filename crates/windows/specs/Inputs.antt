-- Reading an input record by record: what the rest of it, from a byte on, still gives.
use Rattle.std.specs.Prelude.{◌≡◌, refl, List, ℕ, zero, suc, ◌+◌, ◌-◌, ◌≤◌, length, take, drop}
use Rattle.std.proofs.Common.{ap, ◌∙◌, subst, arith, length-drop, take_all, drop-drop}
use Rattle.rules.specs.Table.{Answer, Done, Refused}
use Rattle.rules.specs.Records.{Frame, Ended, Cut, Whole, frame_of, body_of}
use Rattle.rules.specs.Reading.{Reading, fresh, read}
use Rattle.rules.specs.Input.{InputRead, stopped, end_read, read_on, read_frame, read_from, read_input}
use Rattle.windows.specs.Frames.{Shown, shown, none, bad, part, full, ended}

-- ---- a whole record has at least four bytes, and lies in what there is
abbrev Within : List ℕ → Frame → Type 0
Within s Ended = Unit {0}
Within s Cut = Unit {0}
Within s (Whole kind n) = (4 ≤ n) × (n ≤ length s)

frame_within : (s : List ℕ) → Within s (frame_of s)
frame_within s = by (shown s)
  where
    by : Shown s → Within s (frame_of s)
    by (none h e) = rw e tt
    by (bad two h e) = rw e tt
    by (part some h e) = rw e tt
    by (full least h e) = rw e (omega arith, h)

pub whole_within : (s : List ℕ) (kind n : ℕ) → frame_of s ≡ Whole kind n → (4 ≤ n) × (n ≤ length s)
whole_within s kind n e = subst (Within s) e (frame_within s)

-- where a byte is left, there is a record or a part of one
abbrev Some : Frame → Type 0
Some Ended = ⊥
Some Cut = Unit {0}
Some (Whole kind n) = Unit {0}

frame_some : (s : List ℕ) → (length s ≡ 0 → ⊥) → Some (frame_of s)
frame_some s some = by (shown s)
  where
    by : Shown s → Some (frame_of s)
    by (none h e) = absurd (some h)
    by (bad two h e) = rw e tt
    by (part more h e) = rw e tt
    by (full least h e) = rw e tt

pub not_ended : (s : List ℕ) → (length s ≡ 0 → ⊥) → frame_of s ≡ Ended → ⊥
not_ended s h e = subst Some e (frame_some s h)

-- ---- as many steps as the rest of the input has bytes are enough: more of them change nothing
on_same : (a : Answer) (k m : ℕ) (r : Reading) (b n : ℕ) (s : List ℕ) → read_from k r (b + n) (drop n s) ≡ read_from m r (b + n) (drop n s)
    → read_on a (read_from k) r b n s ≡ read_on a (read_from m) r b n s
on_same Done k m r b n s e = e
on_same (Refused j) k m r b n s e = refl

read_any : (k m : ℕ) (r : Reading) (b : ℕ) (s : List ℕ) → length s ≤ k → length s ≤ m → read_from k r b s ≡ read_from m r b s
unfolding read_from
read_any zero zero r b s h l = refl
read_any zero (suc m) r b s h l = rw (ended s (omega arith))
read_any (suc k) zero r b s h l = rw (ended s (omega arith))
read_any (suc k) (suc m) r b s h l = go (frame_of s) (frame_within s) (read_any k m)
  where
    go : (f : Frame) → Within s f → ((r : Reading) (b : ℕ) (s : List ℕ) → length s ≤ k → length s ≤ m → read_from k r b s ≡ read_from m r b s)
        → read_frame (read_from k) r b s f ≡ read_frame (read_from m) r b s f
    go Ended w ih = refl
    go Cut w ih = refl
    go (Whole kind n) w ih =
        let x = read r kind (body_of s n) in
        let d = length-drop n s in
        on_same x.answer k m x.reading b n s (ih x.reading (b + n) (drop n s) (omega (arith, d, w.0, w.1)) (omega (arith, d, w.0, w.1)))

-- what the rest s of an input gives, from the byte b on, after the reading r
abbrev pub read_rest : Reading → ℕ → List ℕ → InputRead
read_rest r b s = read_from (length s) r b s

-- ---- the cases of a rest
module _ (r : Reading) (b : ℕ) (s : List ℕ) where
  rest_frame : read_rest r b s ≡ read_frame (read_from (length s)) r b s (frame_of s)
  unfolding read_from
  rest_frame = read_any (length s) (suc (length s)) r b s (omega arith) (omega arith)

  pub rest_ended : frame_of s ≡ Ended → read_rest r b s ≡ end_read r b
  rest_ended e = rest_frame ∙ ap (read_frame (read_from (length s)) r b s) e

  pub rest_cut : frame_of s ≡ Cut → read_rest r b s ≡ stopped (Refused 14) b r
  rest_cut e = rest_frame ∙ ap (read_frame (read_from (length s)) r b s) e

  module _ (kind n : ℕ) (e : frame_of s ≡ Whole kind n) where
    rest_whole : read_rest r b s ≡ read_on (read r kind (body_of s n)).answer (read_from (length s)) (read r kind (body_of s n)).reading b n s
    rest_whole = rest_frame ∙ ap (read_frame (read_from (length s)) r b s) e

    -- a record that is not refused: what the rest after it gives
    pub rest_done : (read r kind (body_of s n)).answer ≡ Done → read_rest r b s ≡ read_rest (read r kind (body_of s n)).reading (b + n) (drop n s)
    rest_done d =
        rest_whole
        ∙ ap (λ (a : Answer). read_on a (read_from (length s)) (read r kind (body_of s n)).reading b n s) d
        ∙ read_any (length s) (length (drop n s)) (read r kind (body_of s n)).reading (b + n) (drop n s) (omega (arith, length-drop n s)) (omega arith)

    pub rest_refused : (m : ℕ) → (read r kind (body_of s n)).answer ≡ Refused m → read_rest r b s ≡ stopped (Refused m) b (read r kind (body_of s n)).reading
    rest_refused m d =
        rest_whole
        ∙ ap (λ (a : Answer). read_on a (read_from (length s)) (read r kind (body_of s n)).reading b n s) d

-- an input is a rest
pub input_rest : (s : List ℕ) → read_input s ≡ read_rest fresh 0 s
unfolding read_input
input_rest s = refl

-- ---- the rest from a byte on, as parts of the input
module _ (s : List ℕ) (b : ℕ) where
  pub rest_part : take (length s - b) (drop b s) ≡ drop b s
  rest_part = take_all (length s - b) (drop b s) (omega (arith, length-drop b s))

  pub body_part : (n : ℕ) → take ((b + n) - (b + 4)) (drop (b + 4) s) ≡ body_of (drop b s) n
  body_part n =
      let e : (b + n) - (b + 4) ≡ n - 4 = omega arith in
      rw (e, drop-drop)

  pub rest_drop : (n : ℕ) → drop n (drop b s) ≡ drop (b + n) s
  rest_drop n = drop-drop n b s
