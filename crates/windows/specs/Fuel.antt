-- The listing of an input has enough steps: more of them change nothing.
use Rattle.std.specs.Prelude.{◌≡◌, refl, List, ◌++◌, ℕ, zero, suc, ◌+◌, ◌≤◌, ◌<◌, length, drop}
use Rattle.std.proofs.Common.{sym, ap, arith, length-drop}
use Rattle.rules.specs.Table.{Answer, Done, Refused}
use Rattle.rules.specs.Records.{Decoded, Known, frame_of, body_of, decoded, le16}
use Rattle.rules.specs.Records as records
use Rattle.rules.specs.Reading.{Reading, record_read}
use Rattle.rules.specs.Listing.{Rest, lines_before, onward, list_decoded, list_frame, list_from, ending}
use Rattle.windows.specs.Frames.{Shown, shown, none, bad, part, full, ended}

-- a record is followed by less than there was
module _ (f g : Rest) (r : Reading) (b : ℕ) (s : List ℕ) (same : (r' : Reading) (b' : ℕ) (s' : List ℕ) → length s' < length s → f r' b' s' ≡ g r' b' s') where
  module _ (n : ℕ) (some : 0 < n) (within : n ≤ length s) where
    onward_same : (a : Answer) (q : Reading) → onward a f q b n s ≡ onward a g q b n s
    onward_same Done q = same q (b + n) (drop n s) (omega (arith, length-drop n s))
    onward_same (Refused m) q = refl

    decoded_same : (d : Decoded) → list_decoded f r b n s d ≡ list_decoded g r b n s d
    decoded_same (Known e) = ap (λ (t : List ℕ). lines_before r e ++ t) (onward_same (record_read r e).answer (record_read r e).reading)
    decoded_same (records.Refused m) = refl

  frame_same : list_frame f r b s (frame_of s) ≡ list_frame g r b s (frame_of s)
  frame_same = by (shown s)
    where
      by : Shown s → list_frame f r b s (frame_of s) ≡ list_frame g r b s (frame_of s)
      by (none h e) = rw e
      by (bad two h e) = rw e
      by (part some h e) = rw e
      by (full least h e) = rw e (decoded_same (2 + le16 s 0) (omega arith) h (decoded (le16 s 2) (body_of s (2 + le16 s 0))))

list_none : (m : ℕ) (r : Reading) (b : ℕ) (s : List ℕ) → length s ≡ 0 → list_from (suc m) r b s ≡ ending r b
unfolding list_from
list_none m r b s h = rw (ended s h)

-- as many steps as the rest of the input has bytes are enough
pub list_any : (k m : ℕ) (r : Reading) (b : ℕ) (s : List ℕ) → length s ≤ k → length s ≤ m → list_from k r b s ≡ list_from m r b s
unfolding list_from
list_any zero zero r b s h l = refl
list_any zero (suc m) r b s h l = sym (list_none m r b s (omega arith))
list_any (suc k) zero r b s h l = list_none k r b s (omega arith)
list_any (suc k) (suc m) r b s h l = frame_same _ _ r b s (λ r' b' s' j. list_any k m r' b' s' (omega arith) (omega arith))

-- the listing of a rest, by what stands at its start
pub list_open : (r : Reading) (b : ℕ) (s : List ℕ) → list_from (length s) r b s ≡ list_frame (list_from (length s)) r b s (frame_of s)
unfolding list_from
list_open r b s = list_any (length s) (suc (length s)) r b s (omega arith) (omega arith)
