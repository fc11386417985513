-- The report of an input has enough steps: more of them change nothing.
use Rattle.std.specs.Prelude.{◌≡◌, refl, List, ◌++◌, ℕ, zero, suc, ◌+◌, ◌≤◌, ◌<◌, length, drop}
use Rattle.std.proofs.Common.{sym, ap, arith, length-drop}
use Rattle.rules.specs.Table.{Answer, Done, Refused}
use Rattle.rules.specs.Records.{Record, Decoded, Known, frame_of, body_of, decoded, le16}
use Rattle.rules.specs.Records as records
use Rattle.rules.specs.Reading.{Reading, record_read}
use Rattle.rules.specs.Stretches.{Activity}
use Rattle.rules.specs.Report.{Rest, told, stand, ticks_for, at_moment, onward, report_decoded, report_frame, report_from, report_end}
use Rattle.windows.specs.Frames.{Shown, shown, none, bad, part, full, ended}

-- a record is followed by less than there was
module _ (f g : Rest) (r : Reading) (b : ℕ) (s : List ℕ) (same : (r' : Reading) (cs' : List Activity) (b' : ℕ) (s' : List ℕ) → length s' < length s → f r' cs' b' s' ≡ g r' cs' b' s') where
  module _ (n : ℕ) (some : 0 < n) (within : n ≤ length s) where
    onward_same : (a : Answer) (cs : List Activity) (e : Record) → onward a f r cs b n s e ≡ onward a g r cs b n s e
    onward_same Done cs e = ap (λ (t : List ℕ). told r.table cs (at_moment r e) ++ t) (same (record_read r e).reading (stand r.table cs (at_moment r e)) (b + n) (drop n s) (omega (arith, length-drop n s)))
    onward_same (Refused m) cs e = refl

    decoded_same : (cs : List Activity) (d : Decoded) → report_decoded f r cs b n s d ≡ report_decoded g r cs b n s d
    decoded_same cs (Known e) = ap (λ (t : List ℕ). told r.table cs (ticks_for r e) ++ t) (onward_same (record_read r e).answer (stand r.table cs (ticks_for r e)) e)
    decoded_same cs (records.Refused m) = refl

  frame_same : (cs : List Activity) → report_frame f r cs b s (frame_of s) ≡ report_frame g r cs b s (frame_of s)
  frame_same cs = by (shown s)
    where
      by : Shown s → report_frame f r cs b s (frame_of s) ≡ report_frame g r cs b s (frame_of s)
      by (none h e) = rw e
      by (bad two h e) = rw e
      by (part some h e) = rw e
      by (full least h e) = rw e (decoded_same (2 + le16 s 0) (omega arith) h cs (decoded (le16 s 2) (body_of s (2 + le16 s 0))))

report_none : (m : ℕ) (r : Reading) (cs : List Activity) (b : ℕ) (s : List ℕ) → length s ≡ 0 → report_from (suc m) r cs b s ≡ report_end r cs b
unfolding report_from
report_none m r cs b s h = rw (ended s h)

-- as many steps as the rest of the input has bytes are enough
pub report_any : (k m : ℕ) (r : Reading) (cs : List Activity) (b : ℕ) (s : List ℕ) → length s ≤ k → length s ≤ m → report_from k r cs b s ≡ report_from m r cs b s
unfolding report_from
report_any zero zero r cs b s h l = refl
report_any zero (suc m) r cs b s h l = sym (report_none m r cs b s (omega arith))
report_any (suc k) zero r cs b s h l = report_none k r cs b s (omega arith)
report_any (suc k) (suc m) r cs b s h l = frame_same _ _ r b s (λ r' cs' b' s' j. report_any k m r' cs' b' s' (omega arith) (omega arith)) cs

-- the report of a rest, by what stands at its start
pub report_open : (r : Reading) (cs : List Activity) (b : ℕ) (s : List ℕ) → report_from (length s) r cs b s ≡ report_frame (report_from (length s)) r cs b s (frame_of s)
unfolding report_from
report_open r cs b s = report_any (length s) (suc (length s)) r cs b s (omega arith) (omega arith)
