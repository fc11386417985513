-- What a window of the input shows of its report, whatever is behind the window.
use Rattle.std.specs.Prelude.{◌≡◌, Bool, true, false, List, [], ◌++◌, ℕ, ◌+◌, ◌≤◌, length, drop}
use Rattle.std.proofs.Common.{sym, ap, ◌∙◌, subst, append-nil, arith, drop-drop}
use Rattle.std.proofs.lemmas.List.{drop-append-le}
use Rattle.rules.specs.Table.{Done, Refused}
use Rattle.rules.specs.Run.{state_after}
use Rattle.rules.specs.Records.{Frame, Ended, Cut, Whole, Record, Decoded, Known, frame_of, body_of, decoded, le16}
use Rattle.rules.specs.Records as records
use Rattle.rules.specs.Reading.{Reading, with_state, ticks_due, record_read}
use Rattle.rules.specs.History.{ticks_of}
use Rattle.rules.specs.Listing.{refusal_line}
use Rattle.rules.specs.Report.{told, stand, event_for, report_end}
use Rattle.windows.specs.Advance.{widest}
use Rattle.windows.specs.Feeding.{Bytes, drop_bytes}
use Rattle.windows.specs.Frames.{Shown, shown, none, bad, part, full, grows_bad, grows_full, grows_body}
use Rattle.windows.specs.Inputs.{whole_within}
use Rattle.report.specs.Rests.{from_on, cut_rest, ended_rest, unknown_rest, refused_rest, read_rest_lem, ticks_rest}
use Rattle.report.specs.Tallies.{Tally, reached_at, finished, rest_of}
use Rattle.report.specs.Along.{Brings}

-- ---- the frame in a window, and with what is behind it
abbrev Stays : List ℕ → List ℕ → Frame → Type 0
Stays w behind Ended = Unit {0}
Stays w behind Cut = Unit {0}
Stays w behind (Whole kind n) = (frame_of (w ++ behind) ≡ Whole kind n) × (body_of (w ++ behind) n ≡ body_of w n)

-- a whole record stays whole
whole_stays : (w behind : List ℕ) (kind n : ℕ) → frame_of w ≡ Whole kind n → Stays w behind (Whole kind n)
whole_stays w behind kind n e = subst (Stays w behind) e (by (shown w))
  where
    by : Shown w → Stays w behind (frame_of w)
    by (none h f) = rw f tt
    by (bad two h f) = rw f tt
    by (part some h f) = rw f tt
    by (full least h f) = rw f (grows_full w behind least h, grows_body w behind (2 + le16 w 0) (omega arith) h)

-- where nothing is, nothing is left
abbrev None : List ℕ → Frame → Type 0
None w Ended = length w ≡ 0
None w Cut = Unit {0}
None w (Whole kind n) = Unit {0}

pub whole_none : (w : List ℕ) → frame_of w ≡ Ended → length w ≡ 0
whole_none w e = subst (None w) e (by (shown w))
  where
    by : Shown w → None w (frame_of w)
    by (none h f) = rw f h
    by (bad two h f) = rw f tt
    by (part some h f) = rw f tt
    by (full least h f) = rw f tt

abbrev IsCut : Frame → Type 0
IsCut Ended = ⊥
IsCut Cut = Unit {0}
IsCut (Whole k m) = ⊥

-- a window of 65,537 bytes that shows no whole record shows that there is none
cut_stays : (w behind : List ℕ) → Bytes w → frame_of w ≡ Cut → widest ≤ length w → frame_of (w ++ behind) ≡ Cut
cut_stays w behind bytes e wide = by (shown w)
  where
    by : Shown w → frame_of (w ++ behind) ≡ Cut
    by (none h f) = absurd (omega arith)
    by (bad two h f) = grows_bad w behind two h
    by (part some h f) = absurd (let a = bytes 0 in let b = bytes 1 in let j = h (omega arith) in omega arith)
    by (full least h f) = absurd (subst IsCut (sym e ∙ f) tt)

-- ---- a report that is not done
module _ (w : List ℕ) (from : ℕ) (p : Tally) (undone : p.done ≡ false) where
  shows : (s : List ℕ) → rest_of p s ≡ from_on p.reading p.activities p.place s
  shows s = rw undone

  -- the last text
  last_brings : (last : Bool) (t : List ℕ)
      → ((behind : List ℕ) → (last ≡ true → behind ≡ []) → from_on p.reading p.activities p.place (drop from w ++ behind) ≡ t)
      → Brings last w from p t from (finished p)
  last_brings last t f behind end = shows (drop from w ++ behind) ∙ f behind end ∙ sym (append-nil t)

  -- behind the last window there is nothing
  nothing : (last : Bool) → last ≡ true → (behind : List ℕ) → (last ≡ true → behind ≡ []) → drop from w ++ behind ≡ drop from w
  nothing last l behind end = ap (λ (v : List ℕ). drop from w ++ v) (end l) ∙ append-nil (drop from w)

  pub ended_brings : (last : Bool) → last ≡ true → frame_of (drop from w) ≡ Ended → Brings last w from p (report_end p.reading p.activities p.place) from (finished p)
  ended_brings last l e = last_brings last (report_end p.reading p.activities p.place) (λ behind end. ended_rest p.place (drop from w ++ behind) p.reading p.activities (ap frame_of (nothing last l behind end) ∙ e))

  pub cut_brings : (last : Bool) → last ≡ true → frame_of (drop from w) ≡ Cut → Brings last w from p (refusal_line 14 p.place) from (finished p)
  cut_brings last l e = last_brings last (refusal_line 14 p.place) (λ behind end. cut_rest p.place (drop from w ++ behind) p.reading p.activities (ap frame_of (nothing last l behind end) ∙ e))

  pub wide_brings : (last : Bool) → Bytes w → widest ≤ length (drop from w) → frame_of (drop from w) ≡ Cut → Brings last w from p (refusal_line 14 p.place) from (finished p)
  wide_brings last bytes wide e = last_brings last (refusal_line 14 p.place) (λ behind _. cut_rest p.place (drop from w ++ behind) p.reading p.activities (cut_stays (drop from w) behind (drop_bytes from w bytes) e wide))

  -- ---- a whole record
  module _ (kind n : ℕ) (frame : frame_of (drop from w) ≡ Whole kind n) where
    says : (d : Decoded) → decoded kind (body_of (drop from w) n) ≡ d → (behind : List ℕ) → decoded kind (body_of (drop from w ++ behind) n) ≡ d
    says d e behind = ap (decoded kind) (whole_stays (drop from w) behind kind n frame).1 ∙ e

    pub unknown_brings : (m : ℕ) → decoded kind (body_of (drop from w) n) ≡ records.Refused m → Brings false w from p (refusal_line m p.place) from (finished p)
    unknown_brings m d = last_brings false (refusal_line m p.place) (λ behind _. unknown_rest p.place (drop from w ++ behind) kind n (whole_stays (drop from w) behind kind n frame).0 p.reading p.activities m (says (records.Refused m) d behind))

    module _ (e : Record) (known : decoded kind (body_of (drop from w) n) ≡ Known e) where
      pub refused_brings : (m : ℕ) → ticks_due p.reading e ≡ 0 → (record_read p.reading e).answer ≡ Refused m → Brings false w from p (refusal_line m p.place) from (finished p)
      refused_brings m due a = last_brings false (refusal_line m p.place) (λ behind _. refused_rest p.place (drop from w ++ behind) kind n (whole_stays (drop from w) behind kind n frame).0 e (says (Known e) known behind) p.reading p.activities m due a)

      pub read_brings : (q : Reading) → ticks_due p.reading e ≡ 0 → record_read p.reading e ≡ record { answer = Done; reading = q }
          → Brings false w from p (told p.reading.table p.activities (event_for p.reading.state e)) (from + n) (reached_at q (stand p.reading.table p.activities (event_for p.reading.state e)) (p.place + n))
      read_brings q due a behind _ =
          shows (drop from w ++ behind)
          ∙ read_rest_lem p.place (drop from w ++ behind) kind n (whole_stays (drop from w) behind kind n frame).0 e (says (Known e) known behind) p.reading p.activities q due a
          ∙ ap (λ (v : List ℕ). told p.reading.table p.activities (event_for p.reading.state e) ++ from_on q (stand p.reading.table p.activities (event_for p.reading.state e)) (p.place + n) v) left
        where
          left : drop n (drop from w ++ behind) ≡ drop (from + n) w ++ behind
          left = drop-append-le n (drop from w) behind (whole_within (drop from w) kind n frame).1 ∙ ap (λ (v : List ℕ). v ++ behind) (drop-drop n from w)

      pub ticks_brings : (k d : ℕ) → ticks_due p.reading e ≡ k + d
          → Brings false w from p (told p.reading.table p.activities (ticks_of k p.reading.state)) from (reached_at (with_state p.reading (state_after k p.reading.state)) (stand p.reading.table p.activities (ticks_of k p.reading.state)) p.place)
      ticks_brings k d due behind _ =
          shows (drop from w ++ behind)
          ∙ ticks_rest p.place (drop from w ++ behind) kind n (whole_stays (drop from w) behind kind n frame).0 e (says (Known e) known behind) k p.reading p.activities d due
