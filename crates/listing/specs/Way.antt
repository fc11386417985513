-- What the parts of a call bring.
use Rattle.std.proofs.Math.Path.{◌≡◌, refl, ap}
use Rattle.std.specs.Prelude.{Bool, List, ℕ, Option, None, Some, leb, ◌+◌, ◌≤◌, ◌<◌, length}
use Rattle.std.proofs.Math.Bool.{true, false, cond}
use Rattle.std.proofs.Common.{arith}
use Rattle.std.proofs.lemmas.List.Edits.{sets}
use Rattle.rules.specs.Limits.{max_jobs}
use Rattle.rules.specs.Threads.{State}
use Rattle.rules.specs.Table.{Answer, Done, Refused, number_of}
use Rattle.rules.specs.Run.{state_after}
use Rattle.rules.specs.Records.{Frame, Ended, Cut, Whole, Record, Decoded, Known, frame_of, body_of, decoded}
use Rattle.rules.specs.Records as records
use Rattle.rules.specs.Reading.{Reading, with_state, at_events}
use Rattle.rules.specs.Input.{GivenReading, end_read}
use Rattle.rules.specs.Listing.{tick_lines, refusal_line, end_line, ending}
use Rattle.windows.specs.Advance.{Progress, longest, Advanced}
use Rattle.windows.specs.Along.{Along}
use Rattle.quantities.specs.declared.Turn.{Turn}

-- the answer of a call
abbrev pub turn_of : Advanced → Turn
turn_of a = record { taken = a.taken; written = length a.text; progress = a.progress }

-- so many jobs, unless a thread may not have them
abbrev pub few : ℕ → Option ℕ
few n = cond (leb n max_jobs) (Some n) None

-- ---- the record at the start of a window, where it is whole and known, and its length
abbrev pub seen_decoded : ℕ → Decoded → Option (Record × ℕ)
seen_decoded n (Known e) = Some (e, n)
seen_decoded n (records.Refused m) = None

abbrev pub seen_frame : List ℕ → Frame → Option (Record × ℕ)
seen_frame w Ended = None
seen_frame w Cut = None
seen_frame w (Whole kind n) = seen_decoded n (decoded kind (body_of w n))

unfoldable pub seen_at : List ℕ → Option (Record × ℕ)
seen_at w = seen_frame w (frame_of w)

pub seen_known : (w : List ℕ) (kind n : ℕ) (e : Record) → frame_of w ≡ Whole kind n → decoded kind (body_of w n) ≡ Known e → Some (e, n) ≡ seen_at w
unfolding seen_at
seen_known w kind n e f d = rw (f, d)

pub seen_refused : (w : List ℕ) (kind n m : ℕ) → frame_of w ≡ Whole kind n → decoded kind (body_of w n) ≡ records.Refused m → None ≡ seen_at w
unfolding seen_at
seen_refused w kind n m f d = rw (f, d)

-- ---- records that were read without writing
pub record SweptTo (w : List ℕ) (from : ℕ) (p : Progress) (at : ℕ) (q : Progress) : Type 0 where
  pub given : GivenReading q.reading
  pub along : (last : Bool) (out : List ℕ) (used : ℕ) → used + longest ≤ length out → Along last w out from used p out at used q
  pub takes : from ≤ at
  pub within : at ≤ length w

-- ---- k ticks that were listed
pub record Listed (out : List ℕ) (from : ℕ) (s : State) (n k : ℕ) (out' : List ℕ) (used : ℕ) (z : State) : Type 0 where
  pub most : k ≤ n
  pub state : z ≡ state_after k s
  pub stored : out' ≡ sets out from (tick_lines k s)
  pub writes : used ≡ from + length (tick_lines k s)
  pub fits : used ≤ length out
  pub roomy : (j : ℕ) → j < k → from + length (tick_lines j s) + longest ≤ length out

-- .. as many as there was room for
pub record ListedTo (out : List ℕ) (from : ℕ) (s : State) (n : ℕ) (out' : List ℕ) (used : ℕ) (z : State) : Type 0 where
  pub count : ℕ
  pub listed : Listed out from s n count out' used z
  pub ended : count < n → length out < used + longest

-- .. the listing with the state after ticks
abbrev pub with_ticks : Progress → State → Progress
with_ticks p s = record { reading = with_state p.reading s; place = p.place; done = p.done }

-- ---- how an input ends, by what reading answers at its end
module _ (r : Reading) (b : ℕ) where
  pub ending_end : (end_read r b).answer ≡ Done → ending r b ≡ end_line r.state.clock.0
  unfolding ending
  ending_end e = go (at_events r) e
    where
      go : (t : Bool) → cond t Done (Refused 14) ≡ Done → cond t (end_line r.state.clock.0) (refusal_line 14 b) ≡ end_line r.state.clock.0
      go true d = refl
      go false d = absurd (omega (arith, ap number_of d))

  pub ending_refused : (n : ℕ) → (end_read r b).answer ≡ Refused n → ending r b ≡ refusal_line n b
  unfolding ending
  ending_refused n e = go (at_events r) e
    where
      go : (t : Bool) → cond t Done (Refused 14) ≡ Refused n → cond t (end_line r.state.clock.0) (refusal_line 14 b) ≡ refusal_line n b
      go true d = let z : ◌≡◌ {A = ℕ} 0 1 = cc in absurd (omega arith)
      go false d = ap (λ (a : Answer). refusal_line (number_of a) b) d
