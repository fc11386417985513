-- Records that are read one after the other without a line.
use Rattle.std.specs.Prelude.{◌≡◌, refl, Bool, true, false, cond, eqb, leb, ltb, List, [], ℕ, None, Some, ◌+◌, ◌-◌, ◌≤◌, ◌<◌, length, drop}
use Rattle.std.proofs.Common.{sym, ap, ◌∙◌, subst, leb-true, ltb-true, add-zero, arith, length-drop}
use Rattle.std.proofs.lemmas.Option.{none-some, same_Some, cond_some}
use Rattle.std.proofs.lemmas.Bool.{eqb-false}
use Rattle.rules.specs.Limits.{nobody, max_jobs}
use Rattle.rules.specs.Threads.{at, someone}
use Rattle.rules.specs.Records.{Frame, Ended, Cut, Whole, Record, Head, Decoded, Known, frame_of, body_of, decoded}
use Rattle.rules.specs.Records as records
use Rattle.rules.specs.Reading.{Read, with_state}
use Rattle.rules.specs.Input.{GivenReading}
use Rattle.windows.specs.Advance.{Progress, farthest, went}
use Rattle.windows.specs.Plain.{at_once, touched, jobs_after, recounted, plain_reads}
use Rattle.windows.specs.Readings.{given_reading, reading_by}
use Rattle.windows.specs.Inputs.{whole_within}
use Rattle.windows.specs.Along.{Along, along_none, along_then, along_move}
use Rattle.listing.specs.Way.{few, seen_decoded, seen_frame, seen_at, SweptTo}
use Rattle.listing.specs.Moves.{moves_plain}

-- a record that is seen is there
pub seen_within : (v : List ℕ) (e : Record) (n : ℕ) → seen_at v ≡ Some (e, n) → (0 < n) × (n ≤ length v)
unfolding seen_at
seen_within v e n s = frame (frame_of v) refl s
  where
    decode : (kind k : ℕ) → frame_of v ≡ Whole kind k → (d : Decoded) → seen_decoded k d ≡ Some (e, n) → (0 < n) × (n ≤ length v)
    decode kind k q (Known y) z = let h = whole_within v kind k q in let i = ap (λ (x : Record × ℕ). x.1) (same_Some _ _ z) in (omega (arith, h.0, i), omega (arith, h.1, i))
    decode kind k q (records.Refused m) z = absurd (none-some _ z)

    frame : (f : Frame) → frame_of v ≡ f → seen_frame v f ≡ Some (e, n) → (0 < n) × (n ≤ length v)
    frame Ended q z = absurd (none-some _ z)
    frame Cut q z = absurd (none-some _ z)
    frame (Whole kind k) q z = decode kind k q (decoded kind (body_of v k)) z

module _ (w : List ℕ) (from : ℕ) (p : Progress) where
  pub sweep_none : GivenReading p.reading → from ≤ length w → SweptTo w from p from p
  sweep_none g h = record { given = g; along = λ last out used k. along_none last w out from used p h (omega arith); takes = omega arith; within = h }

  -- on the way, a record that is seen
  module _ (to : ℕ) (q : Progress) (z : SweptTo w from p to q) (e : Record) (n : ℕ) (seen : seen_at (drop to w) ≡ Some (e, n)) where
    pub steps_on : (0 < n) × (to + n ≤ length w)
    steps_on = let h = seen_within (drop to w) e n seen in (h.0, omega (arith, h.1, length-drop to w, z.within))

    -- .. and swept
    pub sweep_more : q.done ≡ false → q.place ≤ farthest → (k j : ℕ) → touched e q.reading.state.clock.0 q.reading.state.count ≡ k → (k ≡ nobody → ⊥) → jobs_after (at q.reading.state.threads k) e q.reading.state.closed ≡ j → j ≤ max_jobs
        → SweptTo w from p (to + n) (went q n (with_state q.reading (recounted q.reading.state k j)))
    sweep_more undone near k j t some js few = record {
      given = subst (λ (y : Read). GivenReading y.reading) (plain_reads q.reading (given_reading z.given) e k j t some js few).1 (reading_by z.given e);
      along = λ last out used room.
          along_then last w (z.along last out used room)
          (subst (λ (u : ℕ). Along last w out to used q out (to + n) u (went q n (with_state q.reading (recounted q.reading.state k j)))) (add-zero used)
          (along_move last w out to used q z.within n [] (went q n (with_state q.reading (recounted q.reading.state k j)))
          (moves_plain last (length out - used) q (drop to w) undone (omega (arith, room)) near n e steps_on.0 seen z.given k j t some js few)
          (omega (arith, room))));
      takes = omega (arith, z.takes);
      within = steps_on.1;
    }

once_in : (m : records.Moment) (i t n k : ℕ) → k ≡ at_once m i t n → (k ≡ nobody → ⊥) → k < n
once_in m i t n k e f = go (eqb m.0 t) (ltb i n) refl e
  where
    go : (a b : Bool) → ltb i n ≡ b → k ≡ cond a (cond b i nobody) nobody → k < n
    go true true q h = omega (arith, h, ltb-true i n q)
    go true false q h = absurd (f h)
    go false b q h = absurd (f h)

-- a thread that is touched is one of the table's
pub touched_in : (e : Record) (t n k : ℕ) → k ≡ touched e t n → (k ≡ nobody → ⊥) → k < n
touched_in (Head q m) t n k e f = absurd (f e)
touched_in (records.Row x) t n k e f = absurd (f e)
touched_in (records.Arrival m i) t n k e f = once_in m i t n k e f
touched_in (records.Completion m i) t n k e f = absurd (f e)
touched_in (records.RunTo m) t n k e f = absurd (f e)
touched_in (records.Drop m i) t n k e f = once_in m i t n k e f

-- ---- as the code finds them
pub someone_is : (b : ℕ) {k : ℕ} → Some k ≡ someone b → (b ≡ k) × (k ≡ nobody → ⊥)
someone_is b {k} e = go (eqb b nobody) refl e
  where
    go : (t : Bool) → eqb b nobody ≡ t → Some k ≡ cond t None (Some b) → (b ≡ k) × (k ≡ nobody → ⊥)
    go true q h = absurd (none-some _ (sym h))
    go false q h = let i = same_Some _ _ h in (sym i, λ f. eqb-false b nobody q (sym i ∙ f))

pub few_is : (n : ℕ) {j : ℕ} → Some j ≡ few n → (n ≡ j) × (j ≤ max_jobs)
few_is n e = let h = cond_some (leb n max_jobs) n _ (sym e) in (h.1, subst (λ (k : ℕ). k ≤ max_jobs) h.1 (leb-true n max_jobs h.0))
