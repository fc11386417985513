-- Which move a call makes, by what the code has found.
use Rattle.std.specs.Prelude.{◌≡◌, Bool, true, false, List, [], ℕ, Some, suc, ◌≤◌, ◌<◌}
use Rattle.std.proofs.Math.Path.{refl, ap}
use Rattle.std.proofs.Common.{◌∙◌}
use native.Mathlib.Omega.{arith}
use borrow.Author.Tests.{eq-eqb, ne_eqb, lt-ltb, le-ltb, le-leb, lt-leb}
use Rattle.std.proofs.Math.ListN.{length}
use Rattle.std.proofs.lemmas.Option.{none-some, same_Some}
use Rattle.rules.specs.Limits.{nobody, max_jobs}
use Rattle.rules.specs.Threads.{at}
use Rattle.rules.specs.Table.{Answer, Done}
use Rattle.rules.specs.Records.{Frame, Ended, Cut, Whole, Record, Decoded, Known, frame_of, body_of, decoded}
use Rattle.rules.specs.Records as records
use Rattle.rules.specs.Reading.{Reading, with_state, ticks_due, record_read}
use Rattle.rules.specs.Input.{GivenReading}
use Rattle.rules.specs.Listing.{tick_line, ending}
use Rattle.windows.specs.Advance.{Progress, longest, widest, farthest, finished, went, ticked, stays, moves, stops, read_move, record_move, decoded_move, frame_move, move}
use Rattle.windows.specs.Plain.{touched, jobs_after, recounted, plain_reads}
use Rattle.windows.specs.Readings.{given_reading}
use Rattle.listing.specs.Way.{seen_decoded, seen_frame, seen_at}

module _ (last : Bool) (room : ℕ) (p : Progress) (w : List ℕ) where
  -- ---- no move
  pub stays_done : p.done ≡ true → move last room p w ≡ stays
  unfolding move
  stays_done d = rw d

  pub stays_full : p.done ≡ false → room < longest → move last room p w ≡ stays
  unfolding move
  stays_full d h = rw (d, lt-ltb _ _ h)

  pub stays_far : p.done ≡ false → longest ≤ room → farthest < p.place → move last room p w ≡ stays
  unfolding move
  stays_far d h f = rw (d, le-ltb _ _ h, lt-ltb _ _ f)

  -- ---- a move, by the frame
  module _ (d : p.done ≡ false) (h : longest ≤ room) (f : p.place ≤ farthest) where
    by_frame : move last room p w ≡ frame_move last p w (frame_of w)
    unfolding move
    by_frame = rw (d, le-ltb _ _ h, le-ltb _ _ f)

    pub stays_ended : frame_of w ≡ Ended → last ≡ false → move last room p w ≡ stays
    stays_ended e l = by_frame ∙ rw (e, l)

    pub moves_ended : frame_of w ≡ Ended → last ≡ true → move last room p w ≡ moves 0 (ending p.reading p.place) (finished p)
    moves_ended e l = by_frame ∙ rw (e, l)

    pub stays_cut : frame_of w ≡ Cut → last ≡ false → length w < widest → move last room p w ≡ stays
    stays_cut e l k = by_frame ∙ rw (e, l, lt-leb widest (length w) k)

    pub moves_cut : frame_of w ≡ Cut → last ≡ true → move last room p w ≡ stops p 14
    moves_cut e l = by_frame ∙ rw (e, l)

    pub moves_wide : frame_of w ≡ Cut → last ≡ false → widest ≤ length w → move last room p w ≡ stops p 14
    moves_wide e l k = by_frame ∙ rw (e, l, le-leb widest (length w) k)

    pub moves_refused : (kind n m : ℕ) → frame_of w ≡ Whole kind n → decoded kind (body_of w n) ≡ records.Refused m → move last room p w ≡ stops p m
    moves_refused kind n m e k = by_frame ∙ rw (e, k)

    -- a record that is seen
    pub moves_seen : (n : ℕ) (e : Record) → 0 < n → seen_at w ≡ Some (e, n) → move last room p w ≡ record_move p n e
    unfolding seen_at
    moves_seen n e some s = by_frame ∙ frame (frame_of w) refl s
      where
        decode : (k : ℕ) (x : Decoded) → seen_decoded k x ≡ Some (e, n) → decoded_move p k x ≡ record_move p n e
        decode k (Known y) z = ap (λ (v : Record × ℕ). record_move p v.1 v.0) (same_Some _ _ z)
        decode k (records.Refused m) z = absurd (none-some _ z)

        frame : (x : Frame) → frame_of w ≡ x → seen_frame w x ≡ Some (e, n) → frame_move last p w x ≡ record_move p n e
        frame Ended q z = absurd (none-some _ z)
        frame Cut q z = absurd (none-some _ z)
        frame (Whole kind k) q z = decode k (decoded kind (body_of w k)) z

    -- ---- a record for which no tick is due
    module _ (n : ℕ) (e : Record) (some : 0 < n) (seen : seen_at w ≡ Some (e, n)) where
      pub moves_read : ticks_due p.reading e ≡ 0 → (a : Answer) (r : Reading) → record_read p.reading e ≡ record { answer = a; reading = r } → move last room p w ≡ read_move p n a r
      moves_read due a r x = moves_seen n e some seen ∙ rw (eq-eqb _ _ due, x)

      -- .. or for which one is
      pub moves_tick : (d : ℕ) → ticks_due p.reading e ≡ suc d → move last room p w ≡ moves 0 (tick_line p.reading.state) (ticked p)
      moves_tick d due = moves_seen n e some seen ∙ rw (ne_eqb (ticks_due p.reading e) 0 (λ z. omega arith))

      -- a record that changes the jobs of one thread alone
      pub moves_plain : GivenReading p.reading → (k j : ℕ) → touched e p.reading.state.clock.0 p.reading.state.count ≡ k → (k ≡ nobody → ⊥) → jobs_after (at p.reading.state.threads k) e p.reading.state.closed ≡ j → j ≤ max_jobs → move last room p w ≡ moves n [] (went p n (with_state p.reading (recounted p.reading.state k j)))
      moves_plain g k j t s js few =
          let x = plain_reads p.reading (given_reading g) e k j t s js few in
          moves_read x.0 Done (with_state p.reading (recounted p.reading.state k j)) x.1
