-- What holds of every progress that calls gave: its reading is a given one.
use Rattle.std.specs.Prelude.{◌≡◌, refl, Bool, ◌||◌, List, [], ◌∷◌, ◌++◌, ℕ, zero, suc, ◌-◌, ltb, leb, length, drop}
use Rattle.std.proofs.Common.{sym, ap, ◌∙◌, subst, arith, eq-eqb, ne_eqb}
use Rattle.rules.specs.Table.{Answer, Done, Refused}
use Rattle.rules.specs.Run.{state_after}
use Rattle.rules.specs.Records.{Frame, Ended, Cut, Whole, Record, Decoded, Known, frame_of, body_of, decoded}
use Rattle.rules.specs.Records as records
use Rattle.rules.specs.Reading.{Reading, ticks_due, record_read}
use Rattle.rules.specs.Input.{GivenReading}
use Rattle.promises.specs.Cases.{by_test}
use Rattle.windows.specs.Ticks.{before_end, due_events}
use Rattle.windows.specs.Advance.{Progress, longest, widest, farthest, begun, ticked, Move, stays, moves, read_move, record_move, decoded_move, frame_move, move, moved, advanced, advance, Call, advances, GivenProgress}
use Rattle.windows.specs.Readings.{given_fresh, reading_by, reading_ticks}

-- the reading after a move is a given one
abbrev Brings : Move → Type 0
Brings stays = Unit
Brings (moves n t q) = GivenReading q.reading

-- a tick that is due leaves a given reading
ticked_given : (p : Progress) → GivenReading p.reading → (e : Record) (d : ℕ) → ticks_due p.reading e ≡ suc d → GivenReading (ticked p).reading
unfolding state_after
ticked_given p g e d due = reading_ticks g 1 (due_events p.reading e d due) (omega (arith, before_end p.reading e d due))

module _ (p : Progress) (g : GivenReading p.reading) where
  read_brings : (n : ℕ) (a : Answer) (r : Reading) → GivenReading r → Brings (read_move p n a r)
  read_brings n Done r h = h
  read_brings n (Refused m) r h = g

  record_brings : (n : ℕ) (e : Record) → Brings (record_move p n e)
  record_brings n e = by (ticks_due p.reading e) refl
    where
      by : (d : ℕ) → ticks_due p.reading e ≡ d → Brings (record_move p n e)
      by zero due = rw (eq-eqb _ _ due) (read_brings n (record_read p.reading e).answer (record_read p.reading e).reading (reading_by g e))
      by (suc d) due = rw (ne_eqb (ticks_due p.reading e) 0 (λ z. omega arith)) (ticked_given p g e d due)

  decoded_brings : (n : ℕ) (d : Decoded) → Brings (decoded_move p n d)
  decoded_brings n (Known e) = record_brings n e
  decoded_brings n (records.Refused m) = g

  frame_brings : (last : Bool) (w : List ℕ) (f : Frame) → Brings (frame_move last p w f)
  frame_brings last w Ended = by_test Brings last (λ _. g) (λ _. tt)
  frame_brings last w Cut = by_test Brings (last || leb widest (length w)) (λ _. g) (λ _. tt)
  frame_brings last w (Whole kind n) = decoded_brings n (decoded kind (body_of w n))

  move_brings : (last : Bool) (room : ℕ) (w : List ℕ) → Brings (move last room p w)
  unfolding move
  move_brings last room w =
      by_test Brings p.done (λ _. tt)
      (λ _. by_test Brings (ltb room longest) (λ _. tt)
      (λ _. by_test Brings (ltb farthest p.place) (λ _. tt)
      (λ _. frame_brings last w (frame_of w))))

advanced_given : (k : ℕ) (last : Bool) (room : ℕ) (p : Progress) (w : List ℕ) → GivenReading p.reading → GivenReading (advanced k last room p w).progress.reading
unfolding advanced
advanced_given zero last room p w g = g
advanced_given (suc k) last room p w g = by (move last room p w) (move_brings p g last room w) (λ r q v h. advanced_given k last r q v h)
  where
    by : (m : Move) → Brings m
        → ((r : ℕ) (q : Progress) (v : List ℕ) → GivenReading q.reading → GivenReading (advanced k last r q v).progress.reading)
        → GivenReading (moved (λ r q v. advanced k last r q v) room p w m).progress.reading
    by stays h on = g
    by (moves n t q) h on = on (room - length t) q (drop n w) h

advances_given : (cs : List Call) (p : Progress) → GivenReading p.reading → GivenReading (advances p cs).reading
unfolding advances advance
advances_given [] p g = g
advances_given (c ∷ cs) p g = advances_given cs _ (advanced_given _ c.last c.room p c.window g)

pub given_progress : {p : Progress} → GivenProgress p → GivenReading p.reading
given_progress {p} g = subst (λ (q : Progress). GivenReading q.reading) (sym g.came) (advances_given g.calls begun given_fresh)

-- ---- calls after calls
pub given_begun : GivenProgress begun
unfolding advances
given_begun = record { calls = []; came = refl }

advances_more : (cs : List Call) (p : Progress) (c : Call) → advances p (cs ++ (c ∷ [])) ≡ (advance c.last c.room (advances p cs) c.window).progress
unfolding advances
advances_more [] p c = refl
advances_more (d ∷ cs) p c = advances_more cs (advance d.last d.room p d.window).progress c

-- a call gives a given progress
pub progress_by : {p : Progress} → GivenProgress p → (last : Bool) (room : ℕ) (w : List ℕ) → GivenProgress (advance last room p w).progress
progress_by {p} g last room w = record {
  calls = g.calls ++ (record { last = last; room = room; window = w } ∷ []);
  came = ap (λ (q : Progress). (advance last room q w).progress) g.came ∙ sym (advances_more g.calls begun (record { last = last; room = room; window = w }));
}
