-- Feeding an input in any windows gives the listing of the whole input.
use Rattle.std.specs.Prelude.{◌≡◌, refl, Bool, true, false, cond, ◌||◌, List, [], ◌∷◌, ◌++◌, ℕ, zero, suc, ◌+◌, ◌-◌, ◌≤◌, ◌<◌, ltb, leb, length, get_or, take, drop}
use Rattle.std.proofs.Common.{sym, ap, ◌∙◌, subst, append-nil, append_assoc, arith, leb-true, eq-eqb, ne_eqb, length-append, take-append-drop, drop_of_length-le, drop-drop, get_or-drop}
use Rattle.std.proofs.Math.ListN.{length-drop}
use Rattle.std.proofs.lemmas.List.{drop-append-le}
use Rattle.rules.specs.Table.{Answer, Done, Refused}
use Rattle.rules.specs.Threads.{State}
use Rattle.rules.specs.Step.{stepped}
use Rattle.rules.specs.Records.{Record, Decoded, Known, Whole, frame_of, body_of, decoded, le16}
use Rattle.rules.specs.Records as records
use Rattle.rules.specs.Reading.{Reading, ticks_due, record_read}
use Rattle.rules.specs.Listing.{tick_line, tick_lines, refusal_line, ending, heading, onward, lines_before, list_frame, list_from, listing}
use Rattle.promises.specs.Cases.{by_test}
use Rattle.windows.specs.Frames.{Shown, shown, none, bad, part, full, ended, grows_bad, grows_full, grows_body}
use Rattle.windows.specs.Ticks.{lines_first, due_after, onward_after}
use Rattle.windows.specs.Fuel.{list_any, list_open}
use Rattle.windows.specs.Advance.{Progress, longest, widest, farthest, begun, finished, ticked, Move, stays, moves, stops, read_move, record_move, decoded_move, frame_move, move, Advanced, moved, advanced, advance}

-- what is still to be written, from a progress and the rest of the input
abbrev pub rest : Progress → List ℕ → List ℕ
rest p s = cond p.done [] (list_from (length s) p.reading p.place s)

-- s is made of bytes
abbrev pub Bytes : List ℕ → Type 0
Bytes s = (i : ℕ) → get_or s i 0 < 256

pub take_bytes : (m : ℕ) (s : List ℕ) → Bytes s → Bytes (take m s)
take_bytes zero s b i = omega arith
take_bytes (suc m) [] b i = omega arith
take_bytes (suc m) (x ∷ s) b zero = b 0
take_bytes (suc m) (x ∷ s) b (suc i) = take_bytes m s (λ j. b (suc j)) i

pub drop_bytes : (m : ℕ) (s : List ℕ) → Bytes s → Bytes (drop m s)
drop_bytes m s b i = subst (λ (x : ℕ). x < 256) (sym (get_or-drop m s i 0)) (b (m + i))

-- the move keeps to the listing of the input s, of which w is a window
abbrev pub Kept : Progress → List ℕ → List ℕ → Move → Type 0
Kept p w s stays = Unit
Kept p w s (moves n t q) = (n ≤ length w) × (rest p s ≡ t ++ rest q (drop n s))

-- ---- one move of a listing that is not done
module _ (p : Progress) (on-going : p.done ≡ false) (w s : List ℕ) where
  opened : rest p s ≡ list_frame (list_from (length s)) p.reading p.place s (frame_of s)
  opened = rw on-going (list_open p.reading p.place s)

  -- the last line
  last_line : (t : List ℕ) → rest p s ≡ t → Kept p w s (moves 0 t (finished p))
  last_line t e = (omega arith, e ∙ sym (append-nil t))

  -- a whole record stands at the start of the input
  module _ (kind n : ℕ) (some : 0 < n) (within : n ≤ length w) (longer : n ≤ length s) (frame : frame_of s ≡ Whole kind n) where
    -- a record that is not known
    refused_kept : (m : ℕ) → decoded kind (body_of s n) ≡ records.Refused m → Kept p w s (stops p m)
    refused_kept m d = last_line (refusal_line m p.place) (opened ∙ rw (frame, d))

    module _ (e : Record) (known : decoded kind (body_of s n) ≡ Known e) where
      -- what is written after the ticks before it
      abbrev then_on : Progress → List ℕ
      then_on q = onward (record_read q.reading e).answer (list_from (length s)) (record_read q.reading e).reading q.place n s

      known_rest : (q : Progress) → q.done ≡ false → rest q s ≡ lines_before q.reading e ++ then_on q
      known_rest q o = rw o (list_open q.reading q.place s ∙ rw (frame, known))

      -- no tick is due
      read_kept : ticks_due p.reading e ≡ 0 → (a : Answer) (r : Reading) → (record_read p.reading e).answer ≡ a
          → (record_read p.reading e).reading ≡ r → Kept p w s (read_move p n a r)
      unfolding tick_lines
      read_kept zero-due Done r ea er = (within, known_rest p on-going ∙ rw (zero-due, ea, er) (rw on-going (list_any (length s) (length (drop n s)) r (p.place + n) (drop n s) (omega (arith, length-drop n s)) (omega arith))))
      read_kept zero-due (Refused m) r ea er = last_line (refusal_line m p.place) (known_rest p on-going ∙ rw (zero-due, ea))

      -- a tick is due
      tick_kept : (d : ℕ) → ticks_due p.reading e ≡ suc d → Kept p w s (moves 0 (tick_line p.reading.state) (ticked p))
      tick_kept d due = (omega arith, known_rest p on-going ∙ before ∙ ap (λ (t : List ℕ). tick_line x ++ t) (sym (known_rest (ticked p) on-going ∙ after)))
        where
          x : State
          x = p.reading.state

          z : State
          z = (stepped x).state

          before : lines_before p.reading e ++ then_on p ≡ tick_line x ++ (tick_lines d z ++ then_on p)
          before =
              ap (λ (k : ℕ). tick_lines k x ++ then_on p) due
              ∙ ap (λ (t : List ℕ). t ++ then_on p) (lines_first d x)
              ∙ append_assoc (tick_line x) (tick_lines d z) (then_on p)

          after : lines_before (ticked p).reading e ++ then_on (ticked p) ≡ tick_lines d z ++ then_on p
          after =
              ap (λ (k : ℕ). tick_lines k z ++ then_on (ticked p)) (due_after p.reading e d due)
              ∙ ap (λ (t : List ℕ). tick_lines d z ++ t) (onward_after p.reading e d due (list_from (length s)) p.place n s)

      known_kept : Kept p w s (record_move p n e)
      known_kept = by (ticks_due p.reading e) refl
        where
          by : (d : ℕ) → ticks_due p.reading e ≡ d → Kept p w s (record_move p n e)
          by zero due = rw (eq-eqb _ _ due) (read_kept due (record_read p.reading e).answer (record_read p.reading e).reading refl refl)
          by (suc d) due = rw (ne_eqb (ticks_due p.reading e) 0 (λ z. omega arith)) (tick_kept d due)

    whole_kept : Kept p w s (decoded_move p n (decoded kind (body_of s n)))
    whole_kept = by (decoded kind (body_of s n)) refl
      where
        by : (d : Decoded) → decoded kind (body_of s n) ≡ d → Kept p w s (decoded_move p n d)
        by (Known e) k = known_kept e k
        by (records.Refused m) k = refused_kept m k

-- ---- a move in a window, with more of the input behind it unless it is the last
module _ (last : Bool) (p : Progress) (w tail : List ℕ) (end : last ≡ true → tail ≡ []) (bytes : Bytes w) where
  all_of_it : last ≡ true → w ++ tail ≡ w
  all_of_it l = ap (λ (v : List ℕ). w ++ v) (end l) ∙ append-nil w

  -- no length is larger
  length_max : le16 w 0 < 65536
  length_max = let a = bytes 0 in let b = bytes 1 in omega arith

  ended_kept : p.done ≡ false → length w ≡ 0 → (l : Bool) → last ≡ l → Kept p w (w ++ tail) (cond l (moves 0 (ending p.reading p.place) (finished p)) stays)
  ended_kept o h false l = tt
  ended_kept o h true l = last_line p o w (w ++ tail) (ending p.reading p.place) (opened p o w (w ++ tail) ∙ rw (all_of_it l, ended w h))

  -- where the window shows that no record can come, or the input ends
  cut_kept : p.done ≡ false → ((last ≡ true) → frame_of (w ++ tail) ≡ records.Cut) → (widest ≤ length w → frame_of (w ++ tail) ≡ records.Cut)
      → (l : Bool) → last ≡ l → Kept p w (w ++ tail) (cond (l || leb widest (length w)) (stops p 14) stays)
  cut_kept o f g true l = last_line p o w (w ++ tail) (refusal_line 14 p.place) (opened p o w (w ++ tail) ∙ rw (f l))
  cut_kept o f g false l = by_test (λ (m : Move). Kept p w (w ++ tail) m) (leb widest (length w)) (λ h. last_line p o w (w ++ tail) (refusal_line 14 p.place) (opened p o w (w ++ tail) ∙ rw (g (leb-true _ _ h)))) (λ _. tt)

  frame_kept : p.done ≡ false → Kept p w (w ++ tail) (frame_move last p w (frame_of w))
  frame_kept o = by (shown w)
    where
      by : Shown w → Kept p w (w ++ tail) (frame_move last p w (frame_of w))
      by (none h e) = rw e (ended_kept o h last refl)
      by (bad two h e) = rw e (cut_kept o (λ _. grows_bad w tail two h) (λ _. grows_bad w tail two h) last refl)
      by (part some h e) = rw e (cut_kept o (λ l. ap frame_of (all_of_it l) ∙ e) (λ k. absurd (let m = length_max in let j = h (omega arith) in omega arith)) last refl)
      by (full least h e) =
          rw (e, ← grows_body w tail (2 + le16 w 0) (omega arith) h)
          (whole_kept p o w (w ++ tail) (le16 w 2) (2 + le16 w 0) (omega arith) h (omega (arith, h, length-append w tail)) (grows_full w tail least h))

  move_kept : (room : ℕ) → Kept p w (w ++ tail) (move last room p w)
  unfolding move
  move_kept room =
      by_test (λ (m : Move). Kept p w (w ++ tail) m) p.done (λ _. tt)
      (λ o. by_test (λ (m : Move). Kept p w (w ++ tail) m) (ltb room longest) (λ _. tt)
      (λ _. by_test (λ (m : Move). Kept p w (w ++ tail) m) (ltb farthest p.place) (λ _. tt)
      (λ _. frame_kept o)))

-- ---- a call
-- what it brings keeps to the listing of the input s, of which w is a window
abbrev Brought : Progress → List ℕ → List ℕ → Advanced → Type 0
Brought p w s a = (a.taken ≤ length w) × (rest p s ≡ a.text ++ rest a.progress (drop a.taken s))

advanced_kept : (k : ℕ) (last : Bool) (room : ℕ) (p : Progress) (w tail : List ℕ) → (last ≡ true → tail ≡ []) → Bytes w → Brought p w (w ++ tail) (advanced k last room p w)
unfolding advanced
advanced_kept zero last room p w tail end bytes = (omega arith, refl)
advanced_kept (suc k) last room p w tail end bytes = by (move last room p w) (move_kept last p w tail end bytes room) (λ r q v e. advanced_kept k last r q v tail end e)
  where
    bring : Move → Advanced
    bring m = moved (λ r q v. advanced k last r q v) room p w m

    Before : Type 0
    Before = (r : ℕ) (q : Progress) (v : List ℕ) → Bytes v → Brought q v (v ++ tail) (advanced k last r q v)

    by : (m : Move) → Kept p w (w ++ tail) m → Before → Brought p w (w ++ tail) (bring m)
    by stays h before = (omega arith, refl)
    by (moves n t q) h before =
        let a = advanced k last (room - length t) q (drop n w) in
        let i = before (room - length t) q (drop n w) (drop_bytes n w bytes) in (
          omega (arith, h.0, i.0, length-drop n w),
          h.1
              ∙ ap (λ (v : List ℕ). t ++ rest q v) (drop-append-le n w tail h.0)
              ∙ ap (λ (v : List ℕ). t ++ v) i.1
              ∙ sym (append_assoc t a.text (rest a.progress (drop a.taken (drop n w ++ tail))))
              ∙ ap (λ (v : List ℕ). (t ++ a.text) ++ rest a.progress (drop a.taken v)) (sym (drop-append-le n w tail h.0))
              ∙ ap (λ (v : List ℕ). (t ++ a.text) ++ rest a.progress v) (drop-drop a.taken n (w ++ tail)),
        )

-- ---- calls after calls
-- a call is handed the first `size` bytes of what is left of the input
pub record Feed : Type 0 where
  pub last : Bool
  pub size : ℕ
  pub room : ℕ

abbrev pub turn : Progress → List ℕ → Feed → Advanced
turn p s f = advance f.last f.room p (take f.size s)

-- what calls write, what they leave of the input, and the progress after them
unfoldable pub written : Progress → List ℕ → List Feed → List ℕ
written p s [] = []
written p s (f ∷ fs) = (turn p s f).text ++ written (turn p s f).progress (drop (turn p s f).taken s) fs

unfoldable pub leaves : Progress → List ℕ → List Feed → List ℕ
leaves p s [] = s
leaves p s (f ∷ fs) = leaves (turn p s f).progress (drop (turn p s f).taken s) fs

unfoldable pub comes_to : Progress → List ℕ → List Feed → Progress
comes_to p s [] = p
comes_to p s (f ∷ fs) = comes_to (turn p s f).progress (drop (turn p s f).taken s) fs

-- only a window with all that is left of the input is called the last
unfoldable pub Honest : Progress → List ℕ → List Feed → Type 0
Honest p s [] = Unit
Honest p s (f ∷ fs) = (f.last ≡ true → length s ≤ f.size) × Honest (turn p s f).progress (drop (turn p s f).taken s) fs

-- what was written is how the rest of the listing begins, and what is still to be written is how it goes on
feeding : (fs : List Feed) (p : Progress) (s : List ℕ) → Bytes s → Honest p s fs → rest p s ≡ written p s fs ++ rest (comes_to p s fs) (leaves p s fs)
unfolding written leaves comes_to Honest advance
feeding [] p s bytes h = refl
feeding (f ∷ fs) p s bytes h =
    let a = turn p s f in
    let w = take f.size s in
    let k = advanced_kept (f.room + length w + 1) f.last f.room p w (drop f.size s) (λ l. drop_of_length-le s (h.0 l)) (take_bytes f.size s bytes) in
    ap (rest p) (sym (take-append-drop f.size s))
    ∙ k.1
    ∙ ap (λ (v : List ℕ). a.text ++ rest a.progress (drop a.taken v)) (take-append-drop f.size s)
    ∙ ap (λ (v : List ℕ). a.text ++ v) (feeding fs a.progress (drop a.taken s) (drop_bytes a.taken s bytes) h.1)
    ∙ sym (append_assoc a.text (written a.progress (drop a.taken s) fs) (rest (comes_to a.progress (drop a.taken s) fs) (leaves a.progress (drop a.taken s) fs)))

-- the heading line, and then what any calls write until the listing is done, is the listing of the whole input
pub any_windows : (s : List ℕ) (fs : List Feed) → Bytes s → Honest begun s fs → (comes_to begun s fs).done ≡ true → listing s ≡ heading ++ written begun s fs
unfolding listing
any_windows s fs bytes h done =
    ap (λ (t : List ℕ). heading ++ t)
    (feeding fs begun s bytes h
    ∙ ap (λ (b : Bool). written begun s fs ++ cond b [] (list_from (length (leaves begun s fs)) (comes_to begun s fs).reading (comes_to begun s fs).place (leaves begun s fs))) done
    ∙ append-nil (written begun s fs))
