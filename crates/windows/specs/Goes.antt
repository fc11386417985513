-- Every move takes a byte or writes one, so that a call ends; and a call with room and a wide enough window goes on.
use Rattle.std.specs.Prelude.{◌≡◌, refl, Bool, true, false, cond, ◌||◌, List, [], ◌∷◌, ◌++◌, ℕ, zero, suc, ◌+◌, ◌-◌, ◌≤◌, ◌<◌, eqb, ltb, leb, length, drop}
use Rattle.std.proofs.Common.{sym, ap, ◌∙◌, subst, arith, length-drop, length-append}
use borrow.Author.Tests.{ltb-true, ltb-false, le-leb, eq-eqb, ne_eqb}
use Rattle.rules.specs.Limits.{nobody, clock_end}
use Rattle.rules.specs.Threads.{State}
use Rattle.rules.specs.Table.{Answer, Done, Refused}
use Rattle.rules.specs.Step.{Grant, Idle, Stepped, stepped}
use Rattle.rules.specs.Records.{Record, Decoded, Known, frame_of, body_of, decoded, le16}
use Rattle.rules.specs.Records as records
use Rattle.rules.specs.Reading.{Reading, at_events, ticks_due, record_read}
use Rattle.rules.specs.Listing.{bytes, decimal, line, tick_line_as, tick_line, refusal_line, ending}
use Rattle.promises.specs.Cases.{by_test, true_false}
use Rattle.promises.specs.Taken.{step_by}
use Rattle.windows.specs.Frames.{Shown, shown, none, bad, part, full}
use Rattle.windows.specs.Ticks.{before_end}
use Rattle.windows.specs.Advance.{Progress, longest, widest, farthest, finished, ticked, Move, stays, moves, stops, read_move, record_move, decoded_move, frame_move, move, still, joined, moved, advanced, advance}

-- ---- a line is never empty
pub line_some : (ws : List (List ℕ)) → 1 ≤ length (line ws)
unfolding line bytes
line_some [] = omega arith
line_some (w ∷ []) = omega (arith, length-append w (bytes "\n"))
line_some (w ∷ v ∷ ws) = omega (arith, length-append w (bytes " " ++ line (v ∷ ws)), length-append (bytes " ") (line (v ∷ ws)), line_some (v ∷ ws))

pub refusal_some : (n b : ℕ) → 1 ≤ length (refusal_line n b)
refusal_some n b = line_some (bytes "refused" ∷ decimal n ∷ bytes "at" ∷ decimal b ∷ [])

pub ending_some : (r : Reading) (b : ℕ) → 1 ≤ length (ending r b)
unfolding ending
ending_some r b = by_test (λ (t : List ℕ). 1 ≤ length t) (at_events r) (λ _. line_some _) (λ _. line_some _)

pub tick_some : (s : State) → (s.clock.0 ≡ clock_end → ⊥) → 1 ≤ length (tick_line s)
unfolding tick_line
tick_some s early = subst (λ (x : Stepped). 1 ≤ length (tick_line_as x.outcome s)) (sym (step_by s early)) (go (eqb (stepped s).state.had nobody))
  where
    go : (c : Bool) → 1 ≤ length (tick_line_as (cond c Idle (Grant (stepped s).state.had)) s)
    go true = line_some _
    go false = line_some _

-- ---- what a move leaves of room and window
abbrev pub Less : ℕ → List ℕ → Move → Type 0
Less room w stays = Unit
Less room w (moves n t q) = (n ≤ length w) × (room - length t + (length w - n) < room + length w)

module _ (room : ℕ) (roomy : longest ≤ room) (p : Progress) (w : List ℕ) where
  text_less : (t : List ℕ) (q : Progress) → 1 ≤ length t → Less room w (moves 0 t q)
  text_less t q h = (omega arith, omega arith)

  stop_less : (m : ℕ) → Less room w (stops p m)
  stop_less m = text_less (refusal_line m p.place) (finished p) (refusal_some m p.place)

  read_less : (n : ℕ) → 0 < n → n ≤ length w → (a : Answer) (r : Reading) → Less room w (read_move p n a r)
  read_less n some h Done r = (h, omega arith)
  read_less n some h (Refused m) r = stop_less m

  record_less : (n : ℕ) → 0 < n → n ≤ length w → (e : Record) → Less room w (record_move p n e)
  record_less n some h e = by (ticks_due p.reading e) refl
    where
      by : (d : ℕ) → ticks_due p.reading e ≡ d → Less room w (record_move p n e)
      by zero due = rw (eq-eqb _ _ due) (read_less n some h (record_read p.reading e).answer (record_read p.reading e).reading)
      by (suc d) due = rw (ne_eqb (ticks_due p.reading e) 0 (λ z. omega arith)) (text_less (tick_line p.reading.state) (ticked p) (tick_some p.reading.state (λ z. omega (arith, before_end p.reading e d due))))

  decoded_less : (n : ℕ) → 0 < n → n ≤ length w → (d : Decoded) → Less room w (decoded_move p n d)
  decoded_less n some h (Known e) = record_less n some h e
  decoded_less n some h (records.Refused m) = stop_less m

  frame_less : (last : Bool) → Less room w (frame_move last p w (frame_of w))
  frame_less last = by (shown w)
    where
      cut_less : Less room w (cond (last || leb widest (length w)) (stops p 14) stays)
      cut_less = by_test (Less room w) (last || leb widest (length w)) (λ _. stop_less 14) (λ _. tt)

      by : Shown w → Less room w (frame_move last p w (frame_of w))
      by (none h e) = rw e (by_test (Less room w) last (λ _. text_less (ending p.reading p.place) (finished p) (ending_some p.reading p.place)) (λ _. tt))
      by (bad two h e) = rw e cut_less
      by (part some h e) = rw e cut_less
      by (full least h e) = rw e (decoded_less (2 + le16 w 0) (omega arith) h (decoded (le16 w 2) (body_of w (2 + le16 w 0))))

pub move_less : (last : Bool) (room : ℕ) (p : Progress) (w : List ℕ) → Less room w (move last room p w)
unfolding move
move_less last room p w =
    by_test (Less room w) p.done (λ _. tt)
    (λ _. by_test (Less room w) (ltb room longest) (λ _. tt)
    (λ r. by_test (Less room w) (ltb farthest p.place) (λ _. tt)
    (λ _. frame_less room (ltb-false _ _ r) p w last)))

-- ---- more moves than there is room and window change nothing
advanced_any : (k m : ℕ) (last : Bool) (room : ℕ) (p : Progress) (w : List ℕ) → room + length w < k → room + length w < m → advanced k last room p w ≡ advanced m last room p w
unfolding advanced
advanced_any zero m last room p w h l = absurd (omega arith)
advanced_any (suc k) zero last room p w h l = absurd (omega arith)
advanced_any (suc k) (suc m) last room p w h l = by (move last room p w) (move_less last room p w) (λ r q v a b. advanced_any k m last r q v a b)
  where
    by : (x : Move) → Less room w x
        → ((r : ℕ) (q : Progress) (v : List ℕ) → r + length v < k → r + length v < m → advanced k last r q v ≡ advanced m last r q v)
        → moved (λ r q v. advanced k last r q v) room p w x ≡ moved (λ r q v. advanced m last r q v) room p w x
    by stays f on = refl
    by (moves n t q) f on = ap (joined n t) (on (room - length t) q (drop n w) (omega (arith, f.1, length-drop n w)) (omega (arith, f.1, length-drop n w)))

-- a call goes on from move to move
pub advance_moves : (last : Bool) (room : ℕ) (p : Progress) (w : List ℕ) (n : ℕ) (t : List ℕ) (q : Progress) → move last room p w ≡ moves n t q
    → advance last room p w ≡ joined n t (advance last (room - length t) q (drop n w))
unfolding advance advanced
advance_moves last room p w n t q e =
    advanced_any (room + length w + 1) (suc (room + length w + 1)) last room p w (omega arith) (omega arith)
    ∙ rw e (ap (joined n t) (advanced_any (room + length w + 1) (room - length t + length (drop n w) + 1) last (room - length t) q (drop n w) (omega (arith, less.1, length-drop n w)) (omega arith)))
  where
    less : Less room w (moves n t q)
    less = subst (Less room w) e (move_less last room p w)

-- .. until there is none
pub advance_stays : (last : Bool) (room : ℕ) (p : Progress) (w : List ℕ) → move last room p w ≡ stays → advance last room p w ≡ still p
unfolding advance advanced
advance_stays last room p w e =
    advanced_any (room + length w + 1) (suc (room + length w + 1)) last room p w (omega arith) (omega arith) ∙ rw e

-- ---- a call with room goes on, where its window is the last or wide enough, and the listing is not done
abbrev Goes : Move → Type 0
Goes stays = ⊥
Goes (moves n t q) = Unit

module _ (last : Bool) (p : Progress) (w : List ℕ) where
  read_goes : (n : ℕ) (a : Answer) (r : Reading) → Goes (read_move p n a r)
  read_goes n Done r = tt
  read_goes n (Refused m) r = tt

  decoded_goes : (n : ℕ) (d : Decoded) → Goes (decoded_move p n d)
  decoded_goes n (Known e) = by_test Goes (eqb (ticks_due p.reading e) 0) (λ _. read_goes n (record_read p.reading e).answer (record_read p.reading e).reading) (λ _. tt)
  decoded_goes n (records.Refused m) = tt

  cut_goes : (l : Bool) → (l ≡ false → widest ≤ length w) → Goes (cond (l || leb widest (length w)) (stops p 14) stays)
  cut_goes true h = tt
  cut_goes false h = rw (le-leb widest (length w) (h refl)) tt

  ended_goes : (l : Bool) → (l ≡ false → widest ≤ length w) → length w ≡ 0 → Goes (cond l (moves 0 (ending p.reading p.place) (finished p)) stays)
  ended_goes true h e = tt
  ended_goes false h e = let k = h refl in omega arith

  frame_goes : (last ≡ false → widest ≤ length w) → Goes (frame_move last p w (frame_of w))
  frame_goes h = by (shown w)
    where
      by : Shown w → Goes (frame_move last p w (frame_of w))
      by (none l e) = rw e (ended_goes last h l)
      by (bad two l e) = rw e (cut_goes last h)
      by (part some l e) = rw e (cut_goes last h)
      by (full least l e) = rw e (decoded_goes (2 + le16 w 0) (decoded (le16 w 2) (body_of w (2 + le16 w 0))))

  move_goes : (room : ℕ) → p.done ≡ false → longest ≤ room → p.place ≤ farthest → (last ≡ false → widest ≤ length w) → Goes (move last room p w)
  unfolding move
  move_goes room d h f k =
      by_test Goes p.done (λ t. absurd (true_false (sym t ∙ d)))
      (λ _. by_test Goes (ltb room longest) (λ t. absurd (omega (arith, ltb-true room longest t)))
      (λ _. by_test Goes (ltb farthest p.place) (λ t. absurd (omega (arith, ltb-true farthest p.place t)))
      (λ _. frame_goes k)))

  -- .. it takes a byte or writes one
  pub goes_on_lem : (room : ℕ) → p.done ≡ false → longest ≤ room → p.place ≤ farthest → (last ≡ false → widest ≤ length w)
      → 1 ≤ (advance last room p w).taken + length (advance last room p w).text
  goes_on_lem room d h f k = by (move last room p w) refl (move_goes room d h f k) (move_less last room p w)
    where
      by : (m : Move) → move last room p w ≡ m → Goes m → Less room w m → 1 ≤ (advance last room p w).taken + length (advance last room p w).text
      by stays e g l = absurd g
      by (moves n t q) e g l = rw (advance_moves last room p w n t q e) (omega (arith, l.1, length-append t (advance last (room - length t) q (drop n w)).text))
