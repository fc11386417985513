-- The listing in windows: what one call takes of the window that it is handed, and what it writes into the room that it is lent.
-- The listing itself is that of document 01; how much of it a call brings is said here.
use Rattle.std.specs.Prelude.{◌≡◌, Bool, true, false, cond, ◌||◌, List, [], ◌∷◌, ◌++◌, ℕ, zero, suc, ◌+◌, ◌-◌, eqb, ltb, leb, length, drop}
use Rattle.rules.specs.Table.{Answer, Done, Refused}
use Rattle.rules.specs.Step.{stepped}
use Rattle.rules.specs.Records.{Frame, Ended, Cut, Whole, Record, Decoded, Known, frame_of, body_of, decoded}
use Rattle.rules.specs.Records as records
use Rattle.rules.specs.Reading.{Reading, fresh, with_state, ticks_due, record_read}
use Rattle.rules.specs.Listing.{tick_line, refusal_line, ending}
pub use Rattle.quantities.specs.declared.Progress.{Progress}

-- no line is longer; a call that has less room left writes nothing more
abbrev pub longest : ℕ
longest = 64

-- no record is longer; a window of so many bytes has a whole record, or shows that there is none
abbrev pub widest : ℕ
widest = 65537

-- the last byte at which a record may start, so that the byte after it has a number of 64 bits
abbrev pub farthest : ℕ
farthest = 18446744073709486078

-- nothing is read, and the heading line is written
abbrev pub begun : Progress
begun = record { reading = fresh; place = 0; done = false }

-- the last line is written
abbrev pub finished : Progress → Progress
finished p = record { reading = p.reading; place = p.place; done = true }

-- a record of n bytes is read
abbrev pub went : Progress → ℕ → Reading → Progress
went p n r = record { reading = r; place = p.place + n; done = p.done }

-- a tick is taken
abbrev pub ticked : Progress → Progress
ticked p = record { reading = with_state p.reading (stepped p.reading.state).state; place = p.place; done = p.done }

-- the least that can be done: nothing, for want of input or of room; or so many bytes are taken, this text is written, and the
-- progress is this
pub data Move : Type 0 where
  stays : Move
  moves : ℕ → List ℕ → Progress → Move

-- "It stops at the first refusal with `refused N at B`"
abbrev pub stops : Progress → ℕ → Move
stops p m = moves 0 (refusal_line m p.place) (finished p)

abbrev pub read_move : Progress → ℕ → Answer → Reading → Move
read_move p n Done r = moves n [] (went p n r)
read_move p n (Refused m) r = stops p m

-- "The program runs and lists the ticks before a record's moment, then applies it."
abbrev pub record_move : Progress → ℕ → Record → Move
record_move p n e =
    cond (eqb (ticks_due p.reading e) 0) (read_move p n (record_read p.reading e).answer (record_read p.reading e).reading)
    (moves 0 (tick_line p.reading.state) (ticked p))

abbrev pub decoded_move : Progress → ℕ → Decoded → Move
decoded_move p n (Known e) = record_move p n e
decoded_move p n (records.Refused m) = stops p m

-- the window w is the last, or more of the input is to come
abbrev pub frame_move : Bool → Progress → List ℕ → Frame → Move
frame_move last p w Ended = cond last (moves 0 (ending p.reading p.place) (finished p)) stays
frame_move last p w Cut = cond (last || leb widest (length w)) (stops p 14) stays
frame_move last p w (Whole kind n) = decoded_move p n (decoded kind (body_of w n))

-- .. with so much room
unfoldable pub move : Bool → ℕ → Progress → List ℕ → Move
move last room p w = cond p.done stays (cond (ltb room longest) stays (cond (ltb farthest p.place) stays (frame_move last p w (frame_of w))))

-- what a call brings: the bytes that it takes, the text that it writes, and the progress
pub record Advanced : Type 0 where
  pub taken : ℕ
  pub text : List ℕ
  pub progress : Progress

abbrev pub still : Progress → Advanced
still p = record { taken = 0; text = []; progress = p }

-- n bytes and the text t before what a brings
abbrev pub joined : ℕ → List ℕ → Advanced → Advanced
joined n t a = record { taken = n + a.taken; text = t ++ a.text; progress = a.progress }

abbrev pub Onward : Type 0
Onward = ℕ → Progress → List ℕ → Advanced

abbrev pub moved : Onward → ℕ → Progress → List ℕ → Move → Advanced
moved on room p w stays = still p
moved on room p w (moves n t q) = joined n t (on (room - length t) q (drop n w))

-- move after move, k at most
unfoldable pub advanced : ℕ → Bool → Onward
advanced zero last room p w = still p
advanced (suc k) last room p w = moved (λ r q v. advanced k last r q v) room p w (move last room p w)

-- as long as there is a move; each takes a byte or writes one
unfoldable pub advance : Bool → ℕ → Progress → List ℕ → Advanced
advance last room p w = advanced (room + length w + 1) last room p w

-- ---- "A state passed in is one that these calls gave"
-- a call: whether its window is the last, its room, and its window
pub record Call : Type 0 where
  pub last : Bool
  pub room : ℕ
  pub window : List ℕ

-- the progress that calls give, the first call first
unfoldable pub advances : Progress → List Call → Progress
advances p [] = p
advances p (c ∷ cs) = advances (advance c.last c.room p c.window).progress cs

-- p is what some calls gave
pub record GivenProgress (p : Progress) : Type 0 where
  pub calls : List Call
  pub came : p ≡ advances begun calls
