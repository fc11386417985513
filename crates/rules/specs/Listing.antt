-- Document 01, "The listing": the bytes that the program writes for the bytes that it reads.
use Rattle.std.specs.Prelude.{true, false, cond, List, [], ◌∷◌, ◌++◌, ℕ, zero, suc, ◌+◌, ◌/◌, ◌%◌, ltb, ℤ, pos, negsuc, length, drop}
use Prim.Native.Char.{code}
use Prim.Native.String.{String, [] as no_text, ◌∷◌ as ◌then◌}
use Rattle.rules.specs.Threads.{State, at}
use Rattle.rules.specs.Table.{Answer, Done, Refused}
use Rattle.rules.specs.Step as tick
use Rattle.rules.specs.Step.{Outcome, Grant, Idle, ready, stepped}
use Rattle.rules.specs.Run.{state_after}
use Rattle.rules.specs.Records.{Frame, Ended, Cut, Whole, Record, Decoded, Known, frame_of, body_of, decoded}
use Rattle.rules.specs.Records as records
use Rattle.rules.specs.Reading.{Reading, fresh, at_events, ticks_due, record_read}

-- the bytes of a text of plain characters
unfoldable pub bytes : String → List ℕ
bytes no_text = []
bytes (c then s) = code c ∷ bytes s

-- the decimal digits of n, where k digits are enough
unfoldable pub digits : ℕ → ℕ → List ℕ
digits zero n = []
digits (suc k) n = elim (ltb n 10) [ true ↦ (48 + n) ∷ [] | false ↦ digits k (n / 10) ++ ((48 + n % 10) ∷ []) ]

-- a number has at most one digit more than its value
abbrev pub decimal : ℕ → List ℕ
decimal n = digits (suc n) n

abbrev pub signed : ℤ → List ℕ
signed (pos n) = decimal n
signed (negsuc n) = bytes "-" ++ decimal (suc n)

-- words with single spaces between them, and the line's end
unfoldable pub line : List (List ℕ) → List ℕ
line [] = bytes "\n"
line (w ∷ []) = w ++ bytes "\n"
line (w ∷ v ∷ ws) = w ++ (bytes " " ++ line (v ∷ ws))

-- "The heading line is always written."
unfoldable pub heading : List ℕ
heading = bytes "tick thread app deadline virtual\n"

-- "Each line: tick, thread, application, E after fitting, W after the charge; an idle tick has four dashes."
abbrev pub grant_line : ℕ → ℕ → ℕ → ℤ → ℤ → List ℕ
grant_line t j a e w = line (decimal t ∷ decimal j ∷ decimal a ∷ signed e ∷ signed w ∷ [])

abbrev pub idle_line : ℕ → List ℕ
idle_line t = line (decimal t ∷ bytes "-" ∷ bytes "-" ∷ bytes "-" ∷ bytes "-" ∷ [])

abbrev pub tick_line_as : Outcome → State → List ℕ
tick_line_as (Grant i) s =
    grant_line
    s.clock.0
    i
    (at (ready s).threads i).app
    (at (ready s).threads i).e.0
    (at (stepped s).state.threads i).w.0
tick_line_as Idle s = idle_line s.clock.0
tick_line_as (tick.Refused n) s = []

-- the line of the tick taken in the state s
unfoldable pub tick_line : State → List ℕ
tick_line s = tick_line_as (stepped s).outcome s

-- the lines of k ticks from the state s on
unfoldable pub tick_lines : ℕ → State → List ℕ
tick_lines zero s = []
tick_lines (suc k) s = tick_lines k s ++ tick_line (state_after k s)

-- "`refused N at B`, B the byte at which the record starts, or the input's length where it ends between records"
abbrev pub refusal_line : ℕ → ℕ → List ℕ
refusal_line n b = line (bytes "refused" ∷ decimal n ∷ bytes "at" ∷ decimal b ∷ [])

-- "At the end of input it writes `end` and the clock."
abbrev pub end_line : ℕ → List ℕ
end_line t = line (bytes "end" ∷ decimal t ∷ [])

-- the input ends at b, between records: the end of the listing, or 14 "before the last row (an empty input too)"
unfoldable pub ending : Reading → ℕ → List ℕ
ending r b = cond (at_events r) (end_line r.state.clock.0) (refusal_line 14 b)

-- "The program runs and lists the ticks before a record's moment, then applies it." "Ticks listed before an event that is then
-- refused 9 to 11 stay listed."
abbrev pub lines_before : Reading → Record → List ℕ
lines_before r e = tick_lines (ticks_due r e) r.state

-- how the listing goes on, from a reading, the byte that it has come to and the rest of the input
abbrev pub Rest : Type 0
Rest = Reading → ℕ → List ℕ → List ℕ

-- "It stops at the first refusal"
abbrev pub onward : Answer → Rest → Reading → ℕ → ℕ → List ℕ → List ℕ
onward Done rest r b n s = rest r (b + n) (drop n s)
onward (Refused m) rest r b n s = refusal_line m b

abbrev pub list_record : Rest → Reading → ℕ → ℕ → List ℕ → Record → List ℕ
list_record rest r b n s e = lines_before r e ++ onward (record_read r e).answer rest (record_read r e).reading b n s

abbrev pub list_decoded : Rest → Reading → ℕ → ℕ → List ℕ → Decoded → List ℕ
list_decoded rest r b n s (Known e) = list_record rest r b n s e
list_decoded rest r b n s (records.Refused m) = refusal_line m b

abbrev pub list_frame : Rest → Reading → ℕ → List ℕ → Frame → List ℕ
list_frame rest r b s Ended = ending r b
list_frame rest r b s Cut = refusal_line 14 b
list_frame rest r b s (Whole kind n) = list_decoded rest r b n s (decoded kind (body_of s n))

-- the listing from the byte b on, where the rest s of the input has at most k bytes
unfoldable pub list_from : ℕ → Rest
list_from zero r b s = ending r b
list_from (suc k) r b s = list_frame (λ r' b' s'. list_from k r' b' s') r b s (frame_of s)

-- the listing of an input
unfoldable pub listing : List ℕ → List ℕ
listing s = heading ++ list_from (length s) fresh 0 s
