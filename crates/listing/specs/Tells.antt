-- What the parts of a call of the listing bring.
use Rattle.std.specs.Prelude.{◌≡◌, refl, Bool, true, false, List, [], ◌++◌, ℕ, ◌+◌, ◌-◌, ◌≤◌, length, drop}
use Rattle.std.proofs.Common.{sym, ap, ◌∙◌, append_assoc, arith, length-append, drop-drop}
use Rattle.rules.specs.Records.{Ended, Cut, Whole, frame_of, body_of, decoded}
use Rattle.rules.specs.Records as records
use Rattle.rules.specs.Input.{GivenReading}
use Rattle.rules.specs.Listing.{refusal_line, ending}
use Rattle.windows.specs.Advance.{longest, widest, farthest, finished, stops, move, Advanced, joined, advance}
use Rattle.windows.specs.Along as windows
use Rattle.windows.specs.Feeding.{Bytes}
use Rattle.windows.specs.Goes.{advance_moves}
use Rattle.calls.specs.declared.told.Turn.{Turn}
use Rattle.calls.specs.Parts.{Open, Along, ActedOn}
use Rattle.listing.specs.declared.Listing.{Listing}
use Rattle.listing.specs.Moves.{moves_ended, moves_cut, moves_wide, moves_refused}

-- a call from p writes the text, takes so many bytes, and is then a call from q
abbrev pub Brings : Bool → List ℕ → ℕ → Listing → List ℕ → ℕ → Listing → Type 0
Brings last v room p text n q = advance last room p.0 v ≡ joined n text (advance last (room - length text) q.0 (drop n v))

abbrev pub Given : Listing → Type 0
Given p = GivenReading p.0.reading

-- a call that can make a move
abbrev pub Opens : List ℕ → List ℕ → Turn Listing → Type 0
Opens = Open longest (λ (p : Listing). p.0.place) (λ (p : Listing). p.0.done) Given

abbrev pub AlongTo : Bool → List ℕ → List ℕ → Turn Listing → List ℕ → Turn Listing → Type 0
AlongTo = Along Given Brings

abbrev pub Acted : List ℕ → List ℕ → Turn Listing → List ℕ → Turn Listing → Type 0
Acted = ActedOn Given Brings

pub brings_none : (last : Bool) (v : List ℕ) (room : ℕ) (p : Listing) → Brings last v room p [] 0 p
brings_none last v room p =
    ap (λ (k : ℕ). advance last k p.0 v) (omega arith)
    ∙ ap (λ (k : ℕ). record { taken = k; text = (advance last (room - 0) p.0 v).text; progress = (advance last (room - 0) p.0 v).progress }) (omega arith)

pub brings_then : (last : Bool) (v : List ℕ) (room : ℕ) (p : Listing) (t : List ℕ) (n : ℕ) (q : Listing) (u : List ℕ) (m : ℕ) (s : Listing)
    → Brings last v room p t n q → Brings last (drop n v) (room - length t) q u m s → Brings last v room p (t ++ u) (n + m) s
brings_then last v room p t n q u m s a b =
    a
    ∙ ap (joined n t) b
    ∙ ap (λ (k : ℕ). record { taken = k; text = t ++ (u ++ x.text); progress = x.progress }) (omega arith)
    ∙ ap (λ (y : List ℕ). record { taken = n + m + x.taken; text = y; progress = x.progress }) (sym (append_assoc t u x.text))
    ∙ ap (λ (k : ℕ). joined (n + m) (t ++ u) (advance last k s.0 (drop m (drop n v)))) (omega (arith, length-append t u))
    ∙ ap (λ (y : List ℕ). joined (n + m) (t ++ u) (advance last (room - length (t ++ u)) s.0 y)) (drop-drop m n v)
  where
    x : Advanced
    x = advance last (room - length t - length u) s.0 (drop m (drop n v))

module _ (v : List ℕ) (room : ℕ) (p : Listing) (d : p.0.done ≡ false) (h : longest ≤ room) (f : p.0.place ≤ farthest) where
  pub ended_brings : frame_of v ≡ Ended → Brings true v room p (ending p.0.reading p.0.place) 0 (record { 0 = finished p.0 })
  ended_brings e = advance_moves true room p.0 v 0 (ending p.0.reading p.0.place) (finished p.0) (moves_ended true room p.0 v d h f e refl)

  pub stops_brings : (last : Bool) (m : ℕ) → move last room p.0 v ≡ stops p.0 m → Brings last v room p (refusal_line m p.0.place) 0 (record { 0 = finished p.0 })
  stops_brings last m e = advance_moves last room p.0 v 0 (refusal_line m p.0.place) (finished p.0) e

  cut_brings : (last : Bool) → frame_of v ≡ Cut → (last ≡ false → widest ≤ length v) → Brings last v room p (refusal_line 14 p.0.place) 0 (record { 0 = finished p.0 })
  cut_brings true e wide = stops_brings true 14 (moves_cut true room p.0 v d h f e refl)
  cut_brings false e wide = stops_brings false 14 (moves_wide false room p.0 v d h f e refl (wide refl))

pub brings_end : (v : List ℕ) (room : ℕ) (p : Listing) → p.0.done ≡ false → longest ≤ room → p.0.place ≤ farthest → frame_of v ≡ Ended
    → Brings true v room p (ending p.0.reading p.0.place) 0 (record { 0 = finished p.0 })
brings_end v room p d h f e = ended_brings v room p d h f e

pub brings_cut : (last : Bool) (v : List ℕ) (room : ℕ) (p : Listing) → p.0.done ≡ false → longest ≤ room → p.0.place ≤ farthest → frame_of v ≡ Cut → Bytes v → (last ≡ false → widest ≤ length v)
    → Brings last v room p (refusal_line 14 p.0.place) 0 (record { 0 = finished p.0 })
brings_cut last v room p d h f e bytes wide = cut_brings v room p d h f last e wide

pub brings_unknown : (last : Bool) (v : List ℕ) (room : ℕ) (p : Listing) → p.0.done ≡ false → longest ≤ room → p.0.place ≤ farthest → (kind n m : ℕ) → frame_of v ≡ Whole kind n → decoded kind (body_of v n) ≡ records.Refused m
    → Brings last v room p (refusal_line m p.0.place) 0 (record { 0 = finished p.0 })
brings_unknown last v room p d h f kind n m e k = stops_brings v room p d h f last m (moves_refused last room p.0 v d h f kind n m e k)

-- a call that is along is along
pub along_turn : {last : Bool} {w out : List ℕ} {x : Turn Listing} {out' : List ℕ} {y : Turn Listing} → GivenReading y.progress.0.reading → windows.Along last w out x.taken x.written x.progress.0 out' y.taken y.written y.progress.0 → AlongTo last w out x out' y
along_turn {last} {w} {out} {x} {out'} {y} g a = record {
  given = g;
  text = a.text;
  stored = a.stored;
  writes = a.writes;
  takes = a.takes;
  within = a.within;
  fits = a.room;
  brings =
      a.goes
      ∙ ap (λ (k : ℕ). joined (y.taken - x.taken) a.text (advance last k y.progress.0 (drop y.taken w))) (omega (arith, a.writes))
      ∙ ap (λ (v : List ℕ). joined (y.taken - x.taken) a.text (advance last (length out - x.written - length a.text) y.progress.0 v)) rest;
}
  where
    rest : drop y.taken w ≡ drop (y.taken - x.taken) (drop x.taken w)
    rest = ap (λ (n : ℕ). drop n w) (omega (arith, a.takes)) ∙ sym (drop-drop (y.taken - x.taken) x.taken w)
