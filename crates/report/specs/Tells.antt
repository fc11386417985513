-- What the parts of a call of the report bring.
use Rattle.std.specs.Prelude.{◌≡◌, refl, Bool, true, false, List, [], ◌++◌, ℕ, ◌+◌, ◌-◌, ◌≤◌, length, drop}
use Rattle.std.proofs.Common.{sym, ap, ◌∙◌, subst, append_assoc, drop-drop}
use Rattle.rules.specs.Records.{Record, Ended, Cut, Whole, frame_of, body_of, decoded}
use Rattle.rules.specs.Records as records
use Rattle.rules.specs.Refusals.{Refusal}
use Rattle.rules.specs.Listing.{refusal_line}
use Rattle.rules.specs.Report.{report_end}
use Rattle.promises.specs.Cases.{true_false}
use Rattle.windows.specs.Advance.{widest, farthest}
use Rattle.windows.specs.Feeding.{Bytes}
use Rattle.calls.specs.declared.told.Turn.{Turn}
use Rattle.calls.specs.Parts.{Open, Along, ActedOn, Refused}
use Rattle.report.specs.Tallies.{Tally, roomy, rest_of, finished, GivenTally}
use Rattle.report.specs.Along as along
use Rattle.report.specs.Windows.{ended_brings, cut_brings, wide_brings, unknown_brings}

-- from the start of the window the text and so many bytes bring the report from p to q, whatever room there is
pub record Brings (last : Bool) (v : List ℕ) (room : ℕ) (p : Tally) (text : List ℕ) (n : ℕ) (q : Tally) : Type 0 where
  pub is : along.Brings last v 0 p text n q

-- a call that can go on
abbrev pub Opens : List ℕ → List ℕ → Turn Tally → Type 0
Opens = Open roomy (λ (p : Tally). p.place) (λ (p : Tally). p.done) GivenTally

abbrev pub AlongTo : List ℕ → List ℕ → Turn Tally → List ℕ → Turn Tally → Bool → Type 0
AlongTo w out x out' y last = Along GivenTally Brings last w out x out' y

abbrev pub Acted : List ℕ → List ℕ → Turn Tally → List ℕ → Turn Tally → Type 0
Acted = ActedOn GivenTally Brings

abbrev pub Refuses : List ℕ → List ℕ → Turn Tally → List ℕ → Turn Tally → Refusal → Type 0
Refuses = Refused roomy (λ (p : Tally). p.place) (λ (p : Tally). p.done) finished GivenTally Brings

-- what holds whatever is behind the window holds of the last one too
pub brings_any : {v : List ℕ} {room k : ℕ} {p q : Tally} {t : List ℕ} (n : ℕ) → along.Brings false v 0 p t n q → n ≡ k → (last : Bool) → Brings last v room p t k q
brings_any {v} {p = p} {q} {t} n b e last = record { is = subst (λ (k : ℕ). along.Brings last v 0 p t k q) e (λ behind _. b behind (λ f. absurd (true_false (sym f)))) }

pub brings_none : (last : Bool) (v : List ℕ) (room : ℕ) (p : Tally) → Brings last v room p [] 0 p
brings_none last v room p = record { is = λ behind end. refl }

pub brings_then : (last : Bool) (v : List ℕ) (room : ℕ) (p : Tally) (t : List ℕ) (n : ℕ) (q : Tally) (u : List ℕ) (m : ℕ) (s : Tally)
    → Brings last v room p t n q → Brings last (drop n v) (room - length t) q u m s → Brings last v room p (t ++ u) (n + m) s
brings_then last v room p t n q u m s a b = record {
  is = λ behind end.
      a.is behind end
      ∙ ap (λ (y : List ℕ). t ++ y) (b.is behind end)
      ∙ sym (append_assoc t u (rest_of s (drop m (drop n v) ++ behind)))
      ∙ ap (λ (y : List ℕ). (t ++ u) ++ rest_of s (y ++ behind)) (drop-drop m n v);
}

pub brings_end : (v : List ℕ) (room : ℕ) (p : Tally) → p.done ≡ false → roomy ≤ room → p.place ≤ farthest → frame_of v ≡ Ended
    → Brings true v room p (report_end p.reading p.activities p.place) 0 (finished p)
brings_end v room p d h f e = record { is = ended_brings v 0 p d true refl e }

pub brings_cut : (last : Bool) (v : List ℕ) (room : ℕ) (p : Tally) → p.done ≡ false → roomy ≤ room → p.place ≤ farthest → frame_of v ≡ Cut → Bytes v → (last ≡ false → widest ≤ length v)
    → Brings last v room p (refusal_line 14 p.place) 0 (finished p)
brings_cut true v room p d h f e bytes wide = record { is = cut_brings v 0 p d true refl e }
brings_cut false v room p d h f e bytes wide = record { is = wide_brings v 0 p d false bytes (wide refl) e }

pub brings_unknown : (last : Bool) (v : List ℕ) (room : ℕ) (p : Tally) → p.done ≡ false → roomy ≤ room → p.place ≤ farthest → (kind n m : ℕ) → frame_of v ≡ Whole kind n → decoded kind (body_of v n) ≡ records.Refused m
    → Brings last v room p (refusal_line m p.place) 0 (finished p)
brings_unknown last v room p d h f kind n m e k = brings_any 0 (unknown_brings v 0 p d kind n e m k) refl last
