-- Calls after calls of the report write the report of the whole input.
use Rattle.std.specs.Prelude.{◌≡◌, refl, Bool, true, cond, List, [], ◌++◌, ℕ, ◌+◌, ◌-◌, ◌≤◌, length, drop}
use Rattle.std.proofs.Common.{sym, ap, ◌∙◌, append-nil, append_assoc, arith}
use Rattle.rules.specs.Report.{report_heading, report_from, report}
use Rattle.text.specs.Accounts.{report_heading_length}
use Rattle.windows.specs.Feeding.{Bytes}
use Rattle.report.specs.Tallies.{roomy, begun, rest_of}
use Rattle.report.specs.Along as along
use Rattle.report.specs.Turns.{Halts}
use Rattle.shell.specs.Turns.{Turns, none, then}
use Rattle.capacity.specs.declared.Report.{Report}

-- a call with so much room writes what brings the report from the start of its window to the byte up to which it takes it
pub record Brings (last : Bool) (w : List ℕ) (room : ℕ) (p : Report) (text : List ℕ) (taken : ℕ) (q : Report) : Type 0 where
  pub goes : along.Brings last w 0 p.0 text taken q.0
  -- where nothing was taken or written, nothing was done
  pub unmoved : taken + length text ≡ 0 → q.0 ≡ p.0
  -- why it goes on no more
  pub halts : Halts last (length w - taken) (room - length text) q.0

pub heading_fits : length report_heading ≤ roomy
heading_fits = omega (arith, report_heading_length)

-- what calls wrote is how the report goes on, and what is still to be written follows it
pub all_turns : {p : Report} {s text : List ℕ} {q : Report} {left : List ℕ} → Turns Brings p s text q left → rest_of p.0 s ≡ text ++ rest_of q.0 left
all_turns none = refl
all_turns (then {text} {w = w} {more = more} {taken} {r} behind ts end within brings) =
    all_turns ts
    ∙ ap (λ (v : List ℕ). text ++ v) (brings.goes behind end)
    ∙ sym (append_assoc text more (rest_of r.0 (drop taken w ++ behind)))

-- what calls after calls write, until it is done, is the report of the whole input
pub report_tells : (input text left : List ℕ) (p : Report) → Bytes input → Turns Brings (record { 0 = begun }) input text p left → p.0.done ≡ true → report input ≡ report_heading ++ text
unfolding report
report_tells input text left p bytes ts done =
    ap (λ (v : List ℕ). report_heading ++ v)
    (all_turns ts
    ∙ ap (λ (b : Bool). text ++ cond b [] (report_from (length left) p.0.reading p.0.activities p.0.place left)) done
    ∙ append-nil text)
