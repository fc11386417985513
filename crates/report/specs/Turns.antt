-- What a call promises, and what calls after calls write: any windows of an input give its report.
use Rattle.std.specs.Prelude.{◌≡◌, refl, Bool, true, false, cond, List, [], ◌++◌, ℕ, ◌+◌, ◌-◌, ◌≤◌, ◌<◌, length, drop}
use Rattle.std.proofs.Common.{sym, ap, ◌∙◌, subst, append-nil, append_assoc, arith}
use Rattle.std.proofs.lemmas.List.Edits.{sets}
use Rattle.rules.specs.Report.{report_heading, report_from, report}
use Rattle.promises.specs.Cases.{true_false}
use Rattle.windows.specs.Advance.{widest, farthest}
use Rattle.report.specs.Tallies.{Tally, TallyTurn, roomy, begun, rest_of, GivenTally}
use Rattle.report.specs.Along.{Brings}

-- why a call goes on no more: the report is done; there is little room left; the next record would start too far behind; or more of
-- the input is wanted, which is to come
pub data Halts (last : Bool) (left room : ℕ) (q : Tally) : Type 0 where
  is_done : q.done ≡ true → Halts last left room q
  is_full : room < roomy → Halts last left room q
  is_far : farthest < q.place → Halts last left room q
  wants : last ≡ false → left < widest → Halts last left room q

-- a call with the window w and the output out, from the tally p
pub record Went (last : Bool) (w out : List ℕ) (p : Tally) (out' : List ℕ) (t : TallyTurn) : Type 0 where
  -- what it wrote
  pub text : List ℕ
  pub stored : out' ≡ sets out 0 text
  pub writes : t.written ≡ length text
  pub fits : t.written ≤ length out
  pub within : t.taken ≤ length w
  -- what was to be written is that and what is still to be written
  pub brings : Brings last w 0 p text t.taken t.tally
  pub given : GivenTally t.tally
  -- where nothing was taken or written, nothing was done
  pub unmoved : t.taken + t.written ≡ 0 → t.tally ≡ p
  pub halts : Halts last (length w - t.taken) (length out - t.written) t.tally

-- a call with enough room that neither takes nor writes wants more of the input, which is to come
pub still_wants : {last : Bool} {w out : List ℕ} {p : Tally} {out' : List ℕ} {t : TallyTurn} → Went last w out p out' t → t.taken + t.written ≡ 0 → roomy ≤ length out → p.done ≡ false → p.place ≤ farthest → (last ≡ false) × (length w < widest)
still_wants {last} {w} {out} {p} {t = t} c none room undone near = by (subst (λ (q : Tally). Halts last (length w - t.taken) (length out - t.written) q) (c.unmoved none) c.halts)
  where
    by : Halts last (length w - t.taken) (length out - t.written) p → (last ≡ false) × (length w < widest)
    by (is_done e) = absurd (true_false (sym e ∙ undone))
    by (is_full h) = absurd (omega arith)
    by (is_far h) = absurd (omega arith)
    by (wants e h) = (e, omega arith)

-- calls one after the other, of which each is handed what is left of the input, or a first part of that: from the tally p and the
-- input s they write the text, and come to the tally q with `left` of the input
pub data Turns : Tally → List ℕ → List ℕ → Tally → List ℕ → Type 0 where
  none : {p : Tally} {s : List ℕ} → Turns p s [] p s
  then : {last : Bool} {w out out' : List ℕ} {p : Tally} {t : TallyTurn} (behind : List ℕ) (c : Went last w out p out' t) {text : List ℕ} {q : Tally} {left : List ℕ}
      → (last ≡ true → behind ≡ []) → Turns t.tally (drop t.taken w ++ behind) text q left → Turns p (w ++ behind) (c.text ++ text) q left

-- what they wrote is how the report goes on, and what is still to be written follows it
pub all_turns : {p : Tally} {s text : List ℕ} {q : Tally} {left : List ℕ} → Turns p s text q left → rest_of p s ≡ text ++ rest_of q left
all_turns none = refl
all_turns (then behind c {text} {q} {left} end ts) =
    c.brings behind end
    ∙ ap (λ (v : List ℕ). c.text ++ v) (all_turns ts)
    ∙ sym (append_assoc c.text text (rest_of q left))

-- the heading line, and then what any calls write until the report is done, is the report of the whole input
pub any_turns : {s text : List ℕ} {q : Tally} {left : List ℕ} → Turns begun s text q left → q.done ≡ true → report s ≡ report_heading ++ text
unfolding report
any_turns {s} {text} {q} {left} ts done =
    ap (λ (v : List ℕ). report_heading ++ v)
    (all_turns ts
    ∙ ap (λ (b : Bool). text ++ cond b [] (report_from (length left) q.reading q.activities q.place left)) done
    ∙ append-nil text)
