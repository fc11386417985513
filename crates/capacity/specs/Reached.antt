-- Where the program's turns bring the report: it is fed all that was read, in order and nothing twice.
use Rattle.std.specs.Prelude.{◌≡◌, refl, Bool, true, cond, List, [], ◌++◌, ℕ, length}
use Rattle.std.proofs.Common.{sym, ap, ◌∙◌, append-nil}
use Rattle.rules.specs.Report.{report_heading, report_from, report}
use Rattle.report.specs.Tallies.{begun, rest_of}
use Rattle.shell.specs.declared.Shell.{Shell}
use Rattle.shell.specs.Reached as shell
use Rattle.capacity.specs.declared.Report.{Report}
use Rattle.capacity.specs.contracts.ReportTelling.TheImpl.{ghosts}
use Rattle.capacity.specs.Calls.{all_turns}

-- where the report has come to
pub record Reached (s : Shell Report) : Type 0 where
  -- what was read, from the first byte on; what the calls wrote; and what they left of the input
  pub input : List ℕ
  pub text : List ℕ
  pub left : List ℕ
  -- whatever is still to come of the input, that text and what is still to be written are its report; nothing comes behind the end
  pub goes : (behind : List ℕ) → (s.last ≡ true → behind ≡ []) → rest_of begun (input ++ behind) ≡ text ++ rest_of s.progress.0 (left ++ behind)

-- the shell brings it there
pub reached : {s : Shell Report} → shell.Reached ghosts s → Reached s
reached r = record { input = r.input; text = r.text; left = r.left; goes = λ behind end. all_turns (r.turns behind end) }

-- what the calls wrote is the report of what was read, where it is done
pub reached_report : {s : Shell Report} (r : Reached s) → s.progress.0.done ≡ true → report r.input ≡ report_heading ++ r.text
unfolding report
reached_report {s} r done =
    ap (λ (v : List ℕ). report_heading ++ v)
    (ap (rest_of begun) (sym (append-nil r.input))
    ∙ r.goes [] (λ _. refl)
    ∙ ap (λ (b : Bool). r.text ++ cond b [] (report_from (length (r.left ++ [])) s.progress.0.reading s.progress.0.activities s.progress.0.place (r.left ++ []))) done
    ∙ append-nil r.text)
