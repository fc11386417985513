-- How a report ends, by what reading answers at the end of the input.
use Rattle.std.proofs.Math.Path.{◌≡◌, ap}
use Rattle.std.specs.Prelude.{refl, Bool, ℕ, ◌+◌, ◌≤◌, ◌<◌, ◌^◌}
use Rattle.std.proofs.Common.{◌∙◌, arith}
use Rattle.std.proofs.Math.Bool.{true, false, cond}
use mathlib.Core.List.{List, [], ◌∷◌, ◌++◌}
use Rattle.std.proofs.Math.ListN.{length, length-append}
use Rattle.rules.specs.Limits.{apps}
use Rattle.rules.specs.Table.{Answer, Done, Refused, number_of}
use Rattle.rules.specs.Reading.{Reading, at_events}
use Rattle.rules.specs.Input.{end_read}
use Rattle.rules.specs.Listing.{bytes, decimal, refusal_line, end_line}
use Rattle.rules.specs.Stretches.{Activity}
use Rattle.rules.specs.Report.{open_lines, report_end}
use Rattle.promises.specs.Sound.{given_sound}
use Rattle.windows.specs.Goes.{line_some, refusal_some}
use Rattle.windows.specs.Readings.{given_reading}
use Rattle.promises.specs.Cases.{by_test}
use Rattle.text.specs.Put.{Put, put_out, put_to, longest}
use Rattle.text.specs.Room.{put_room}
use Rattle.text.specs.Laws.{end_longest}
use Rattle.accounts.specs.Told.{put_then, put_length}
use Rattle.report.specs.Tallies.{Tally, GivenTally}
use Rattle.report.specs.Given.{tally_reading}

module _ (r : Reading) (cs : List Activity) (b : ℕ) where
  pub end_events : (end_read r b).answer ≡ Done → at_events r ≡ true
  end_events e = go (at_events r) e
    where
      go : (t : Bool) → cond t Done (Refused 14) ≡ Done → t ≡ true
      go true d = refl
      go false d = absurd (omega (arith, ap number_of d))

  pub end_open : (end_read r b).answer ≡ Done → report_end r cs b ≡ open_lines r.table r.state.clock.0 cs apps ++ end_line r.state.clock.0
  unfolding report_end
  end_open e = rw (end_events e)

  pub end_refused : (n : ℕ) → (end_read r b).answer ≡ Refused n → report_end r cs b ≡ refusal_line n b
  unfolding report_end
  end_refused n e = go (at_events r) e
    where
      go : (t : Bool) → cond t Done (Refused 14) ≡ Refused n → cond t (open_lines r.table r.state.clock.0 cs apps ++ end_line r.state.clock.0) (refusal_line 14 b) ≡ refusal_line n b
      go true d = let z : ◌≡◌ {A = ℕ} 0 1 = cc in absurd (omega arith)
      go false d = ap (λ (a : Answer). refusal_line (number_of a) b) d

  -- something is written
  pub end_some : 1 ≤ length (report_end r cs b)
  unfolding report_end
  end_some = by_test (λ (t : List ℕ). 1 ≤ length t) (at_events r) (λ _. omega (arith, length-append (open_lines r.table r.state.clock.0 cs apps) (end_line r.state.clock.0), line_some (bytes "end" ∷ decimal r.state.clock.0 ∷ []))) (λ _. refusal_some 14 b)

-- the last line behind a text
pub end_put : {out out₁ out₂ : List ℕ} {used held to : ℕ} {t : List ℕ} (p : Tally) → GivenTally p → Put out used t out₁ held → held + longest ≤ length out → to ≡ put_to out₁ held (end_line p.reading.state.clock.0) → out₂ ≡ put_out out₁ held (end_line p.reading.state.clock.0)
    → Put out used (t ++ end_line p.reading.state.clock.0) out₂ to × (to ≤ length out)
end_put {out} {out₁} {out₂} {held = held} {to} p g a room eto eout =
    let f = put_room out₁ held (end_line p.reading.state.clock.0) (omega (arith, put_length a, room)) in
    (put_then a (record { next = eto ∙ f.0; stored = eout ∙ f.1 }), omega (arith, eto ∙ f.0, room, end_longest p.reading.state.clock.0 time))
  where
    time : p.reading.state.clock.0 < 2 ^ 32
    time = let t = (given_sound (given_reading (tally_reading g)).given).time in omega arith
