use Rattle.std.proofs.Common.{ℕ, ap, ◌∙◌, arith}
use Rattle.rules.specs.Refusals.{number}
use Rattle.rules.specs.Listing.{refusal_line}
use Rattle.text.specs.Room.{put_room}
use Rattle.promises.specs.Numbers.{number_as}
use Rattle.calls.specs.Parts.{turn_at}
use Rattle.calls.proofs.stop.Goals as goal

-- there is room for the line
pub returns : goal.returns
returns g c =
    let t = c.args.turn.now in
    let f = put_room c.args.out.now t.written (refusal_line (number c.args.e) (g.T.Told.place t.progress)) (omega (arith, c.requires, g.met.T.Told.roomy)) in
    let r = rw (number_as c.args.e, c.place.ensures) at c.refusal-turn.ensures in
    record { value = rw c.finish.ensures (ap (λ (u : ℕ). turn_at t.taken u (g.T.Told.finished t.progress)) (r.0 ∙ f.0)); out_after = r.1 ∙ f.1 }
