-- What a call comes to: where it goes on no more there is no move, so it brings what `advance` has.
use Rattle.std.specs.Prelude.{◌≡◌, refl, Bool, List, ℕ, ◌+◌, ◌-◌, ◌≤◌, ◌<◌, length, drop}
use Rattle.std.proofs.Common.{ap, ◌∙◌, append-nil, arith}
use Rattle.std.proofs.Math.Decide.{dec_lt}
use Rattle.std.proofs.Math.Bool.{true, false}
use Rattle.std.proofs.lemmas.List.Edits.{sets}
use Rattle.windows.specs.Advance.{Progress, longest, farthest, move, stays, joined, advance}
use Rattle.windows.specs.Goes.{advance_stays}
use Rattle.quantities.specs.declared.Turn as declared
use Rattle.calls.specs.declared.told.Turn.{Turn}
use Rattle.calls.specs.Acts.{Halts, is_done, is_full, is_far, wants, wants_rest, AlongTo, Calls}
use Rattle.calls.specs.Parts.{turn_at}
use Rattle.listing.specs.declared.Listing.{Listing}
use Rattle.listing.specs.contracts.ListingTold.TheImpl.{ghosts}
use Rattle.listing.specs.Moves.{stays_done, stays_full, stays_far, stays_ended, stays_cut}
use Rattle.listing.specs.Way.{turn_of}

module _ (last : Bool) (room : ℕ) (p : Progress) (v : List ℕ) where
  -- .. unless it is done or full
  going : (d : Bool) → p.done ≡ d → (p.done ≡ false → longest ≤ room → move last room p v ≡ stays) → move last room p v ≡ stays
  going true e f = stays_done last room p v e
  going false e f = by (dec_lt room longest)
    where
      by : Dec (room < longest) → move last room p v ≡ stays
      by (yes h) = stays_full last room p v e h
      by (no h) = f e (omega (arith, h))

  -- .. or far
  near : (p.done ≡ false → longest ≤ room → p.place ≤ farthest → move last room p v ≡ stays) → move last room p v ≡ stays
  near f = going p.done refl (λ d h. by d h (dec_lt farthest p.place))
    where
      by : p.done ≡ false → longest ≤ room → Dec (farthest < p.place) → move last room p v ≡ stays
      by d h (yes k) = stays_far last room p v d h k
      by d h (no k) = f d h (omega (arith, k))

  halts_stays : Halts ghosts last v room (record { 0 = p }) → move last room p v ≡ stays
  halts_stays (is_done e) = stays_done last room p v e
  halts_stays (is_full h) = going p.done refl (λ d k. absurd (omega (arith, h, k)))
  halts_stays (is_far f) = going p.done refl (λ d h. stays_far last room p v d h f)
  halts_stays (wants l e) = near (λ d h f. stays_ended last room p v d h f e l)
  halts_stays (wants_rest l e k) = near (λ d h f. stays_cut last room p v d h f e l k)

pub record Came (last : Bool) (w out : List ℕ) (p : Progress) (out' : List ℕ) (t : declared.Turn) : Type 0 where
  pub value : t ≡ turn_of (advance last (length out) p w)
  pub out_after : out' ≡ sets out 0 (advance last (length out) p w).text
  pub taken_in_bounds : (t.taken ≤ length w) × (t.written ≤ length out)

pub came : {last : Bool} {w out : List ℕ} {p : Progress} {out' : List ℕ} (y : Turn Listing) → Calls ghosts last w out (record { 0 = p }) out' y → Came last w out p out' (record { taken = y.taken; written = y.written; progress = y.progress.0 })
came {last} {w} {out} {p} {out'} y c = record {
  value = rw is (ap (λ (n : ℕ). record { taken = y.taken; written = n; progress = y.progress.0 }) (a.writes ∙ omega arith));
  out_after = rw is a.stored;
  taken_in_bounds = (a.within, a.fits);
}
  where
    a : AlongTo ghosts last w out (turn_at 0 0 (record { 0 = p })) out' y
    a = c.stage.along

    is : advance last (length out) p w ≡ record { taken = y.taken; text = a.text; progress = y.progress.0 }
    is =
        ap (λ (k : ℕ). advance last k p w) (omega arith)
        ∙ a.brings
        ∙ ap (λ (k : ℕ). joined (y.taken - 0) a.text (advance last k y.progress.0 (drop (y.taken - 0) w))) (omega (arith, a.writes))
        ∙ ap (λ (k : ℕ). joined k a.text (advance last (length out - y.written) y.progress.0 (drop k w))) (omega arith)
        ∙ ap (joined y.taken a.text) (advance_stays last (length out - y.written) y.progress.0 (drop y.taken w) (halts_stays last (length out - y.written) y.progress.0 (drop y.taken w) c.halts))
        ∙ ap (λ (v : List ℕ). record { taken = y.taken + 0; text = v; progress = y.progress.0 }) (append-nil a.text)
        ∙ ap (λ (k : ℕ). record { taken = k; text = a.text; progress = y.progress.0 }) (omega arith)
