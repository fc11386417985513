-- What a call of the listing promises the shell.
use Rattle.std.specs.Prelude.{◌≡◌, refl, Bool, false, List, ℕ, ◌-◌, ◌≤◌, ◌<◌, length, drop}
use Rattle.std.proofs.Common.{ap, subst, sym, arith, length-append}
use Rattle.std.proofs.lemmas.List.Edits.{sets}
use Rattle.std.proofs.Math.Decide.{dec_lt}
use Rattle.quantities.specs.declared.Turn.{Turn}
use Rattle.windows.specs.Advance.{Progress, GivenProgress, longest, widest, farthest, Move, stays, moves, move, Advanced, advance}
use Rattle.windows.specs.Goes.{Less, move_less, advance_moves, advance_stays, goes_on_lem}
use Rattle.windows.specs.Progresses.{progress_by}
use Rattle.listing.specs.Way.{turn_of}
use Rattle.shell.specs.Shell.{Calls}
use Rattle.bollardine.specs.declared.Listing.{Listing}
use Rattle.bollardine.specs.contracts.ListingTelling.TheImpl.{ghosts}

-- a call that takes nothing and writes nothing leaves the listing where it was
unmoved : (last : Bool) (room : ℕ) (p : Progress) (w : List ℕ) → (advance last room p w).taken ≡ 0 → length (advance last room p w).text ≡ 0 → (advance last room p w).progress ≡ p
unmoved last room p w h k = by (move last room p w) refl (move_less last room p w)
  where
    by : (m : Move) → move last room p w ≡ m → Less room w m → (advance last room p w).progress ≡ p
    by stays e l = ap (λ (a : Advanced). a.progress) (advance_stays last room p w e)
    by (moves n t q) e l =
        let a = advance_moves last room p w n t q e in
        let i = ap (λ (x : Advanced). x.taken) a in
        let j = ap (λ (x : Advanced). length x.text) a in
        absurd (omega (arith, h, k, i, j, l.0, l.1, length-append t (advance last (room - length t) q (drop n w)).text))

-- with enough room, its window is not wide
narrow : (last : Bool) (room : ℕ) (p : Progress) (w : List ℕ) → p.done ≡ false → longest ≤ room → last ≡ false → (advance last room p w).taken ≡ 0 → length (advance last room p w).text ≡ 0 → (advance last room p w).progress.place ≤ farthest → length w < widest
narrow last room p w undone roomy more h k near = by (dec_lt (length w) widest)
  where
    place : p.place ≤ farthest
    place = subst (λ (q : Progress). q.place ≤ farthest) (unmoved last room p w h k) near

    by : Dec (length w < widest) → length w < widest
    by (yes l) = l
    by (no l) = absurd (omega (arith, h, k, goes_on_lem last p w room undone roomy place (λ _. omega (arith, l))))

pub went : {last : Bool} {w out : List ℕ} {p : Listing} {out' : List ℕ} (t : Turn) → GivenProgress p.0 → t ≡ turn_of (advance last (length out) p.0 w) → out' ≡ sets out 0 (advance last (length out) p.0 w).text → (t.taken ≤ length w) × (t.written ≤ length out)
    → Calls ghosts last w out p out' (record { taken = t.taken; written = t.written; progress = record { 0 = t.progress } })
went {last} {w} {out} {p} {out'} t given is after fits = record {
  text = a.text;
  stored = after;
  writes = writes;
  fits = fits.1;
  within = fits.0;
  brings = record { writes = refl; takes = taken; progress = progress };
  given = subst GivenProgress (sym progress) (progress_by given last (length out) w);
  narrow = λ none room undone near more. narrow last (length out) p.0 w undone room more (omega (arith, taken)) (omega (arith, writes)) (subst (λ (q : Progress). q.place ≤ farthest) progress near);
}
  where
    a : Advanced
    a = advance last (length out) p.0 w

    taken : t.taken ≡ a.taken
    taken = ap (λ (x : Turn). x.taken) is

    writes : t.written ≡ length a.text
    writes = ap (λ (x : Turn). x.written) is

    progress : t.progress ≡ a.progress
    progress = ap (λ (x : Turn). x.progress) is
