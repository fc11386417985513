-- Calls after calls of the listing feed it the input in windows.
use Rattle.std.specs.Prelude.{◌≡◌, refl, Bool, true, List, [], ◌∷◌, ◌++◌, ℕ, ◌≤◌, length, take, drop}
use Rattle.std.proofs.Common.{sym, ap, ◌∙◌, append-nil, append_assoc, arith}
use Rattle.std.proofs.Math.Seq.{take-length}
use Rattle.std.proofs.lemmas.List.{take-append-le, drop-append-le}
use Rattle.rules.specs.Listing.{heading, listing}
use Rattle.windows.specs.Advance.{Progress, begun, Advanced, advance}
use Rattle.windows.specs.Feeding.{Bytes, Feed, turn, written, leaves, comes_to, Honest, any_windows}
use Rattle.shell.specs.Turns.{Turns, none, then}
use Rattle.bollardine.specs.declared.Listing.{Listing}

-- a call writes, takes and comes to what `advance` has
pub record Brings (last : Bool) (w : List ℕ) (room : ℕ) (p : Listing) (text : List ℕ) (taken : ℕ) (q : Listing) : Type 0 where
  pub writes : text ≡ (advance last room p.0 w).text
  pub takes : taken ≡ (advance last room p.0 w).taken
  pub progress : q.0 ≡ (advance last room p.0 w).progress

-- ---- one call more
module _ (f : Feed) where
  comes_more : (fs : List Feed) (p : Progress) (s : List ℕ) → comes_to p s (fs ++ (f ∷ [])) ≡ (turn (comes_to p s fs) (leaves p s fs) f).progress
  unfolding comes_to leaves
  comes_more [] p s = refl
  comes_more (g ∷ fs) p s = comes_more fs (turn p s g).progress (drop (turn p s g).taken s)

  leaves_more : (fs : List Feed) (p : Progress) (s : List ℕ) → leaves p s (fs ++ (f ∷ [])) ≡ drop (turn (comes_to p s fs) (leaves p s fs) f).taken (leaves p s fs)
  unfolding comes_to leaves
  leaves_more [] p s = refl
  leaves_more (g ∷ fs) p s = leaves_more fs (turn p s g).progress (drop (turn p s g).taken s)

  written_more : (fs : List Feed) (p : Progress) (s : List ℕ) → written p s (fs ++ (f ∷ [])) ≡ written p s fs ++ (turn (comes_to p s fs) (leaves p s fs) f).text
  unfolding comes_to leaves written
  written_more [] p s = append-nil (turn p s f).text
  written_more (g ∷ fs) p s =
      ap (λ (t : List ℕ). (turn p s g).text ++ t) (written_more fs (turn p s g).progress (drop (turn p s g).taken s))
      ∙ sym (append_assoc (turn p s g).text (written (turn p s g).progress (drop (turn p s g).taken s) fs) _)

  honest_more : (fs : List Feed) (p : Progress) (s : List ℕ) → Honest p s fs → (f.last ≡ true → length (leaves p s fs) ≤ f.size) → Honest p s (fs ++ (f ∷ []))
  unfolding Honest comes_to leaves
  honest_more [] p s i h = (h, tt)
  honest_more (g ∷ fs) p s i h = (i.0, honest_more fs (turn p s g).progress (drop (turn p s g).taken s) i.1 h)

-- calls on the input s, from its start on, wrote the text, came to q and left so much of it
pub record Fed (s text : List ℕ) (q : Listing) (left : List ℕ) : Type 0 where
  pub feeds : List Feed
  -- none was told that its window is the last but where that had all that was left of the input
  pub honest : Honest begun s feeds
  pub comes : q.0 ≡ comes_to begun s feeds
  pub leave : left ≡ leaves begun s feeds
  pub write : text ≡ written begun s feeds

fed_none : (s : List ℕ) → Fed s [] (record { 0 = begun }) s
unfolding Honest comes_to leaves written
fed_none s = record { feeds = []; honest = tt; comes = refl; leave = refl; write = refl }

fed_more : {s text : List ℕ} {q : Listing} {last : Bool} {w : List ℕ} {room : ℕ} {more : List ℕ} {taken : ℕ} {r : Listing} (behind : List ℕ)
    → Fed s text q (w ++ behind) → (last ≡ true → behind ≡ []) → taken ≤ length w → Brings last w room q more taken r → Fed s (text ++ more) r (drop taken w ++ behind)
fed_more {s} {text} {q} {last} {w} {room} {more} {taken} {r} behind x end within b = record {
  feeds = x.feeds ++ (f ∷ []);
  honest = honest_more f x.feeds begun s x.honest (λ l. omega (arith, ap length x.leave, ap length (ap (λ (v : List ℕ). w ++ v) (end l) ∙ append-nil w)));
  comes = b.progress ∙ sym (comes_more f x.feeds begun s ∙ ap (λ (a : Advanced). a.progress) call);
  leave =
      sym (drop-append-le taken w behind within)
      ∙ ap (λ (n : ℕ). drop n (w ++ behind)) b.takes
      ∙ ap (drop (advance last room q.0 w).taken) x.leave
      ∙ sym (leaves_more f x.feeds begun s ∙ ap (λ (a : Advanced). drop a.taken (leaves begun s x.feeds)) call);
  write =
      ap (λ (t : List ℕ). t ++ more) x.write
      ∙ ap (λ (t : List ℕ). written begun s x.feeds ++ t) (b.writes ∙ sym (ap (λ (a : Advanced). a.text) call))
      ∙ sym (written_more f x.feeds begun s);
}
  where
    f : Feed
    f = record { last = last; size = length w; room = room }

    call : turn (comes_to begun s x.feeds) (leaves begun s x.feeds) f ≡ advance last room q.0 w
    call =
        ap (λ (p : Progress). turn p (leaves begun s x.feeds) f) (sym x.comes)
        ∙ ap (λ (v : List ℕ). advance last room q.0 (take (length w) v)) (sym x.leave)
        ∙ ap (advance last room q.0) (take-append-le (length w) w behind (omega arith) ∙ take-length w)

pub fed : {s text left : List ℕ} {q : Listing} → Turns Brings (record { 0 = begun }) s text q left → Fed s text q left
fed none = fed_none _
fed (then behind ts end within b) = fed_more behind (fed ts) end within b

-- what calls after calls write, until it is done, is the listing of the whole input
pub listing_tells : (input text left : List ℕ) (p : Listing) → Bytes input → Turns Brings (record { 0 = begun }) input text p left → p.0.done ≡ true → listing input ≡ heading ++ text
listing_tells input text left p bytes ts done =
    let x = fed ts in
    any_windows input x.feeds bytes x.honest (sym (ap (λ (q : Progress). q.done) x.comes) ∙ done)
    ∙ ap (λ (t : List ℕ). heading ++ t) (sym x.write)
