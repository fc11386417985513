-- A call on its way: what it has taken and written so far, and that the rest of it is a call from there.
use Rattle.std.specs.Prelude.{◌≡◌, refl, Bool, List, [], ◌++◌, ℕ, ◌+◌, ◌-◌, ◌≤◌, length, drop}
use Rattle.std.proofs.Common.{sym, ap, ◌∙◌, subst, append-nil, append_assoc, add-zero, arith, length-drop, length-append, drop-drop}
use Rattle.std.proofs.lemmas.List.Edits.{sets}
use Rattle.std.proofs.Math.Seq.{length-sets}
use Rattle.lists.specs.Sets.{sets_chain}
use Rattle.windows.specs.Advance.{Progress, stays, moves, move, Advanced, joined, advance}
use Rattle.windows.specs.Goes.{Less, move_less, advance_moves, advance_stays}

-- where a call stands: the byte of the window, the byte of the output, and the progress
pub record Along (last : Bool) (w out : List ℕ) (from used : ℕ) (p : Progress) (out' : List ℕ) (from' used' : ℕ) (p' : Progress) : Type 0 where
  pub text : List ℕ
  pub stored : out' ≡ sets out used text
  pub writes : used' ≡ used + length text
  pub takes : from ≤ from'
  pub within : from' ≤ length w
  pub room : used' ≤ length out
  pub goes : advance last (length out - used) p (drop from w) ≡ joined (from' - from) text (advance last (length out - used') p' (drop from' w))

joined_none : (n : ℕ) → n ≡ 0 → (a : Advanced) → a ≡ joined n [] a
joined_none n e a = ap (λ (k : ℕ). record { taken = k; text = a.text; progress = a.progress }) (omega arith)

joined_twice : (n m : ℕ) (t u : List ℕ) (a : Advanced) → joined n t (joined m u a) ≡ joined (n + m) (t ++ u) a
joined_twice n m t u a =
    ap (λ (k : ℕ). record { taken = k; text = t ++ (u ++ a.text); progress = a.progress }) (omega arith)
    ∙ ap (λ (v : List ℕ). record { taken = n + m + a.taken; text = v; progress = a.progress }) (sym (append_assoc t u a.text))

module _ (last : Bool) (w : List ℕ) where
  pub along_none : (out : List ℕ) (from used : ℕ) (p : Progress) → from ≤ length w → used ≤ length out → Along last w out from used p out from used p
  along_none out from used p h k = record {
    text = [];
    stored = refl;
    writes = sym (add-zero used);
    takes = omega arith;
    within = h;
    room = k;
    goes = joined_none (from - from) (omega arith) (advance last (length out - used) p (drop from w));
  }

  pub along_then : {out₀ out₁ out₂ : List ℕ} {f₀ f₁ f₂ u₀ u₁ u₂ : ℕ} {p₀ p₁ p₂ : Progress} → Along last w out₀ f₀ u₀ p₀ out₁ f₁ u₁ p₁
      → Along last w out₁ f₁ u₁ p₁ out₂ f₂ u₂ p₂ → Along last w out₀ f₀ u₀ p₀ out₂ f₂ u₂ p₂
  along_then {out₀} {out₁} {out₂} {f₀} {f₁} {f₂} {u₀} {u₁} {u₂} {p₀} {p₁} {p₂} a b = record {
    text = a.text ++ b.text;
    stored = b.stored ∙ ap (λ (l : List ℕ). sets l u₁ b.text) a.stored ∙ ap (λ (k : ℕ). sets (sets out₀ u₀ a.text) k b.text) a.writes ∙ sets_chain out₀ u₀ a.text b.text;
    writes = omega (arith, a.writes, b.writes, length-append a.text b.text);
    takes = omega (arith, a.takes, b.takes);
    within = b.within;
    room = omega (arith, b.room, long);
    goes =
        a.goes
        ∙ ap (λ (k : ℕ). joined (f₁ - f₀) a.text (advance last (k - u₁) p₁ (drop f₁ w))) (sym long)
        ∙ ap (joined (f₁ - f₀) a.text) b.goes
        ∙ ap (λ (k : ℕ). joined (f₁ - f₀) a.text (joined (f₂ - f₁) b.text (advance last (k - u₂) p₂ (drop f₂ w)))) long
        ∙ joined_twice (f₁ - f₀) (f₂ - f₁) a.text b.text (advance last (length out₀ - u₂) p₂ (drop f₂ w))
        ∙ ap (λ (k : ℕ). joined k (a.text ++ b.text) (advance last (length out₀ - u₂) p₂ (drop f₂ w))) (omega (arith, a.takes, b.takes));
  }
    where
      long : length out₁ ≡ length out₀
      long = ap length a.stored ∙ length-sets out₀ u₀ a.text

  -- one move
  pub along_move : (out : List ℕ) (from used : ℕ) (p : Progress) → from ≤ length w → (n : ℕ) (t : List ℕ) (q : Progress)
      → move last (length out - used) p (drop from w) ≡ moves n t q → used + length t ≤ length out
      → Along last w out from used p (sets out used t) (from + n) (used + length t) q
  along_move out from used p h n t q e fits = record {
    text = t;
    stored = refl;
    writes = refl;
    takes = omega arith;
    within = omega (arith, less.0, length-drop from w);
    room = fits;
    goes =
        advance_moves last (length out - used) p (drop from w) n t q e
        ∙ ap (λ (k : ℕ). joined n t (advance last k q (drop n (drop from w)))) (omega arith)
        ∙ ap (λ (v : List ℕ). joined n t (advance last (length out - (used + length t)) q v)) (drop-drop n from w)
        ∙ ap (λ (k : ℕ). joined k t (advance last (length out - (used + length t)) q (drop (from + n) w))) (omega arith);
  }
    where
      less : Less (length out - used) (drop from w) (moves n t q)
      less = subst (Less (length out - used) (drop from w)) e (move_less last (length out - used) p (drop from w))

  -- a call that has come to where there is no move
  pub along_end : (out out' : List ℕ) (from used : ℕ) (p q : Progress) → Along last w out 0 0 p out' from used q
      → move last (length out - used) q (drop from w) ≡ stays
      → ((advance last (length out) p w).taken ≡ from) × (length (advance last (length out) p w).text ≡ used) × ((advance last (length out) p w).progress ≡ q) × (out' ≡ sets out 0 (advance last (length out) p w).text)
  along_end out out' from used p q a e = rw is (refl, omega (arith, a.writes), refl, a.stored)
    where
      is : advance last (length out) p w ≡ record { taken = from; text = a.text; progress = q }
      is =
          ap (λ (k : ℕ). advance last k p w) (omega arith)
          ∙ a.goes
          ∙ ap (joined (from - 0) a.text) (advance_stays last (length out - used) q (drop from w) e)
          ∙ ap (λ (v : List ℕ). record { taken = from - 0 + 0; text = v; progress = q }) (append-nil a.text)
          ∙ ap (λ (k : ℕ). record { taken = k; text = a.text; progress = q }) (omega arith)
