-- Texts that are put one after the other.
use Rattle.std.proofs.Common.{◌≡◌, refl, sym, ap, subst, ◌∙◌, Bool, true, List, ◌++◌, ℕ, ◌+◌, ◌≤◌, length, take, drop, length-append, append_assoc, leb, arith}
use Rattle.std.proofs.lemmas.List.Edits.{sets, sets-eq, paste_all}
use Rattle.std.proofs.lemmas.Slice.{put_mid-paste}
use borrow.Author.Tests.{leb-true}
use borrow.Rule.Slice.PartMut.{put_mid}
use Rattle.lists.specs.Sets.{sets_chain}
use Rattle.text.specs.declared.Line.{Line}
use Rattle.text.specs.Room.{put_room}
use Rattle.text.specs.Put.{Put, put_out, put_to, longest}
use Rattle.text.specs.Line.{Added}
use Rattle.text.specs.Wide.{wide, wide_out, wide_to, wide_room}

both : {l l' l'' t u : List ℕ} {i i' i'' : ℕ} → Put l i t l' i' → Put l' i' u l'' i'' → Put l i (t ++ u) l'' i''
both {l} {l'} {l''} {t} {u} {i} {i'} p q = record {
  next = omega (arith, p.next, q.next, length-append t u);
  stored = q.stored ∙ ap (λ (m : List ℕ). sets m i' u) p.stored ∙ ap (λ (k : ℕ). sets (sets l i t) k u) p.next ∙ sets_chain l i t u;
}

pub and_then : {a b c : Line} {t u : List ℕ} → Added a b t → Added b c u → Added a c (t ++ u)
and_then p q = record { same = q.same ∙ p.same; long = q.long ∙ p.long; put = both p.put q.put }

pub same_text : {a b : Line} {t u : List ℕ} → t ≡ u → Added a b t → Added a b u
same_text {a} {b} e p = subst (λ (t : List ℕ). Added a b t) e p

-- a part that was written at once
pub copied : (l t u : List ℕ) (i k : ℕ) → i + length t ≤ length l → u ≡ t → k ≡ length t → put_mid i k l u ≡ sets l i t
copied l t u i k fits same long =
    put_mid-paste i k l u t (length t) same (sym long) refl
    ∙ paste_all l i t (length t) refl
    ∙ sym (append_assoc (take i l) t (drop (i + length t) l))
    ∙ sym (sets-eq t l i fits)

-- what is in the slice once the line is done
pub placed : {a b : Line} {m t : List ℕ} → Added a b t → m ≡ b.out.now → Put a.out.now a.at t m b.at
placed p e = record { next = p.put.next; stored = e ∙ p.put.stored }

-- ---- after the test for room
pub room : {b : Bool} {m n : ℕ} → b ≡ leb m n → b ≡ true → m ≤ n
room e h = leb-true _ _ (sym e ∙ h)

-- the contract of a line that was put, in a listing and in a report
module _ {b : Bool} {l l' t : List ℕ} {i i' : ℕ} where
  pub put : b ≡ leb (i + longest) (length l) → b ≡ true → Put l i t l' i' → (i' ≡ put_to l i t) × (l' ≡ put_out l i t)
  put e h p = let r = put_room l i t (room e h) in (p.next ∙ sym r.0, p.stored ∙ sym r.1)

  pub put_wide : b ≡ leb (i + wide) (length l) → b ≡ true → Put l i t l' i' → (i' ≡ wide_to l i t) × (l' ≡ wide_out l i t)
  put_wide e h p = let r = wide_room l i t (room e h) in (p.next ∙ sym r.0, p.stored ∙ sym r.1)
