-- A part of the history that is told: its lines are put, and the applications stand where it leads.
use Rattle.std.specs.Prelude.{◌≡◌, ℕ, length}
use Rattle.std.proofs.Math.Path.{refl, sym, ap}
use Rattle.std.proofs.Common.{◌∙◌, subst, add-zero, arith, length-append}
use mathlib.Core.List.{List, [], ◌∷◌, ◌++◌, append_assoc, append-nil}
use Rattle.std.proofs.lemmas.List.Edits.{sets}
use Rattle.std.proofs.Math.Seq.{length-sets}
use Rattle.lists.specs.Sets.{sets_chain}
use Rattle.rules.specs.Table.{Table}
use Rattle.rules.specs.History.{Happening}
use Rattle.rules.specs.Stretches.{Activity, Over, noted, activities, ends, stretches, app_of}
use Rattle.rules.specs.Report.{over_line, over_lines, told, stand}
use Rattle.stretches.specs.Goes.{activities_append}
use Rattle.text.specs.Put.{Put}

-- there is room for all lines of a tick, or of an event
abbrev pub room : ℕ
room = 16384

-- ---- a history goes on from where it was
module _ (app : ℕ → ℕ) where
  stretches_append : (cs : List Activity) (hs ks : List Happening) → stretches app cs (hs ++ ks) ≡ stretches app cs hs ++ stretches app (activities app cs hs) ks
  unfolding stretches activities
  stretches_append cs [] ks = refl
  stretches_append cs (h ∷ hs) ks = ap (λ os. ends app cs h ++ os) (stretches_append (noted app cs h) hs ks) ∙ sym (append_assoc (ends app cs h) (stretches app (noted app cs h) hs) (stretches app (activities app (noted app cs h) hs) ks))

pub lines_append : (t : Table) (os ps : List Over) → over_lines t (os ++ ps) ≡ over_lines t os ++ over_lines t ps
unfolding over_lines
lines_append t [] ps = refl
lines_append t (o ∷ os) ps = ap (λ ls. over_line t o ++ ls) (lines_append t os ps) ∙ sym (append_assoc (over_line t o) (over_lines t os) (over_lines t ps))

pub told_append : (t : Table) (cs : List Activity) (hs ks : List Happening) → told t cs (hs ++ ks) ≡ told t cs hs ++ told t (stand t cs hs) ks
told_append t cs hs ks = ap (over_lines t) (stretches_append (app_of t) cs hs ks) ∙ lines_append t (stretches (app_of t) cs hs) (stretches (app_of t) (activities (app_of t) cs hs) ks)

-- ---- texts that are put one after the other
pub put_none : (out : List ℕ) (from : ℕ) → Put out from [] out from
put_none out from = record { next = sym (add-zero from); stored = refl }

pub put_then : {l l' l'' t u : List ℕ} {i i' i'' : ℕ} → Put l i t l' i' → Put l' i' u l'' i'' → Put l i (t ++ u) l'' i''
put_then {l} {l'} {l''} {t} {u} {i} {i'} p q = record {
  next = omega (arith, p.next, q.next, length-append t u);
  stored = q.stored ∙ ap (λ (m : List ℕ). sets m i' u) p.stored ∙ ap (λ (k : ℕ). sets (sets l i t) k u) p.next ∙ sets_chain l i t u;
}

pub put_as : {l l' t u : List ℕ} {i i' : ℕ} → t ≡ u → Put l i t l' i' → Put l i u l' i'
put_as {l} {l'} {i = i} {i'} e p = subst (λ (t : List ℕ). Put l i t l' i') e p

pub put_length : {l l' t : List ℕ} {i i' : ℕ} → Put l i t l' i' → length l' ≡ length l
put_length {l} {l'} {t} {i} p = ap length p.stored ∙ length-sets l i t

-- ---- a part hs of the history from cs on: its lines are put at from, and it leads to cs'
pub record Tells (t : Table) (cs : List Activity) (hs : List Happening) (out : List ℕ) (from : ℕ) (out' : List ℕ) (used : ℕ) (cs' : List Activity) : Type 0 where
  pub put : Put out from (told t cs hs) out' used
  pub stands : cs' ≡ stand t cs hs

module _ {t : Table} {cs : List Activity} {out : List ℕ} {from : ℕ} where
  pub tells_none : Tells t cs [] out from out from cs
  unfolding activities stretches over_lines
  tells_none = record { put = put_none out from; stands = refl }

  -- one happening
  pub tells_one : {out' : List ℕ} {used : ℕ} {cs' : List Activity} (h : Happening) → Put out from (over_lines t (ends (app_of t) cs h)) out' used → cs' ≡ noted (app_of t) cs h → Tells t cs (h ∷ []) out from out' used cs'
  unfolding activities stretches
  tells_one h p e = record { put = put_as (ap (over_lines t) (sym (append-nil (ends (app_of t) cs h)))) p; stands = e }

  -- .. that ends no stretch and changes nothing
  pub tells_silent : (h : Happening) → ends (app_of t) cs h ≡ [] → noted (app_of t) cs h ≡ cs → Tells t cs (h ∷ []) out from out from cs
  unfolding over_lines
  tells_silent h e f = tells_one h (put_as (ap (over_lines t) (sym e)) (put_none out from)) (sym f)

  pub tells_then : {out' out'' : List ℕ} {used used'' : ℕ} {cs' cs'' : List Activity} (hs ks : List Happening) → Tells t cs hs out from out' used cs' → Tells t cs' ks out' used out'' used'' cs'' → Tells t cs (hs ++ ks) out from out'' used'' cs''
  tells_then {cs' = cs'} hs ks a b = record {
    put = put_as (ap (λ z. told t cs hs ++ told t z ks) a.stands ∙ sym (told_append t cs hs ks)) (put_then a.put b.put);
    stands = b.stands ∙ ap (λ z. stand t z ks) a.stands ∙ sym (activities_append (app_of t) cs hs ks);
  }
