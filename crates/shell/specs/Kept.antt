-- What is kept while a program reads and calls.
use Rattle.std.specs.Prelude.{◌≡◌, refl, Bool, true, false, not, ◌&&◌, List, ◌++◌, ℕ, ◌+◌, ◌-◌, ◌≤◌, eqb, length, take, drop}
use Rattle.std.proofs.Common.{sym, ap, ◌∙◌, subst, true≢false, arith, length-drop, take_at, take-add, drop-drop, length-take-le}
use Rattle.std.proofs.lemmas.Bool.{false≢true}
use Rattle.std.proofs.lemmas.List.{drop-take, length-take}
use Rattle.std.specs.List.{copy_within}
use Rattle.std.proofs.lemmas.List.Edits.{sets, sets-eq, take-paste}
use Rattle.windows.specs.Advance.{widest}
use Rattle.windows.specs.Feeding.{Bytes, take_bytes, drop_bytes}
use Rattle.shell.specs.declared.telling.Telling.{Ghosts}
use Rattle.shell.specs.declared.telling.Turn.{Turn}
use Rattle.shell.specs.declared.Shell.{Shell}
use Rattle.shell.specs.Shell.{Good, opened, stopped, StopsOr, stops, made, window, wants, Filled, Calls, after, Turned}

-- what was copied to the start of the buffer stands there
pub moved : (b b' : List ℕ) (from to : ℕ) → from ≤ to → to ≤ length b → b' ≡ copy_within b from to 0 → take (to - from) b' ≡ take (to - from) (drop from b)
moved b b' from to h k e = ap (λ (n : ℕ). take n b') {x = to - from} {y = 0 + (to - from)} (omega arith) ∙ ap (take (0 + (to - from))) e ∙ take-paste b 0 (drop from b) (to - from) (omega arith) (omega (arith, length-drop from b))

module _ {T : Type 0} where
  -- a program that goes on has not stopped
  pub has_read : {s r : Shell T} {P : Type 0} → StopsOr s r P → r.going ≡ true → P
  has_read (stops e) on = absurd (true≢false (sym on ∙ ap (λ (x : Shell T). x.going) e))
  has_read (made p) on = p

  -- ---- reading on
  pub last_wants : (s : Shell T) → s.last ≡ true → wants s ≡ false
  last_wants s e = by s.hungry
    where
      by : (h : Bool) → (h && not s.last) ≡ false
      by true = rw e
      by false = refl

  -- the window was moved to the start of the buffer, which then was m, and n bytes were read behind it
  pub read_filled : (b m b' : List ℕ) (s : Shell T) (n : ℕ) → s.going ≡ true → s.hungry ≡ true → s.last ≡ false → take (s.end - s.start) m ≡ window b s → take (s.end - s.start) b' ≡ take (s.end - s.start) m → s.end - s.start + n ≤ length b' → Bytes b' → Filled b b' s (record { progress = s.progress; start = 0; end = s.end - s.start + n; last = eqb n 0; hungry = false; going = s.going })
  read_filled b m b' s n on hungry more moved stayed fits bytes = record {
    got = take n (drop kept b');
    came = record {
      bytes = take_bytes n (drop kept b') (drop_bytes kept b' bytes);
      unwanted = λ none. absurd (wanted none);
      ends = rw (hungry, more) (ap (λ (k : ℕ). eqb k 0) (sym (length-take-le n (drop kept b') (omega (arith, length-drop kept b')))));
    };
    behind = ap (λ (k : ℕ). take k b') {x = kept + n - 0} {y = kept + n} (omega arith) ∙ take-add kept n b' ∙ ap (λ (w : List ℕ). w ++ take n (drop kept b')) (stayed ∙ moved);
    same = refl;
    going = on;
  }
    where
      kept : ℕ
      kept = s.end - s.start

      wanted : wants s ≡ false → ⊥
      wanted none = true≢false (rw (hungry, more) at none)

-- ---- one call
-- what is left of a window after n bytes of it
left_of : (b : List ℕ) (start end n : ℕ) → n ≤ length (take (end - start) (drop start b)) → take (end - (start + n)) (drop (start + n) b) ≡ drop n (take (end - start) (drop start b))
left_of b start end n within =
    let long : n + (end - (start + n)) ≡ end - start = omega (arith, length-take (end - start) (drop start b)) in
    ap (take (end - (start + n))) (sym (drop-drop n start b))
    ∙ sym (drop-take n (end - (start + n)) (drop start b))
    ∙ ap (λ (m : ℕ). drop n (take m (drop start b))) long

-- a text that is stored at the start of the output stands there
pub stands : (out out' text : List ℕ) → out' ≡ sets out 0 text → length text ≤ length out → take (length text) out' ≡ text
stands out out' text e h = ap (take (length text)) (e ∙ sets-eq text out 0 (omega (arith, h))) ∙ take_at text (drop (0 + length text) out) (length text) refl

-- .. and is what is handed over, where as many bytes are as it has
pub handed : (out text : List ℕ) (n : ℕ) → n ≡ length text → take (length text) out ≡ text → take n out ≡ text
handed out text n e begins = ap (λ (k : ℕ). take k out) e ∙ begins

module _ {T : Type 0} (g : Ghosts T) where
  pub good_stopped : {n : ℕ} {s r : Shell T} → Good g n s → r ≡ stopped s → Good g n r
  good_stopped {n} {s} x e = subst (Good g n) (sym e) (record { ordered = x.ordered; within = x.within; roomy = x.roomy; given = x.given; undone = λ on. absurd (false≢true on) })

  -- after the call that is handed the window of f
  pub call_turned : (b b' out out' : List ℕ) (s f : Shell T) → Filled b b' s f → (t : Turn T) → Calls g f.last (window b' f) out f.progress out' t → Turned g b b' out out' s (after g f t)
  call_turned b b' out out' s f filled t went = record {
    got = filled.got;
    came = filled.came;
    answer = t;
    went = call;
    begins = stands out out' call.text call.stored (omega (arith, call.writes, call.fits));
    progress = refl;
    left = left_of b' f.start f.end t.taken went.within ∙ ap (drop t.taken) filled.behind;
    hungry = refl;
  }
    where
      call : Calls g f.last (window b s ++ filled.got) out s.progress out' t
      call = subst (λ (w : List ℕ). Calls g f.last w out s.progress out' t) filled.behind (subst (λ (p : T). Calls g f.last (window b' f) out p out' t) filled.same went)

  -- ---- the program goes on, or stops where it would have gone on
  pub good_opened : {n : ℕ} → g.Given g.begun → g.done g.begun ≡ false → widest ≤ n → Good g n (opened g)
  good_opened given undone wide = record { ordered = omega arith; within = omega arith; roomy = λ _ _. omega (arith, wide); given = given; undone = λ _. undone }

  pub turned_said : {b b' out out' : List ℕ} {s z r : Shell T} → Turned g b b' out out' s z → StopsOr z r (r ≡ z) → Turned g b b' out out' s r
  turned_said {b} {b'} {out} {out'} {s} t (stops e) = subst (Turned g b b' out out' s) (sym e) (record {
    got = t.got;
    came = t.came;
    answer = t.answer;
    went = t.went;
    begins = t.begins;
    progress = t.progress;
    left = t.left;
    hungry = t.hungry;
  })
  turned_said {b} {b'} {out} {out'} {s} t (made e) = subst (Turned g b b' out out' s) (sym e) t

  pub good_said : {n : ℕ} {z r : Shell T} → Good g n z → StopsOr z r (r ≡ z) → Good g n r
  good_said x (stops e) = good_stopped x e
  good_said {n} x (made e) = subst (Good g n) (sym e) x
