-- Where the program's turns bring what is told: it is fed all that was read, in order and nothing twice.
use Rattle.std.specs.Prelude.{◌≡◌, refl, Bool, true, false, ◌||◌, ◌&&◌, List, [], ◌∷◌, ◌++◌, ℕ, zero, suc, eqb, length, drop}
use Rattle.std.proofs.Common.{sym, ap, ◌∙◌, subst, append-nil, append_assoc, arith}
use Rattle.std.proofs.lemmas.Bool.{false≢true}
use Rattle.windows.specs.Feeding.{Bytes}
use Rattle.shell.specs.declared.telling.Telling.{Ghosts}
use Rattle.shell.specs.declared.Shell.{Shell}
use Rattle.shell.specs.Turns.{Turns, none, then}
use Rattle.shell.specs.Shell.{opened, stopped, StopsOr, stops, made, window, wants, Turned}
use Rattle.shell.specs.Kept.{last_wants}

append_bytes : (s t : List ℕ) → Bytes s → Bytes t → Bytes (s ++ t)
append_bytes [] t a b i = b i
append_bytes (x ∷ s) t a b zero = a 0
append_bytes (x ∷ s) t a b (suc i) = append_bytes s t (λ j. a (suc j)) b i

module _ {T : Type 0} (g : Ghosts T) where
  -- where what is told has come to
  pub record Reached (s : Shell T) : Type 0 where
    -- what was read, from the first byte on; what the calls wrote; and what they left of the input
    pub input : List ℕ
    pub bytes : Bytes input
    pub text : List ℕ
    pub left : List ℕ
    -- whatever is still to come of the input, the calls are made as if it had been there; nothing comes behind the end
    pub turns : (behind : List ℕ) → (s.last ≡ true → behind ≡ []) → Turns g.Brings g.begun (input ++ behind) text s.progress (left ++ behind)

  -- what the calls wrote is what is to be told of what was read, where it is done
  pub reached_told : ((input text left : List ℕ) (p : T) → Bytes input → Turns g.Brings g.begun input text p left → g.done p ≡ true → g.told input ≡ g.heading ++ text)
      → {s : Shell T} (r : Reached s) → g.done s.progress ≡ true → g.told r.input ≡ g.heading ++ r.text
  reached_told tells {s} r done = tells r.input r.text (r.left ++ []) s.progress r.bytes (subst (λ (v : List ℕ). Turns g.Brings g.begun v r.text s.progress (r.left ++ [])) (append-nil r.input) (r.turns [] (λ _. refl))) done

  -- ---- the program's turns
  -- what its loop keeps to
  pub record Fed (b : List ℕ) (s : Shell T) : Type 0 where
    pub reached : Reached s
    -- what the calls left of the input is what is still to be taken
    pub held : s.going ≡ true → window b s ≡ reached.left

  fed_begun : (b : List ℕ) → Fed b (opened g)
  fed_begun b = record { reached = record { input = []; bytes = λ i. omega arith; text = []; left = []; turns = λ behind _. none }; held = λ _. refl }

  -- whatever the buffer has
  fed_stopped : {b b' : List ℕ} {s r : Shell T} → Fed b s → r ≡ stopped s → Fed b' r
  fed_stopped {b} {b'} {s} x e = subst (Fed b') (sym e) (record {
    reached = record { input = x.reached.input; bytes = x.reached.bytes; text = x.reached.text; left = x.reached.left; turns = x.reached.turns };
    held = λ on. absurd (false≢true on);
  })

  -- the heading line was written, or the program stopped there
  pub fed_opened : {b : List ℕ} {r : Shell T} → StopsOr (opened g) r (r ≡ opened g) → Fed b r
  fed_opened {b} (stops e) = fed_stopped (fed_begun b) e
  fed_opened {b} (made e) = subst (Fed b) (sym e) (fed_begun b)

  pub fed_turned : {b b' out out' : List ℕ} {s r : Shell T} → Fed b s → s.going ≡ true → Turned g b b' out out' s r → Fed b' r
  fed_turned {b} {b'} {s = s} {r} x on t = record {
    reached = record {
      input = x.reached.input ++ t.got;
      bytes = append_bytes x.reached.input t.got x.reached.bytes t.came.bytes;
      text = x.reached.text ++ t.went.text;
      left = drop t.answer.taken w;
      turns = λ behind end. subst (λ (p : T). Turns g.Brings g.begun ((x.reached.input ++ t.got) ++ behind) (x.reached.text ++ t.went.text) p (drop t.answer.taken w ++ behind)) (sym t.progress) (then behind (before behind end) end t.went.within t.went.brings);
    };
    held = λ _. t.left;
  }
    where
      w : List ℕ
      w = window b s ++ t.got

      still : (l k : Bool) → l ≡ true → (l || k) ≡ true
      still true k e = refl
      still false k e = absurd (false≢true e)

      -- behind the end of the input nothing was read
      ended : (behind : List ℕ) → (r.last ≡ true → behind ≡ []) → s.last ≡ true → t.got ++ behind ≡ []
      ended behind end l =
          ap (λ (v : List ℕ). v ++ behind) (t.came.unwanted (last_wants s l))
          ∙ end (t.came.ends ∙ still s.last (wants s && eqb (length t.got) 0) l)

      -- the turns before, as if those bytes had been there
      before : (behind : List ℕ) → (r.last ≡ true → behind ≡ []) → Turns g.Brings g.begun ((x.reached.input ++ t.got) ++ behind) x.reached.text s.progress (w ++ behind)
      before behind end =
          subst (λ (v : List ℕ). Turns g.Brings g.begun v x.reached.text s.progress (w ++ behind)) (sym (append_assoc x.reached.input t.got behind))
          (subst (λ (v : List ℕ). Turns g.Brings g.begun (x.reached.input ++ (t.got ++ behind)) x.reached.text s.progress v) (sym (append_assoc x.reached.left t.got behind) ∙ ap (λ (v : List ℕ). (v ++ t.got) ++ behind) (sym (x.held on)))
          (x.reached.turns (t.got ++ behind) (λ l. ended behind end l)))

  -- a turn, or none where a read failed
  pub fed_after : {b b' out out' : List ℕ} {s r : Shell T} → Fed b s → s.going ≡ true → StopsOr s r (Turned g b b' out out' s r) → Fed b' r
  fed_after x on (stops e) = fed_stopped x e
  fed_after x on (made t) = fed_turned x on t
