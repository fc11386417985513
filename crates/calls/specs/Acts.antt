-- What each part of a call comes to.
use Rattle.std.specs.Prelude.{◌≡◌, refl, IfOk, IfErr, Result, Ok, Err, Bool, true, false, List, [], ◌++◌, ℕ, ◌+◌, ◌-◌, ◌≤◌, ◌<◌, length, drop}
use Rattle.std.proofs.Common.{sym, ap, ◌∙◌, subst, arith, add-zero, length-append, drop-drop}
use Rattle.std.proofs.lemmas.List.Edits.{sets}
use Rattle.std.proofs.Math.Seq.{length-sets}
use Rattle.lists.specs.Sets.{sets_chain}
use Rattle.rules.specs.Records.{Ended, Cut, frame_of}
use Rattle.rules.specs.Refusals.{Refusal, number}
use Rattle.rules.specs.Listing.{refusal_line}
use Rattle.promises.specs.Cases.{true_false}
use Rattle.text.specs.Laws.{refusal_longest}
use Rattle.windows.specs.Advance.{longest, widest, farthest}
use Rattle.windows.specs.Goes.{refusal_some}
use Rattle.calls.specs.declared.told.Turn.{Turn}
use Rattle.calls.specs.declared.told.Told.{Ghosts}
use Rattle.promises.specs.Numbers.{number_short}
use Rattle.calls.specs.Parts.{turn_at, left_of, Open, Along, ActedOn, Refused}

module _ {T : Type 0} (g : Ghosts T) where
  abbrev pub Opens : List ℕ → List ℕ → Turn T → Type 0
  Opens = Open g.ROOM g.place g.done g.Given

  abbrev pub AlongTo : Bool → List ℕ → List ℕ → Turn T → List ℕ → Turn T → Type 0
  AlongTo = Along g.Given g.Brings

  abbrev pub Acted : List ℕ → List ℕ → Turn T → List ℕ → Turn T → Type 0
  Acted = ActedOn g.Given g.Brings

  abbrev pub Refuses : List ℕ → List ℕ → Turn T → List ℕ → Turn T → Refusal → Type 0
  Refuses = Refused g.ROOM g.place g.done g.finished g.Given g.Brings

  -- why a call goes on no more: all is told; there is little room left; the next record would start too far behind; or more of the
  -- input is wanted, which is to come
  pub data Halts (last : Bool) (v : List ℕ) (room : ℕ) (q : T) : Type 0 where
    is_done : g.done q ≡ true → Halts last v room q
    is_full : room < g.ROOM → Halts last v room q
    is_far : farthest < g.place q → Halts last v room q
    wants : last ≡ false → frame_of v ≡ Ended → Halts last v room q
    wants_rest : last ≡ false → frame_of v ≡ Cut → length v < widest → Halts last v room q

  -- ---- a part of a call, after which it goes on or not
  pub record ActedTo (last : Bool) (w out : List ℕ) (x : Turn T) (out' : List ℕ) (y : Turn T) (goes : Bool) : Type 0 where
    pub along : AlongTo last w out x out' y
    pub less : goes ≡ true → left_of w out y < left_of w out x
    -- where it does not, nothing was done
    pub unmoved : goes ≡ false → y.progress ≡ x.progress
    pub halts : goes ≡ false → Halts last (drop y.taken w) (length out - y.written) y.progress

  -- ---- a call, or the parts of it so far
  pub record Stage (last : Bool) (w out : List ℕ) (p : T) (out' : List ℕ) (y : Turn T) : Type 0 where
    pub along : AlongTo last w out (turn_at 0 0 p) out' y
    -- where nothing was taken or written, nothing was done
    pub unmoved : y.taken + y.written ≡ 0 → y.progress ≡ p

  pub record Calls (last : Bool) (w out : List ℕ) (p : T) (out' : List ℕ) (y : Turn T) : Type 0 where
    pub stage : Stage last w out p out' y
    pub halts : Halts last (drop y.taken w) (length out - y.written) y.progress

  -- ---- nothing
  module _ (none : (last : Bool) (v : List ℕ) (r : ℕ) (p : T) → g.Brings last v r p [] 0 p) where
    pub along_none : (last : Bool) (w out : List ℕ) (x : Turn T) → g.Given x.progress → x.taken ≤ length w → x.written ≤ length out → AlongTo last w out x out x
    along_none last w out x h k l = record {
      given = h;
      text = [];
      stored = refl;
      writes = sym (add-zero x.written);
      takes = omega arith;
      within = k;
      fits = l;
      brings = subst (λ (n : ℕ). g.Brings last (drop x.taken w) (length out - x.written) x.progress [] n x.progress) (omega arith) (none last (drop x.taken w) (length out - x.written) x.progress);
    }

    pub stay_acts : (last : Bool) (w out : List ℕ) (x : Turn T) → g.Given x.progress → x.taken ≤ length w → x.written ≤ length out → Halts last (drop x.taken w) (length out - x.written) x.progress → ActedTo last w out x out x false
    stay_acts last w out x h k l e = record {
      along = along_none last w out x h k l;
      less = λ f. absurd (true_false (sym f));
      unmoved = λ _. refl;
      halts = λ _. e;
    }

    pub stage_begin : (last : Bool) (w out : List ℕ) (p : T) → g.Given p → Stage last w out p out (turn_at 0 0 p)
    stage_begin last w out p h = record { along = along_none last w out (turn_at 0 0 p) h (omega arith) (omega arith); unmoved = λ _. refl }

  -- ---- a text that is put at once
  module _ {w out out' : List ℕ} {x y : Turn T} (q : T) (t : List ℕ) (is : y ≡ turn_at x.taken (x.written + length t) q) (stored : out' ≡ sets out x.written t) (h : g.Given q) (within : x.taken ≤ length w) (some : 1 ≤ length t) (fits : x.written + length t ≤ length out) where
    text_along : (last : Bool) → g.Brings last (drop x.taken w) (length out - x.written) x.progress t 0 q → AlongTo last w out x out' y
    text_along last b = rw (is, stored) (record {
      given = h;
      text = t;
      stored = refl;
      writes = refl;
      takes = omega arith;
      within = within;
      fits = fits;
      brings = subst (λ (n : ℕ). g.Brings last (drop x.taken w) (length out - x.written) x.progress t n q) (omega arith) b;
    })

    pub text_on : ((last : Bool) → g.Brings last (drop x.taken w) (length out - x.written) x.progress t 0 q) → Acted w out x out' y
    text_on b = record { any = λ last. text_along last (b last); less = rw is (omega (arith, some, fits)) }

    pub text_acts : (last : Bool) → g.Brings last (drop x.taken w) (length out - x.written) x.progress t 0 q → ActedTo last w out x out' y true
    text_acts last b = record {
      along = text_along last b;
      less = λ _. rw is (omega (arith, some, fits));
      unmoved = λ f. absurd (true_false f);
      halts = λ f. absurd (true_false f);
    }

  -- ---- a refusal
  module _ (roomy : longest ≤ g.ROOM) (finished : (p : T) → g.Given p → g.Given (g.finished p)) {w out out' : List ℕ} {x y : Turn T} (o : Opens w out x) (e : Refusal) (is : y ≡ turn_at x.taken (x.written + length (refusal_line (number e) (g.place x.progress))) (g.finished x.progress)) (stored : out' ≡ sets out x.written (refusal_line (number e) (g.place x.progress))) where
    abbrev line : List ℕ
    line = refusal_line (number e) (g.place x.progress)

    line_fits : x.written + length line ≤ length out
    line_fits = omega (arith, refusal_longest (number e) (g.place x.progress) (number_short e) (omega (arith, o.near)), o.fits, roomy)

    pub stop_on : ((last : Bool) → g.Brings last (drop x.taken w) (length out - x.written) x.progress line 0 (g.finished x.progress)) → Acted w out x out' y
    stop_on = text_on (g.finished x.progress) line is stored (finished x.progress o.given) o.within (refusal_some (number e) (g.place x.progress)) line_fits

    pub stop_acts : (last : Bool) → g.Brings last (drop x.taken w) (length out - x.written) x.progress line 0 (g.finished x.progress) → ActedTo last w out x out' y true
    stop_acts = text_acts (g.finished x.progress) line is stored (finished x.progress o.given) o.within (refusal_some (number e) (g.place x.progress)) line_fits

  pub on_acts : {w out out' : List ℕ} {x y : Turn T} → Acted w out x out' y → (last : Bool) → ActedTo last w out x out' y true
  on_acts a last = record {
    along = a.any last;
    less = λ _. a.less;
    unmoved = λ f. absurd (true_false f);
    halts = λ f. absurd (true_false f);
  }

  -- ---- one part after another
  pub same_room : {last : Bool} {w out out' : List ℕ} {x y : Turn T} → AlongTo last w out x out' y → length out' ≡ length out
  same_room {out = out} {x = x} a = ap length a.stored ∙ length-sets out x.written a.text

  module _ (then : (last : Bool) (v : List ℕ) (r : ℕ) (p : T) (t : List ℕ) (n : ℕ) (q : T) (u : List ℕ) (m : ℕ) (s : T) → g.Brings last v r p t n q → g.Brings last (drop n v) (r - length t) q u m s → g.Brings last v r p (t ++ u) (n + m) s) where
    pub along_then : {last : Bool} {w out out₁ out₂ : List ℕ} {x y z : Turn T} → AlongTo last w out x out₁ y → AlongTo last w out₁ y out₂ z → AlongTo last w out x out₂ z
    along_then {last} {w} {out} {out₁} {out₂} {x} {y} {z} a b = record {
      given = b.given;
      text = a.text ++ b.text;
      stored = b.stored ∙ ap (λ (l : List ℕ). sets l y.written b.text) a.stored ∙ ap (λ (k : ℕ). sets (sets out x.written a.text) k b.text) a.writes ∙ sets_chain out x.written a.text b.text;
      writes = omega (arith, a.writes, b.writes, length-append a.text b.text);
      takes = omega (arith, a.takes, b.takes);
      within = b.within;
      fits = omega (arith, b.fits, same_room a);
      brings = subst (λ (n : ℕ). g.Brings last (drop x.taken w) (length out - x.written) x.progress (a.text ++ b.text) n z.progress) (omega (arith, a.takes, b.takes)) (then last (drop x.taken w) (length out - x.written) x.progress a.text (y.taken - x.taken) y.progress b.text (z.taken - y.taken) z.progress a.brings
          (subst (λ (v : List ℕ). g.Brings last v (length out - x.written - length a.text) y.progress b.text (z.taken - y.taken) z.progress) rest
          (subst (λ (r : ℕ). g.Brings last (drop y.taken w) r y.progress b.text (z.taken - y.taken) z.progress) (omega (arith, same_room a, a.writes)) b.brings)));
    }
      where
        rest : drop y.taken w ≡ drop (y.taken - x.taken) (drop x.taken w)
        rest = ap (λ (n : ℕ). drop n w) (omega (arith, a.takes)) ∙ sym (drop-drop (y.taken - x.taken) x.taken w)

    -- .. after which one goes on
    pub then_on : {w out out₁ out₂ : List ℕ} {x y z : Turn T} → ((last : Bool) → AlongTo last w out x out₁ y) → Acted w out₁ y out₂ z → Acted w out x out₂ z
    then_on {w} {out} {out₁} {x = x} {y} {z} a b = record {
      any = λ last. along_then (a last) (b.any last);
      less = let t = a true in let u = b.any true in omega (arith, b.less, same_room t, t.writes, t.takes, t.within, t.fits, u.takes, u.within, u.writes, u.fits);
    }

    -- .. or refuses the record, whichever it answers
    module _ {w out out₁ : List ℕ} {x y : Turn T} (r : Result Unit Refusal) (out₂ : List ℕ) (z : Turn T) (a : (last : Bool) → AlongTo last w out x out₁ y) where
      pub then_ok : IfOk r (λ _. Acted w out₁ y out₂ z) → IfOk r (λ _. Acted w out x out₂ z)
      then_ok = by r
        where
          by : (r : Result Unit Refusal) → IfOk r (λ _. Acted w out₁ y out₂ z) → IfOk r (λ _. Acted w out x out₂ z)
          by (Ok _) b = then_on a b
          by (Err _) b = tt

      pub then_err : IfErr r (Refuses w out₁ y out₂ z) → IfErr r (Refuses w out x out₂ z)
      then_err = by r
        where
          by : (r : Result Unit Refusal) → IfErr r (Refuses w out₁ y out₂ z) → IfErr r (Refuses w out x out₂ z)
          by (Ok _) b = tt
          by (Err _) b = record { before = λ last. along_then (a last) (b.before last); opens = b.opens; brings = b.brings }

    module _ {last : Bool} {w out out₁ out₂ : List ℕ} {p : T} {x y : Turn T} (a : Stage last w out p out₁ x) {goes : Bool} (b : ActedTo last w out₁ x out₂ y goes) where
      pub stage_then : Stage last w out p out₂ y
      stage_then = record { along = along_then a.along b.along; unmoved = λ z. by goes refl z }
        where
          by : (t : Bool) → goes ≡ t → y.taken + y.written ≡ 0 → y.progress ≡ p
          by true e z = absurd (omega (arith, b.less e, z, b.along.takes, b.along.writes))
          by false e z = b.unmoved e ∙ a.unmoved (omega (arith, z, b.along.takes, b.along.writes))

      -- .. the last of which does nothing
      pub stage_calls : goes ≡ false → Calls last w out p out₂ y
      stage_calls e = record {
        stage = stage_then;
        halts = subst (λ (k : ℕ). Halts last (drop y.taken w) (k - y.written) y.progress) (same_room a.along) (b.halts e);
      }
