-- Ticks that are listed one after the other.
use Rattle.std.specs.Prelude.{◌≡◌, refl, ℕ, ◌+◌, ◌-◌, ◌≤◌, ◌<◌, ◌^◌, eqb, ℤ}
use Rattle.std.proofs.Math.Path.{sym, ap}
use Rattle.std.proofs.Common.{◌∙◌, subst, add-zero, add-one, arith, SFits}
use mathlib.Core.List.{List, ◌++◌}
use Rattle.std.proofs.Math.Decide.{ℕ_discrete}
use borrow.Author.Count.{below_none, below_more}
use Rattle.std.proofs.lemmas.Bool.{eqb-false}
use Rattle.std.proofs.Math.ListN.{length, length-append}
use Rattle.std.proofs.Math.Seq.{sets, length-sets}
use Rattle.std.specs.Int.{w64}
use Rattle.integers.specs.Parts.{Small, sfits_parts}
use Rattle.lists.specs.Sets.{sets_chain}
use Rattle.rules.specs.Limits.{nobody, clock_end}
use Rattle.rules.specs.Threads.{State, at}
use Rattle.rules.specs.Choice.{chosen, idled}
use Rattle.rules.specs.Charge.{charged, moved}
use Rattle.rules.specs.Step.{Stepped, ready, stepped}
use Rattle.rules.specs.Run.{state_after}
use Rattle.rules.specs.Calls.{Given}
use Rattle.rules.specs.Calls as calls
use Rattle.rules.specs.Listing.{tick_line, tick_lines, grant_line, idle_line}
use Rattle.promises.specs.Cases.{by_test}
use Rattle.promises.specs.Good.{Good}
use Rattle.promises.specs.Ready.{ready_ready, chosen_leads}
use Rattle.promises.specs.Always.{given_good, given_by, given_steps}
use Rattle.promises.specs.Sound.{given_sound}
use Rattle.promises.specs.Taken.{step_is, steps_clock, steps_early}
use Rattle.windows.specs.Advance.{longest}
use Rattle.windows.specs.Lines.{idle_line_lem, grant_line_lem}
use Rattle.text.specs.Laws.{grant_longest, idle_longest}
use Rattle.text.specs.Put.{put_out, put_to}
use Rattle.text.specs.Room.{put_room}
use Rattle.listing.specs.Way.{Listed, ListedTo}

-- who had a tick is a thread of the table
pub had_in : {s : State} → Good s → (s.clock.0 ≡ clock_end → ⊥) → ((stepped s).state.had ≡ nobody → ⊥) → (stepped s).state.had < (stepped s).state.count
unfolding moved charged idled
had_in {s} g e =
    subst (λ (r : Stepped). (r.state.had ≡ nobody → ⊥) → r.state.had < r.state.count) (sym (step_is s e))
    (by_test (λ (r : Stepped). (r.state.had ≡ nobody → ⊥) → r.state.had < r.state.count) (eqb (chosen (ready s)) nobody)
    (λ _ some. absurd (some refl))
    (λ f _. (chosen_leads (ready_ready g) (eqb-false (chosen (ready s)) nobody f)).leads.inside))

small_fits : (z : ℤ) → Small z → SFits w64 z
small_fits z h = sfits_parts w64 z (omega arith) (omega arith)

-- the line of a tick has room in 64 bytes
pub tick_longest : {s : State} → Given s → (s.clock.0 ≡ clock_end → ⊥) → length (tick_line s) ≤ longest
tick_longest {s} g early = by (ℕ_discrete (stepped s).state.had nobody)
  where
    time : s.clock.0 < 2 ^ 32
    time = let t = (given_sound g).time in omega arith

    by : Dec ((stepped s).state.had ≡ nobody) → length (tick_line s) ≤ longest
    by (yes e) = rw (idle_line_lem s early e) (idle_longest s.clock.0 time)
    by (no f) =
        let n = given_sound (given_by g calls.step) in
        let h = had_in (given_good g) early f in
        let o = n.ok (stepped s).state.had h in
        rw (grant_line_lem s early f)
        (grant_longest s.clock.0 (stepped s).state.had (at (stepped s).state.threads (stepped s).state.had).app _ _ time (let k = n.few in omega arith) (let a = o.app_max in omega arith) (small_fits _ o.e_small) (small_fits _ o.w_small))

-- ---- no tick, and one tick more
module _ (out : List ℕ) (from : ℕ) (s : State) (n : ℕ) where
  pub listed_none : from ≤ length out → Listed out from s n 0 out from s
  unfolding tick_lines state_after
  listed_none h = record { most = omega arith; state = refl; stored = refl; writes = sym (add-zero from); fits = h; roomy = below_none (λ (j : ℕ). from + length (tick_lines j s) + longest ≤ length out) }

  module _ (k : ℕ) {out' : List ℕ} {used : ℕ} {z : State} (l : Listed out from s n k out' used z) where
    pub same_room : length out' ≡ length out
    same_room = ap length l.stored ∙ length-sets out from (tick_lines k s)

    pub listed_more : k < n → used + longest ≤ length out → length (tick_line z) ≤ longest → Listed out from s n (k + 1) (sets out' used (tick_line z)) (used + length (tick_line z)) (stepped z).state
    unfolding tick_lines state_after
    listed_more h room short = record {
      most = omega arith;
      state = ap (λ (x : State). (stepped x).state) l.state ∙ ap (λ (m : ℕ). state_after m s) (sym (add-one k));
      stored = ap (λ (x : List ℕ). sets x used (tick_line z)) l.stored ∙ ap (λ (m : ℕ). sets (sets out from (tick_lines k s)) m (tick_line z)) l.writes ∙ sets_chain out from (tick_lines k s) (tick_line z) ∙ ap (sets out from) more;
      writes = omega (arith, l.writes, ap length more, length-append (tick_lines k s) (tick_line z));
      fits = omega arith;
      roomy = below_more (λ (j : ℕ). from + length (tick_lines j s) + longest ≤ length out) k l.roomy (subst (λ (u : ℕ). u + longest ≤ length out) l.writes room);
    }
      where
        more : tick_lines k s ++ tick_line z ≡ tick_lines (k + 1) s
        more = ap (λ (x : State). tick_lines k s ++ tick_line x) l.state ∙ ap (λ (m : ℕ). tick_lines m s) (sym (add-one k))

-- ---- as the code finds them
pub early_at : (s z : State) (i n : ℕ) → z ≡ state_after i s → i < n → s.clock.0 + n ≤ clock_end → z.clock.0 ≡ clock_end → ⊥
early_at s z i n e h l f = steps_early i n s h l (ap (λ (x : State). x.clock.0) (sym e) ∙ f)

pub given_at : {s z : State} (i : ℕ) → z ≡ state_after i s → Given s → Given z
given_at i e g = subst Given (sym e) (given_steps i g)

module _ (z y : State) (g : Given z) (early : z.clock.0 ≡ clock_end → ⊥) (next : y ≡ (stepped z).state) where
  pub clock_next : y.clock.0 ≡ z.clock.0 + 1
  unfolding state_after
  clock_next = ap (λ (x : State). x.clock.0) next ∙ steps_clock 1 z (let t = (given_sound g).time in omega (arith, early))

  clock_before : y.clock.0 - 1 ≡ z.clock.0
  clock_before = omega (arith, clock_next)

  pub line_idle : y.had ≡ nobody → idle_line (y.clock.0 - 1) ≡ tick_line z
  line_idle e = ap idle_line clock_before ∙ sym (idle_line_lem z early (ap (λ (x : State). x.had) (sym next) ∙ e))

  pub line_grant : (y.had ≡ nobody → ⊥) → grant_line (y.clock.0 - 1) y.had (at y.threads y.had).app (at y.threads y.had).e.0 (at y.threads y.had).w.0 ≡ tick_line z
  line_grant f =
      ap (λ (t : ℕ). grant_line t y.had (at y.threads y.had).app (at y.threads y.had).e.0 (at y.threads y.had).w.0) clock_before
      ∙ ap (λ (x : State). grant_line z.clock.0 x.had (at x.threads x.had).app (at x.threads x.had).e.0 (at x.threads x.had).w.0) next
      ∙ sym (grant_line_lem z early (λ e. f (ap (λ (x : State). x.had) next ∙ e)))

  pub had_below : (y.had ≡ nobody → ⊥) → y.had < 64
  had_below f =
      let h = had_in (given_good g) early (λ e. f (ap (λ (x : State). x.had) next ∙ e)) in
      let k = (given_sound (given_by g calls.step)).few in
      let e = ap (λ (x : State). x.had) next in
      omega arith

  pub put_listed : (out : List ℕ) (from : ℕ) (s : State) (n k : ℕ) {out' : List ℕ} {used : ℕ} → Listed out from s n k out' used z → k < n → used + longest ≤ length out' → (t : List ℕ) → t ≡ tick_line z → (o : List ℕ) (u : ℕ) → o ≡ put_out out' used t → u ≡ put_to out' used t → Listed out from s n (k + 1) o u y
  put_listed out from s n k {out'} {used} l h room t text o u eo eu =
      let r = put_room out' used t room in
      let same = same_room out from s n k l in
      rw (eo ∙ r.1, eu ∙ r.0, next, text) (listed_more out from s n k l h (omega arith) (tick_longest g early))

-- the loop ends
pub listed_to : (out : List ℕ) (from : ℕ) (s : State) (n k : ℕ) {out' : List ℕ} {used : ℕ} {z : State} → Listed out from s n k out' used z → (k < n → length out' < used + longest) → ListedTo out from s n out' used z
listed_to out from s n k l h = record { count = k; listed = l; ended = λ j. let e = same_room out from s n k l in let f = h j in omega arith }
