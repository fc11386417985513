-- Ticks that are noted one after the other.
use Rattle.std.specs.Prelude.{◌≡◌, cond, List, [], ◌∷◌, ℕ, ◌+◌, ◌≤◌, ◌<◌, eqb, ℤ, pos, set}
use Rattle.std.proofs.Math.Path.{refl, ap, subst}
use Rattle.std.proofs.Common.{sym, ◌∙◌, add-one, arith, eq-eqb, ne_eqb}
use borrow.Author.Count.{below_none, below_more}
use Rattle.std.proofs.Math.ListN.{length}
use Rattle.lists.specs.MapTo.{map_to}
use Rattle.rules.specs.Limits.{nobody, max_threads, apps, clock_end}
use Rattle.quantities.specs.declared.Moment.{Moment}
use Rattle.rules.specs.Threads.{State, at}
use Rattle.rules.specs.Table.{Table}
use Rattle.rules.specs.Leaving.{gone}
use Rattle.rules.specs.Choice.{chosen, idled}
use Rattle.rules.specs.Charge.{charged, moved}
use Rattle.rules.specs.Step.{Stepped, ready, stepped}
use Rattle.rules.specs.Run.{state_after}
use Rattle.rules.specs.Calls.{Given}
use Rattle.rules.specs.History.{Happening, granted, idle_tick, leavings, tick_as, tick_of, ticks_of}
use Rattle.rules.specs.Stretches.{Activity, activity_at, runs, forgets, noted, activities, ends, stretches, cut_to, app_of}
use Rattle.rules.specs.Report.{over_lines, told, stand}
use Rattle.promises.specs.Branches.{by_step}
use Rattle.promises.specs.Good.{Good}
use Rattle.promises.specs.Ready.{ready_ready, chosen_leads, gone_beside, ready_beside}
use Rattle.promises.specs.Always.{given_good, given_steps}
use Rattle.promises.specs.Taken.{steps_early}
use Rattle.stretches.specs.Standing.{Kept}
use Rattle.stretches.specs.Calls.{kept_gone, kept_ticks}
use Rattle.text.specs.Put.{Put}
use Rattle.text.specs.declared.report.How.TheVariants.{Idle}
use Rattle.accounts.specs.Told.{room, put_as, put_length, Tells, tells_none, tells_one, tells_then}
use Rattle.accounts.specs.Lines.{Lined, lined, held_lines, held_idle}

-- ---- one tick, by who had it; its deadline is not told
abbrev pub had_as : ℕ → ℕ → Happening
had_as had tick = cond (eqb had nobody) (idle_tick tick) (granted had tick (pos 0))

-- what the code needs for it
pub record Taken (t : Table) (cs : List Activity) (had tick : ℕ) : Type 0 where
  pub sixteen : length cs ≡ apps
  pub lines : (a : ℕ) → a < apps → Lined t a tick (activity_at cs a)
  pub inside : (had ≡ nobody → ⊥) → (had < max_threads) × (app_of t had < apps)

module _ {t : Table} {cs : List Activity} {had tick : ℕ} (k : Taken t cs had tick) where
  -- an idle tick
  pub taken_idle : had ≡ nobody → {out out' : List ℕ} {from used : ℕ} {cs' : List Activity} → Put out from (held_lines t Idle tick cs apps) out' used → cs' ≡ map_to apps forgets cs → Tells t cs (had_as had tick ∷ []) out from out' used cs'
  unfolding noted ends
  taken_idle e {out} {out'} {from} {used} {cs'} p f =
      subst (λ (h : Happening). Tells t cs (h ∷ []) out from out' used cs') (sym (rw (eq-eqb had nobody e) refl))
      (tells_one (idle_tick tick) (put_as (held_idle t tick cs apps ∙ ap (λ n. over_lines t (cut_to tick cs n)) (sym k.sixteen)) p) (f ∙ ap (λ n. map_to n forgets cs) (sym k.sixteen)))

  -- a granted one
  pub taken_granted : (had ≡ nobody → ⊥) → (out : List ℕ) (from : ℕ) {cs' : List Activity} → cs' ≡ set cs (app_of t had) (runs (activity_at cs (app_of t had))) → Tells t cs (had_as had tick ∷ []) out from out from cs'
  unfolding noted ends over_lines
  taken_granted f out from {cs'} e =
      subst (λ (h : Happening). Tells t cs (h ∷ []) out from out from cs') (sym (rw (ne_eqb had nobody f) refl))
      (tells_one (granted had tick (pos 0)) (record { next = omega arith; stored = refl }) e)

-- ---- the tick of a state
-- who had it tells it, whatever the deadline
tells_had : {t : Table} {cs : List Activity} {out out' : List ℕ} {from used : ℕ} {cs' : List Activity} (i j : ℕ) (e e' : ℤ) → Tells t cs (granted i j e ∷ []) out from out' used cs' → Tells t cs (granted i j e' ∷ []) out from out' used cs'
unfolding stretches activities ends noted
tells_had i j e e' a = record { put = a.put; stands = a.stands }

module _ {t : Table} {s : State} {cs : List Activity} (good : Good s) (k : Kept t s cs) (early : s.clock.0 ≡ clock_end → ⊥) where
  pub taken_by : (had : ℕ) → had ≡ (stepped s).state.had → (cs' : List Activity) → cs' ≡ stand t cs (leavings s) → Taken t cs' had s.clock.0
  unfolding moved idled charged
  taken_by had e cs' f = rw (e, f) (record {
    sixteen = g.sixteen;
    lines = λ a l. subst (λ (m : Moment). Lined t a m.0 (activity_at (stand t cs (leavings s)) a)) (gone_beside s).clock (lined g (omega (arith, (gone_beside s).q, good.q_max)) (omega (arith, ap (λ (m : Moment). m.0) (gone_beside s).clock, good.time)) a l);
    inside = by_step s (λ (r : Stepped). (r.state.had ≡ nobody → ⊥) → (r.state.had < max_threads) × (app_of t r.state.had < apps)) (λ z. absurd (early z)) (λ _ _ n. absurd (n refl))
        (λ _ n _. let i = (chosen_leads (ready_ready good) n).leads.inside in (omega (arith, i, (ready_ready good).sound.rows.few), g.tied.app_max (chosen (ready s)) (omega (arith, i, (gone_beside s).count, (ready_beside s).count))));
  })
    where
      g : Kept t (gone s) (stand t cs (leavings s))
      g = kept_gone s good k

  -- those that leave, and then who had it
  pub tells_tick : {out out' out'' : List ℕ} {from used used'' : ℕ} {cs' cs'' : List Activity} (had : ℕ) → had ≡ (stepped s).state.had → Tells t cs (leavings s) out from out' used cs' → Tells t cs' (had_as had s.clock.0 ∷ []) out' used out'' used'' cs'' → Tells t cs (tick_of s) out from out'' used'' cs''
  unfolding tick_of moved idled charged
  tells_tick {out} {out'} {out''} {from} {used} {used''} {cs'} {cs''} had e a b = all (rw e at b)
    where
      all : Tells t cs' (had_as (stepped s).state.had s.clock.0 ∷ []) out' used out'' used'' cs'' → Tells t cs (tick_as (stepped s).outcome s) out from out'' used'' cs''
      all = by_step s (λ (r : Stepped). Tells t cs' (had_as r.state.had s.clock.0 ∷ []) out' used out'' used'' cs'' → Tells t cs (tick_as r.outcome s) out from out'' used'' cs'')
          (λ z _. absurd (early z))
          (λ _ _ d. tells_then (leavings s) (idle_tick s.clock.0 ∷ []) a d)
          (λ _ n d. tells_then (leavings s) (granted (chosen (ready s)) s.clock.0 (at (ready s).threads (chosen (ready s))).e.0 ∷ []) a (tells_had (chosen (ready s)) s.clock.0 (pos 0) _ (subst (λ b. Tells t cs' (cond b (idle_tick s.clock.0) (granted (chosen (ready s)) s.clock.0 (pos 0)) ∷ []) out' used out'' used'' cs'') (ne_eqb (chosen (ready s)) nobody n) d)))

-- ---- k ticks that were noted
pub record Noted (t : Table) (cs : List Activity) (s : State) (n k : ℕ) (out : List ℕ) (from : ℕ) (out' : List ℕ) (used : ℕ) (cs' : List Activity) (z : State) : Type 0 where
  pub most : k ≤ n
  pub state : z ≡ state_after k s
  pub tells : Tells t cs (ticks_of k s) out from out' used cs'
  pub fits : used ≤ length out
  pub roomy : (j : ℕ) → j < k → from + length (told t cs (ticks_of j s)) + room ≤ length out

-- .. as many as there was room for
pub record NotedTo (t : Table) (cs : List Activity) (s : State) (n : ℕ) (out : List ℕ) (from : ℕ) (out' : List ℕ) (used : ℕ) (cs' : List Activity) (z : State) : Type 0 where
  pub count : ℕ
  pub noted : Noted t cs s n count out from out' used cs' z
  pub ended : count < n → length out < used + room

-- no tick, and one tick more
module _ (t : Table) (cs : List Activity) (s : State) (n : ℕ) (out : List ℕ) (from : ℕ) where
  pub noted_none : from ≤ length out → Noted t cs s n 0 out from out from cs s
  unfolding ticks_of state_after
  noted_none h = record { most = omega arith; state = refl; tells = tells_none; fits = h; roomy = below_none (λ (j : ℕ). from + length (told t cs (ticks_of j s)) + room ≤ length out) }

  module _ (k : ℕ) {out' : List ℕ} {used : ℕ} {cs' : List Activity} {z : State} (l : Noted t cs s n k out from out' used cs' z) where
    pub same_room : length out' ≡ length out
    same_room = put_length l.tells.put

    pub noted_more : k < n → used + room ≤ length out' → {out'' : List ℕ} {used'' : ℕ} {cs'' : List Activity} {y : State} → y ≡ (stepped z).state → Tells t cs' (tick_of z) out' used out'' used'' cs'' → used'' ≤ used + room → Noted t cs s n (k + 1) out from out'' used'' cs'' y
    unfolding ticks_of state_after
    noted_more h r {out''} {used''} {cs''} {y} e d w = record {
      most = omega arith;
      state = e ∙ ap (λ (x : State). (stepped x).state) l.state ∙ ap (λ (m : ℕ). state_after m s) (sym (add-one k));
      tells = subst (λ m. Tells t cs (ticks_of m s) out from out'' used'' cs'') (sym (add-one k)) (tells_then (ticks_of k s) (tick_of (state_after k s)) l.tells (subst (λ (x : State). Tells t cs' (tick_of x) out' used out'' used'' cs'') l.state d));
      fits = omega (arith, same_room);
      roomy = below_more (λ (j : ℕ). from + length (told t cs (ticks_of j s)) + room ≤ length out) k l.roomy (omega (arith, l.tells.put.next, same_room));
    }

    -- the loop ends
    pub noted_to : (k < n → length out' < used + room) → NotedTo t cs s n out from out' used cs' z
    noted_to h = record { count = k; noted = l; ended = λ j. omega (arith, same_room, h j) }

-- the state and the applications at a tick
pub kept_at : {t : Table} {cs : List Activity} {s : State} {n k : ℕ} {out : List ℕ} {from : ℕ} {out' : List ℕ} {used : ℕ} {cs' : List Activity} {z : State} → Given s → Kept t s cs → Noted t cs s n k out from out' used cs' z → Kept t z cs'
kept_at {k = k} {z = z} g h l = rw (l.state, l.tells.stands) (kept_ticks k _ (given_good g) h)

pub given_at : {s z : State} (i : ℕ) → z ≡ state_after i s → Given s → Given z
given_at i e g = subst Given (sym e) (given_steps i g)

pub early_at : (s z : State) (i n : ℕ) → z ≡ state_after i s → i < n → s.clock.0 + n ≤ clock_end → z.clock.0 ≡ clock_end → ⊥
early_at s z i n e h l f = steps_early i n s h l (ap (λ (x : State). x.clock.0) (sym e) ∙ f)
