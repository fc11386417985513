-- Nothing is left out of an account: every accepted completion of the thread is one of its completed jobs, and every tick that
-- it was granted is in the length of a job.
use Rattle.std.specs.Prelude.{◌≡◌, refl, Bool, true, false, cond, T, eqb, take}
use Rattle.std.proofs.Common.{sym, ap, ◌∙◌, subst, not-suc-le-zero, eqb-true}
use mathlib.Core.List.{List, [], ◌∷◌, ◌++◌, map, map-append, append_assoc, append-nil}
use Prim.Native.Nat.{ℕ, zero, suc, ◌+◌, ◌-◌, ◌<◌}
use native.Mathlib.Omega.{arith}
use Rattle.std.proofs.Math.ListN.{length}
use Rattle.lists.specs.Sum.{sum_by, sum_append}
use Rattle.lists.specs.All.{All, none, more, all_append}
use Rattle.rules.specs.Limits.{nobody}
use Rattle.rules.specs.Threads.{State, at, contends}
use Rattle.rules.specs.Table.{Answer, Done, Refused, Answered}
use Rattle.rules.specs.Completion.{completion}
use Rattle.rules.specs.Leaving.{gone}
use Rattle.rules.specs.Arrival.{arrival}
use Rattle.rules.specs.Drop.{dropped}
use Rattle.rules.specs.Choice.{chosen}
use Rattle.rules.specs.Step.{Stepped, ready}
use Rattle.rules.specs.Run.{state_after, ran}
use Rattle.rules.specs.Calls as calls
use Rattle.rules.specs.Calls.{Call, apply}
use Rattle.rules.specs.History.{Happening, completed, arrived, dropped_to_head, granted, idle_tick, became_active, became_inactive, if_done, retiring, leavings, tick_as, tick_of, ticks_of, run_as, happens, history, Job, Finished, Account, figure_of, longer, complete_head, with_waiting, account_of, account, completions_of, grants_to}
use Rattle.promises.specs.Cases.{by_test}
use Rattle.promises.specs.Branches.{by_completion, by_step}
use Rattle.promises.specs.Good.{Good}
use Rattle.promises.specs.Row.{has_job}
use Rattle.promises.specs.Keep.{fine_at}
use Rattle.promises.specs.Ready.{ready_ready, chosen_leads}
use Rattle.promises.specs.Always.{steps_good, apply_good}
use Rattle.promises.specs.Books.{Books, ready_standing}
use Rattle.promises.specs.Happenings.{leavings_all, waking_all, retiring_all}
use Rattle.promises.specs.Accounts.{account_still, leavings_unseen, completions_cons, grants_cons}
use Rattle.promises.specs.Ledger.{ticks_books, call_books}

-- ---- of an account alone
-- the moments of its completed jobs, and the ticks in all its jobs
abbrev moments_in : Account → List ℕ
moments_in g = map (λ (f : Finished). f.completion) g.finished

abbrev ticks_in : Account → ℕ
ticks_in g = sum_by (λ (f : Finished). f.job.length) g.finished + sum_by (λ (j : Job). j.length) g.waiting

-- only the job at the head has had ticks
abbrev HeadOnly : List Job → Type 0
HeadOnly [] = Unit {0}
HeadOnly (j ∷ js) = All (λ k. k.length ≡ 0) js

-- a completion or a tick of thread i comes only while a job of it waits
abbrev Fed : ℕ → Account → Happening → Type 0
Fed i g (completed k t) = k ≡ i → 0 < length g.waiting
Fed i g (arrived k t) = Unit {0}
Fed i g (dropped_to_head k t) = Unit {0}
Fed i g (granted k t e) = k ≡ i → 0 < length g.waiting
Fed i g (idle_tick t) = Unit {0}
Fed i g (became_active k t) = Unit {0}
Fed i g (became_inactive k t z f) = Unit {0}

abbrev AllFed : ℕ → ℕ → ℕ → Account → List Happening → Type 0
AllFed q u i g [] = Unit {0}
AllFed q u i g (h ∷ hs) = Fed i g h × AllFed q u i (account_of q u i g h) hs

module _ (q u i : ℕ) (g : Account) where
  -- one thing more
  one_moment : (h : Happening) → Fed i g h → moments_in (account_of q u i g h) ≡ moments_in g ++ completions_of i (h ∷ [])
  unfolding completions_of
  one_moment (completed k t) f = go (eqb k i) (λ e. f (eqb-true k i e))
    where
      head : (js : List Job) → 0 < length js → moments_in (complete_head q u t g js) ≡ moments_in g ++ (t ∷ [])
      head [] h = absurd (not-suc-le-zero h)
      head (j ∷ js) h = map-append (λ (f : Finished). f.completion) g.finished _

      go : (b : Bool) → (b ≡ true → 0 < length g.waiting) → moments_in (cond b (complete_head q u t g g.waiting) g) ≡ moments_in g ++ cond b (t ∷ []) []
      go true h = head g.waiting (h refl)
      go false h = sym (append-nil (moments_in g))
  one_moment (arrived k t) f = by_test (λ (a : Account). moments_in a ≡ moments_in g ++ []) (eqb k i) (λ _. sym (append-nil (moments_in g))) (λ _. sym (append-nil (moments_in g)))
  one_moment (dropped_to_head k t) f = by_test (λ (a : Account). moments_in a ≡ moments_in g ++ []) (eqb k i) (λ _. sym (append-nil (moments_in g))) (λ _. sym (append-nil (moments_in g)))
  one_moment (granted k t e) f = by_test (λ (a : Account). moments_in a ≡ moments_in g ++ []) (eqb k i) (λ _. sym (append-nil (moments_in g))) (λ _. sym (append-nil (moments_in g)))
  one_moment (idle_tick t) f = sym (append-nil (moments_in g))
  one_moment (became_active k t) f = sym (append-nil (moments_in g))
  one_moment (became_inactive k t z b) f = sym (append-nil (moments_in g))

  one_head : (h : Happening) → HeadOnly g.waiting → HeadOnly (account_of q u i g h).waiting
  one_head (completed k t) o = by_test P (eqb k i) (λ _. go g.waiting o) (λ _. o)
    where
      P : Account → Type 0
      P a = HeadOnly a.waiting

      rest : (js : List Job) → All (λ k. k.length ≡ 0) js → HeadOnly js
      rest [] o = tt
      rest (j ∷ js) (more p o) = o

      go : (js : List Job) → HeadOnly js → P (complete_head q u t g js)
      go [] o' = o
      go (j ∷ js) o' = rest js o'
  one_head (arrived k t) o = by_test (λ (a : Account). HeadOnly a.waiting) (eqb k i) (λ _. go g.waiting o) (λ _. o)
    where
      go : (js : List Job) → HeadOnly js → HeadOnly (js ++ (record { arrival = t; length = 0 } ∷ []))
      go [] o = none
      go (j ∷ js) o = all_append o (more refl none)
  one_head (dropped_to_head k t) o = by_test (λ (a : Account). HeadOnly a.waiting) (eqb k i) (λ _. go g.waiting) (λ _. o)
    where
      go : (js : List Job) → HeadOnly (take 1 js)
      go [] = tt
      go (j ∷ js) = none
  one_head (granted k t e) o = by_test (λ (a : Account). HeadOnly a.waiting) (eqb k i) (λ _. go g.waiting o) (λ _. o)
    where
      go : (js : List Job) → HeadOnly js → HeadOnly (longer js)
      go [] o = o
      go (j ∷ js) o = o
  one_head (idle_tick t) o = o
  one_head (became_active k t) o = o
  one_head (became_inactive k t z f) o = o

  abbrev lengths : List Job → ℕ
  lengths js = sum_by (λ (j : Job). j.length) js

  one_tick : (h : Happening) → Fed i g h → HeadOnly g.waiting → ticks_in (account_of q u i g h) ≡ ticks_in g + grants_to i (h ∷ [])
  unfolding grants_to sum_by
  one_tick (completed k t) f o = by_test P (eqb k i) (λ _. go g.waiting refl) (λ _. omega arith)
    where
      P : Account → Type 0
      P a = ticks_in a ≡ ticks_in g + 0

      go : (js : List Job) → g.waiting ≡ js → P (complete_head q u t g js)
      go [] e = omega arith
      go (j ∷ js) e = omega (arith, ap lengths e, sum_append (λ (f : Finished). f.job.length) g.finished (record { job = j; completion = t; figure = figure_of q u g.previous j } ∷ []))
  one_tick (arrived k t) f o = by_test (λ (a : Account). ticks_in a ≡ ticks_in g + 0) (eqb k i) (λ _. omega (arith, sum_append (λ (j : Job). j.length) g.waiting (record { arrival = t; length = 0 } ∷ []))) (λ _. omega arith)
  one_tick (dropped_to_head k t) f o = by_test (λ (a : Account). ticks_in a ≡ ticks_in g + 0) (eqb k i) (λ _. omega (arith, go g.waiting o)) (λ _. omega arith)
    where
      none_more : {js : List Job} → All (λ k. k.length ≡ 0) js → lengths js ≡ 0
      none_more none = refl
      none_more (more p a) = omega (arith, p, none_more a)

      go : (js : List Job) → HeadOnly js → lengths (take 1 js) ≡ lengths js
      go [] o = refl
      go (j ∷ js) o = omega (arith, none_more o)
  one_tick (granted k t e) f o = go (eqb k i) (λ e. f (eqb-true k i e))
    where
      head : (js : List Job) → 0 < length js → lengths (longer js) ≡ lengths js + 1
      head [] h = absurd (not-suc-le-zero h)
      head (j ∷ js) h = omega arith

      go : (b : Bool) → (b ≡ true → 0 < length g.waiting) → ticks_in (cond b (with_waiting g (longer g.waiting)) g) ≡ ticks_in g + (cond b 1 0 + 0)
      go true h = omega (arith, head g.waiting (h refl))
      go false h = omega arith
  one_tick (idle_tick t) f o = omega arith
  one_tick (became_active k t) f o = omega arith
  one_tick (became_inactive k t z b) f o = omega arith

-- the whole history
pub moments_counted : (q u i : ℕ) (hs : List Happening) (g : Account) → AllFed q u i g hs → moments_in (account q u i g hs) ≡ moments_in g ++ completions_of i hs
unfolding account completions_of
moments_counted q u i [] g f = sym (append-nil (moments_in g))
moments_counted q u i (h ∷ hs) g f =
    moments_counted q u i hs (account_of q u i g h) f.1
    ∙ ap (λ (l : List ℕ). l ++ completions_of i hs) (one_moment q u i g h f.0)
    ∙ append_assoc (moments_in g) (completions_of i (h ∷ [])) (completions_of i hs)
    ∙ ap (λ (l : List ℕ). moments_in g ++ l) (sym (completions_cons i h hs))

pub ticks_counted : (q u i : ℕ) (hs : List Happening) (g : Account) → AllFed q u i g hs → HeadOnly g.waiting → ticks_in (account q u i g hs) ≡ ticks_in g + grants_to i hs
unfolding account
ticks_counted q u i [] g f o = unfold grants_to in omega arith
ticks_counted q u i (h ∷ hs) g f o = omega (arith, ticks_counted q u i hs (account_of q u i g h) f.1 (one_head q u i g h o), one_tick q u i g h f.0 o, grants_cons i h hs)

-- ---- the history of calls feeds the account
fed_append : (q u i : ℕ) (hs ks : List Happening) (g : Account) → AllFed q u i g hs → AllFed q u i (account q u i g hs) ks → AllFed q u i g (hs ++ ks)
unfolding account
fed_append q u i [] ks g f k = k
fed_append q u i (h ∷ hs) ks g f k = (f.0, fed_append q u i hs ks (account_of q u i g h) f.1 k)

-- .. and so do things that ask nothing
module _ (q u i : ℕ) where
  abbrev Asks-nothing : Happening → Type 0
  Asks-nothing h = (g : Account) → Fed i g h

  all_fed : {hs : List Happening} → All Asks-nothing hs → (g : Account) → AllFed q u i g hs
  all_fed none g = tt
  all_fed (more {x = h} p a) g = (p g, all_fed a (account_of q u i g h))

  leavings_feed : (s : State) → All Asks-nothing (leavings s)
  leavings_feed s = leavings_all Asks-nothing (λ _ _ _ _ _. tt) s

  -- an event that is refused, or asks nothing
  other_fed : (g : Account) (a : Answer) {hs : List Happening} → All Asks-nothing hs → AllFed q u i g (if_done a hs)
  other_fed g Done p = all_fed p g
  other_fed g (Refused n) p = tt

  -- a tick after those who leave
  left_fed : (g : Account) (s : State) (hs : List Happening) → AllFed q u i g hs → AllFed q u i g (leavings s ++ hs)
  left_fed g s hs f = fed_append q u i (leavings s) hs g (all_fed (leavings_feed s) g) (rw (account_still q u i (leavings_unseen q u i s) g) f)

module _ {q u p i : ℕ} where
  tick_fed : {g : Account} {s : State} → Good s → Books q u p i g s → AllFed q u i g (tick_of s)
  unfolding tick_of
  tick_fed {g} {s} good b = by_step s P (λ _. tt) (λ _ _. left_fed q u i g s (idle_tick s.clock.0 ∷ []) (tt, tt))
      (λ _ n. left_fed q u i g s (granted (chosen (ready s)) s.clock.0 (at (ready s).threads (chosen (ready s))).e.0 ∷ []) (runs n, tt))
    where
      P : Stepped → Type 0
      P r = AllFed q u i g (tick_as r.outcome s)

      runs : (chosen (ready s) ≡ nobody → ⊥) → chosen (ready s) ≡ i → 0 < length g.waiting
      runs n e =
          let k = ready_standing good b in
          let l = (chosen_leads (ready_ready good) n).leads in
          let c : T (contends (at (ready s).threads i)) = subst (λ (j : ℕ). T (contends (at (ready s).threads j))) e l.runs in
          omega (arith, has_job (ready s).q (ready s).clock.0 (at (ready s).threads i) (fine_at k.rows i k.inside) c, k.agrees.count)

  ticks_fed : (n : ℕ) {g : Account} {s : State} → Good s → Books q u p i g s → AllFed q u i g (ticks_of n s)
  unfolding ticks_of
  ticks_fed zero good b = tt
  ticks_fed (suc n) {g} {s} good b = fed_append q u i (ticks_of n s) (tick_of (state_after n s)) g (ticks_fed n good b) (tick_fed (steps_good n good) (ticks_books n good b))

  complete_fed : (j : ℕ) {g : Account} {s : State} → Good s → Books q u p i g s → AllFed q u i g (if_done (completion s j).answer (completed j s.clock.0 ∷ retiring s j))
  complete_fed j {g} {s} good b = by_completion s P j (λ _. tt) (λ h c d e. (runs h c d e, all_fed q u i (retiring_all (Asks-nothing q u i) (λ _ _ _ _ _. tt) s j) _))
    where
      P : Answered → Type 0
      P r = AllFed q u i g (if_done r.answer (completed j s.clock.0 ∷ retiring s j))

      runs : j < s.count → s.closed ≡ false → s.completed ≡ false → j ≡ s.had → j ≡ i → 0 < length g.waiting
      runs h c d e o =
          let l = good.head_start c d (omega arith) in
          let k : T (contends (at s.threads i)) = subst (λ (m : ℕ). T (contends (at s.threads m))) (sym e ∙ o) l.runs in
          omega (arith, has_job s.q s.clock.0 (at s.threads i) (fine_at good.rows i b.inside) k, b.agrees.count)

  run_fed : (a : Answer) (n : ℕ) {g : Account} {s : State} → Good s → Books q u p i g s → AllFed q u i g (run_as a n s)
  run_fed Done n good b = ticks_fed n good b
  run_fed (Refused m) n good b = tt

  call_fed : (c : Call) {g : Account} {s : State} → Good s → Books q u p i g s → AllFed q u i g (happens s c)
  call_fed (calls.complete j) good b = complete_fed j good b
  call_fed (calls.arrive j) {g} {s} good b = other_fed q u i g (arrival s j).answer (all_append (leavings_feed q u i s) (all_append (waking_all (Asks-nothing q u i) (λ _ _ _. tt) (gone s) j) (more (λ _. tt) none)))
  call_fed (calls.drop j) {g} {s} good b = other_fed q u i g (dropped s j).answer {hs = dropped_to_head j s.clock.0 ∷ []} (more (λ _. tt) none)
  call_fed calls.step good b = tick_fed good b
  call_fed (calls.run to row) {g} {s} good b = run_fed (ran s to row).result.answer (to - s.clock.0) good b

  pub history_fed : (cs : List Call) {g : Account} {s : State} → Good s → Books q u p i g s → AllFed q u i g (history s cs)
  unfolding history
  history_fed [] good b = tt
  history_fed (c ∷ cs) {g} {s} good b = fed_append q u i (happens s c) (history (apply s c) cs) g (call_fed c good b) (history_fed cs (apply_good c good) (call_books c good b))
