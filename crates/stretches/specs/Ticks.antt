-- A tick: fitting, the charge or the idle tick, and the clock; what they do to where the applications stand.
use Rattle.std.specs.Prelude.{◌≡◌, refl, true, not, List, [], ◌∷◌, ℕ, zero, suc, ◌+◌, ◌*◌, ◌≤◌, ◌<◌, T, eqb, ℤ, pos, length, take, set}
use Rattle.std.proofs.Common.{sym, ◌∙◌, le_refl, not-suc-le-zero, le_of_suc-le-suc, arith}
use Rattle.std.proofs.Math.Path.{subst}
use Rattle.integers.specs.Parts.{up, dn, plus_parts}
use Rattle.lists.specs.Sum.{sum_by, sum_map, sum_store}
use Rattle.lists.specs.Take.{sum_at}
use Rattle.lists.specs.MapTo.{map_to, map_length, map_keeps, map_has}
use Rattle.lists.specs.All.{All, none, more, all_append, all_map}
use Rattle.rules.specs.Limits.{nobody, apps}
use Rattle.rules.specs.Threads.{Thread, State, Phase, Inactive, Contending, NonContending, blank, at, is_inactive, is_contending, idle, active, active_in, loses, free_share, free_of}
use Rattle.rules.specs.Table.{Table}
use Rattle.rules.specs.Fitting.{fit_in, fitted, room_of}
use Rattle.rules.specs.Choice.{idled}
use Rattle.rules.specs.Charge.{gains, benefits, charged, moved}
use Rattle.rules.specs.History.{granted, idle_tick}
use Rattle.rules.specs.Stretches.{Activity, quiet, activity_at, forgets, runs, noted, cut_to, ends, app_of, share_of}
use Rattle.promises.specs.Cases.{by_test, true_false}
use Rattle.promises.specs.Branches.{by_fitting}
use Rattle.promises.specs.Good.{Fine, Rows}
use Rattle.promises.specs.Keep.{benefits_at, benefits_sum}
use Rattle.promises.specs.Tick.{Chosen, charge_rows}
use Rattle.stretches.specs.Item8.{one, Even}
use Rattle.stretches.specs.Standing.{ups, downs, StandsIn, Tied, Low, Held, Kept}
use Rattle.stretches.specs.Stand.{stand_runs, stand_waits, stand_forgets}
use Rattle.stretches.specs.Figures.{Shifts, shifts, adds_one, own_active}
use Rattle.stretches.specs.Goes.{goes_one, held_set}
use Rattle.stretches.specs.Changes.{held_same}
use Rattle.stretches.specs.Puts.{tied_like, among, tied_put, put_other}
use Rattle.stretches.specs.Leavings.{GoesTo}
use Rattle.stretches.specs.Benefits.{due_own, due_other, tied_benefits, due}
use Rattle.stretches.specs.Shares.{downs_later, own_shares, free_part}

-- ---- a change of every thread
-- y has the application, the share and the W of x, and is as active
abbrev Like : Thread → Thread → Type 0
Like x y = (y.app ≡ x.app) × (y.share ≡ x.share) × (active y ≡ active x) × (y.w ≡ x.w)

tied_map : {t : Table} {q m : ℕ} {xs : List Thread} (f : Thread → Thread) → ((x : Thread) → ((f x).app ≡ x.app) × ((f x).share ≡ x.share)) → Tied t q m xs → Tied t q m (map_to m f xs)
tied_map {t} {q} {m} {xs} f e k = tied_like k (map_length m f xs) (λ i _. map_keeps {P = λ y. (y.app ≡ (at xs i).app) × (y.share ≡ (at xs i).share)} m f (λ y p. ((e y).0 ∙ p.0, (e y).1 ∙ p.1)) xs i blank (refl, refl))

held_mapped : {t : Table} {q m now : ℕ} {xs : List Thread} {cs : List Activity} → Held t q m now xs cs → (f : Thread → Thread) → ((x : Thread) → Like x (f x))
    → Held t q m now (map_to m f xs) cs
unfolding ups downs
held_mapped {t} {q} {m} {now} {xs} h f e =
    held_same h (tied_map f (λ x. ((e x).0, (e x).1)) h.tied) (all_map m m f xs (λ x l. rw (e x).3 l) (le_refl _) h.low)
    (λ a. record {
      ones = sum_map (one a) f (λ x. rw ((e x).0, (e x).2) refl) m m xs;
      amounts = omega (arith, sum_map (ups a) f (λ x. rw ((e x).0, (e x).2, (e x).3) refl) m m xs, sum_map (downs a now) f (λ x. rw ((e x).0, (e x).1, (e x).2, (e x).3) refl) m m xs);
    })

-- fitting changes E alone
pub kept_fitted : {t : Table} (s : State) {cs : List Activity} → Kept t s cs → Kept t (fitted s) cs
unfolding fitted
kept_fitted s k = held_mapped k (fit_in s) (λ x. by_fitting (Like x) (room_of s x) x (refl, refl, refl, refl) (λ _ _. (refl, refl, refl, refl)))

pub low_all : {q now : ℕ} {xs : List Thread} → All (Fine q now) xs → All (Low q now) xs
low_all none = none
low_all (more p a) = more p.w_up (low_all a)

-- ---- an idle tick
sum_made : {A : Type 0} (f : A → ℕ) (g : A → A) → ((x : A) → f (g x) ≡ 0) → (n m : ℕ) → n ≤ m → (xs : List A) → sum_by f (take n (map_to m g xs)) ≡ 0
unfolding sum_by map_to
sum_made f g z zero m l xs = refl
sum_made f g z (suc n) zero l xs = absurd (not-suc-le-zero l)
sum_made f g z (suc n) (suc m) l [] = refl
sum_made f g z (suc n) (suc m) l (x ∷ xs) = omega (arith, z x, sum_made f g z n m (le_of_suc-le-suc l) xs)

-- a stretch that it ends has not to be even
cut_evens : (t : Table) (j : ℕ) (cs : List Activity) (n : ℕ) → All (Even t) (cut_to j cs n)
unfolding cut_to
cut_evens t j cs zero = none
cut_evens t j cs (suc a) = all_append (cut_evens t j cs a) (by_test (All (Even t)) (eqb (activity_at cs a).active 0) (λ _. none) (λ _. more (λ e. absurd (true_false e)) none))

pub goes_idle : {t : Table} (s : State) {cs : List Activity} (j : ℕ) → Kept t s cs → GoesTo t (moved (idled s) nobody) cs (idle_tick j ∷ [])
unfolding moved idled noted ends
goes_idle {t} s {cs} j k = goes_one (idle_tick j) (record {
  tied = tied_map idle (λ x. (refl, refl)) k.tied;
  low = all_map s.count s.count idle s.threads (λ x l. omega arith) (le_refl _) k.low;
  sixteen = map_length (length cs) forgets cs ∙ k.sixteen;
  stands = λ a l. rw (map_has (length cs) forgets cs a quiet (omega (arith, k.sixteen)) (omega (arith, k.sixteen))) (stand_forgets (k.stands a l) (sum_made (one a) idle (λ x. refl) s.count s.count (le_refl _) s.threads));
}) (cut_evens t j cs (length cs)) tt

-- ---- a tick of thread c
pub runs_active : (p : Phase) → T (is_contending p) → not (is_inactive p) ≡ true
runs_active Inactive e = absurd e
runs_active Contending e = refl
runs_active NonContending e = refl

module _ {t : Table} (z : State) {cs : List Activity} (k : Kept t z cs) (rows : Rows z.count z.q z.clock.0 z.threads) (c : ℕ) (ch : Chosen z c) where
  abbrev m : ℕ
  m = z.count

  abbrev q : ℕ
  q = z.q

  abbrev now : ℕ
  now = z.clock.0

  abbrev xs : List Thread
  xs = z.threads

  abbrev x : Thread
  x = at xs c

  abbrev own : ℕ
  own = x.app

  abbrev ys : List Thread
  ys = benefits own z apps xs

  abbrev room : ℕ
  room = room_of z x

  abbrev y : Thread
  y = gains room (at ys c)

  abbrev zs : List Thread
  zs = set ys c y

  own_is : own ≡ app_of t c
  own_is = k.tied.app_same c ch.leads.inside

  ys_tied : Tied t q m ys
  ys_tied = tied_benefits own z k.tied rows apps

  zs_tied : Tied t q m zs
  zs_tied = tied_put ys_tied c ch.leads.inside y refl refl

  zs_low : All (Low q (now + 1)) (take m zs)
  unfolding charged
  zs_low = low_all (charge_rows z c ch rows).fine

  -- what the tick does not change
  same_zs : (f : Thread → ℕ) → ((n : ℕ) (y : Thread) → f (loses (pos n) y) ≡ f y) → ((n : ℕ) (y : Thread) → f (gains n y) ≡ f y) → sum_by f (take m zs) ≡ sum_by f (take m xs)
  same_zs f h g = sum_store f m ys c y blank (g room (at ys c)) ∙ benefits_sum own z f h m apps xs

  same_ones : (a : ℕ) → sum_by (one a) (take m zs) ≡ sum_by (one a) (take m xs)
  same_ones a = same_zs (one a) (λ n y. refl) (λ n y. refl)

  same_free : (a : ℕ) → sum_by (free_share a) (take m zs) ≡ free_of a z
  unfolding free_share
  same_free a = same_zs (free_share a) (λ n y. refl) (λ n y. refl)

  -- the clock
  clock : (a : ℕ) → sum_by (downs a (now + 1)) (take m zs) + free_of a z ≡ sum_by (downs a now) (take m zs) + share_of a t
  clock a = omega (arith, downs_later a now (take m zs), same_free a, own_shares zs_tied a)

  -- another application
  waits : (a : ℕ) → a < apps → (own ≡ a → ⊥) → StandsIn t q m (now + 1) zs a (activity_at cs a)
  waits a l f = stand_waits (k.stands a l) (same_ones a) (λ some. omega (
    arith,
    clock a,
    due own z k.tied rows a now some apps,
    due_other own apps a (free_of a z) f l,
    (put_other ys_tied c ch.leads.inside y refl refl a now (λ e. f (own_is ∙ e))).amounts,
  ))

  -- its own: W of c grows by Q − r
  own_active_x : active_in own x ≡ true
  own_active_x = own_active own x (runs_active x.phase ch.leads.runs) refl

  some_own : 0 < sum_by (one own) (take m xs)
  some_own = omega (arith, sum_at (one own) m xs c blank ch.leads.inside (among k.tied c ch.leads.inside), (adds_one {a = own} now x own_active_x).ones)

  grows : Shifts own now m ys zs 1 (up (at ys c).w.0) (dn (at ys c).w.0 + (at ys c).share * now) 1 (up y.w.0) (dn y.w.0 + (at ys c).share * now)
  grows =
      let e = benefits_at own z (λ v. active_in own v ≡ true) (λ r v p. p) c apps xs own_active_x in
      shifts m ys c y ch.leads.inside (among ys_tied c ch.leads.inside) (adds_one now (at ys c) e) (adds_one now y e)

  goes : own < apps → StandsIn t q m (now + 1) zs own (runs (activity_at cs own))
  goes l = stand_runs (k.stands own l) some_own (same_ones own) (omega (
    arith,
    clock own,
    due own z k.tied rows own now some_own apps,
    due_own own apps own (free_of own z) refl,
    grows.above,
    grows.below,
    plus_parts (at ys c).w.0 room,
    free_part own (take m xs),
    own_shares k.tied own,
    k.tied.share_max own,
  ))

  pub goes_grant : (j : ℕ) (e : ℤ) → GoesTo t (moved (charged z c) c) cs (granted c j e ∷ [])
  unfolding moved charged noted ends
  goes_grant j e =
      let l = k.tied.app_max c ch.leads.inside in
      goes_one (granted c j e)
      (held_set cs zs_tied zs_low k.sixteen (app_of t c) (runs (activity_at cs (app_of t c))) l
      (subst (λ a. StandsIn t q m (now + 1) zs a (runs (activity_at cs a))) own_is (goes (rw own_is l)))
      (λ a h f. waits a h (λ g. f (sym own_is ∙ g))))
      none
      (omega (arith, l, k.sixteen), omega (arith, (k.stands (app_of t c) l).active, subst (λ a. 0 < sum_by (one a) (take m xs)) own_is some_own))
