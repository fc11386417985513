-- The own stretch of a thread, and what each change of the table does to it.
use Rattle.std.specs.Prelude.{◌≡◌, Bool, cond, T, eqb, ltb, ℤ, pos, length, set}
use Rattle.std.proofs.Math.Path.{refl, ap}
use Rattle.std.proofs.Common.{sym, ◌∙◌, subst, not-suc-le-zero, ne_eqb, get_or-set_same, get_or-set_other}
use Rattle.std.proofs.Math.Bool.{true, false}
use mathlib.Core.List.{List, [], ◌∷◌}
use Prim.Native.Nat.{ℕ, zero, suc, ◌≤◌, ◌<◌}
use Rattle.std.proofs.Math.Decide.{ℕ_discrete}
use native.Mathlib.Omega.{arith}
use Rattle.std.specs.Int.Signed.{lt_z}
use Rattle.std.proofs.Math.ListN.{length-set}
use Rattle.lists.specs.MapTo.{map_to, map_has, map_keeps, map_length}
use Rattle.lists.specs.Take.{at_put, at_upd}
use Rattle.rules.specs.Limits.{nobody, apps}
use Rattle.rules.specs.Threads.{Thread, State, with_rows, blank, at, scaled, is_inactive, contends, idle, lose_at}
use Rattle.rules.specs.Completion.{goes_on, stays, ends, freed, receiver, gives, completing, after_completion}
use Rattle.rules.specs.Leaving.{leave, gone}
use Rattle.rules.specs.Arrival.{arrive, arrived}
use Rattle.rules.specs.Drop.{head_only}
use Rattle.rules.specs.Fitting.{fit_in, fitted, room_of}
use Rattle.rules.specs.Choice.{idled}
use Rattle.rules.specs.Charge.{gains, benefited, charged, moved}
use Rattle.rules.specs.History.{Fate, Happening, became_inactive, leaves, leaving, leaving_to, leavings, waking, retiring, fate_of, receiver_in}
use Rattle.rules.specs.Stretches.{Activity, lost_as, runs, rests, forgets}
use Rattle.promises.specs.Cases.{by_test}
use Rattle.promises.specs.Keep.{lose_at_lem, lose_length, benefits_at, benefits_length}
use Rattle.promises.specs.Events.{freed_nat}
use Rattle.lag.specs.Mine.{mine_of, mine, mine_append}
use Rattle.lag.specs.Held.{Held, lose_held, fit_held, gain_held, idle_held, jobs_held, rest_held, later_held, goes_held, stays_held, leave_held, arrive_held}

-- c is where thread i of the state s stands
pub record Kept (i : ℕ) (c : Activity) (s : State) : Type 0 where
  pub inside : i < s.count
  pub among : i < length s.threads
  pub held : Held s.q s.clock.0 c (at s.threads i)

-- ---- leaving
module _ (i : ℕ) (c : Activity) (t : ℕ) where
  leaving_other : (j : ℕ) (x : Thread) → (j ≡ i → ⊥) → mine i c (leaving t j x) ≡ c
  unfolding mine mine_of
  leaving_other j x n = by_test (λ (hs : List Happening). mine i c hs ≡ c) (leaves t x) (λ _. rw (ne_eqb j i n) refl) (λ _. refl)

module _ (i t : ℕ) (xs : List Thread) where
  leaving_before : (c : Activity) (n : ℕ) → n ≤ i → mine i c (leaving_to t xs n) ≡ c
  unfolding mine leaving_to
  leaving_before c zero l = refl
  leaving_before c (suc n) l =
      mine_append i c (leaving_to t xs n) (leaving t n (at xs n))
      ∙ leaving_other i (mine i c (leaving_to t xs n)) t n (at xs n) (λ (e : n ≡ i). absurd (no e))
      ∙ leaving_before c n (omega arith)
    where
      no : n ≡ i → ⊥
      no e = omega arith

  -- of the threads that leave thread i sees itself alone
  leaving_own : (c : Activity) (n : ℕ) → i < n → mine i c (leaving_to t xs n) ≡ mine i c (leaving t i (at xs i))
  unfolding leaving_to
  leaving_own c zero l = absurd (not-suc-le-zero l)
  leaving_own c (suc n) l = mine_append i c (leaving_to t xs n) (leaving t n (at xs n)) ∙ go (leaving_own c n) (ℕ_discrete n i)
    where
      go : (i < n → mine i c (leaving_to t xs n) ≡ mine i c (leaving t i (at xs i))) → Dec (n ≡ i) → mine i (mine i c (leaving_to t xs n)) (leaving t n (at xs n)) ≡ mine i c (leaving t i (at xs i))
      go rec (yes e) = ap (λ d. mine i d (leaving t n (at xs n))) (leaving_before c n (omega arith)) ∙ ap (λ (k : ℕ). mine i c (leaving t k (at xs k))) e
      go rec (no f) = leaving_other i (mine i c (leaving_to t xs n)) t n (at xs n) f ∙ rec (omega arith)

-- ---- who becomes active
waking_other : (i : ℕ) (c : Activity) (s : State) (j : ℕ) → (j ≡ i → ⊥) → mine i c (waking s j) ≡ c
unfolding mine mine_of waking
waking_other i c s j n = by_test (λ (hs : List Happening). mine i c hs ≡ c) (is_inactive (at s.threads j).phase) (λ _. rw (ne_eqb j i n) refl) (λ _. refl)

woken_held : (s : State) {c : Activity} (i : ℕ) → 0 < s.q → Held s.q s.clock.0 c (at s.threads i) → Held s.q s.clock.0 (mine i c (waking s i)) (arrive s.clock.0 (at s.threads i))
unfolding waking
woken_held s i q-min h = arrive_held (at s.threads i) h q-min i

module _ {i : ℕ} {c : Activity} {s : State} (k : Kept i c s) where
  pub gone_kept : Kept i (mine i c (leavings s)) (gone s)
  unfolding gone leavings mine
  gone_kept = go s.closed
    where
      go : (b : Bool) → Kept i (mine i c (cond b [] (leaving_to s.clock.0 s.threads s.count))) (cond b s (with_rows s (map_to s.count (leave s.clock.0) s.threads)))
      go true = k
      go false = record {
        inside = k.inside;
        among = omega (arith, map_length s.count (leave s.clock.0) s.threads, k.among);
        held = rw (leaving_own i s.clock.0 s.threads c s.count k.inside, map_has s.count (leave s.clock.0) s.threads i blank k.inside k.among) (leave_held (at s.threads i) k.held i);
      }

  -- ---- fitting, an idle tick, a tick of thread j
  pub fitted_kept : Kept i c (fitted s)
  unfolding fitted
  fitted_kept = record {
    inside = k.inside;
    among = omega (arith, map_length s.count (fit_in s) s.threads, k.among);
    held = map_keeps {P = Held s.q s.clock.0 c} s.count (fit_in s) (λ x h. fit_held x h (room_of s x) (omega arith)) s.threads i blank k.held;
  }

  pub idle_kept : Kept i (forgets c) (moved (idled s) nobody)
  unfolding idled moved
  idle_kept = record {
    inside = k.inside;
    among = omega (arith, map_length s.count idle s.threads, k.among);
    held = rw (map_has s.count idle s.threads i blank k.inside k.among) (later_held (idle (at s.threads i)) (idle_held (at s.threads i) k.held) (omega arith));
  }

  pub grant_kept : (j : ℕ) → T (contends (at s.threads j)) → Kept i (cond (eqb j i) (runs c) c) (moved (charged s j) j)
  unfolding charged moved
  grant_kept j t = record {
    inside = k.inside;
    among = omega (arith, length-set ys j (gains room (at ys j)), in_ys);
    held = later_held (at (set ys j (gains room (at ys j))) i) r (omega arith);
  }
    where
      own : ℕ
      own = (at s.threads j).app

      ys : List Thread
      ys = benefited own s

      room : ℕ
      room = room_of s (at s.threads j)

      in_ys : i < length ys
      in_ys = omega (arith, benefits_length own s apps s.threads, k.among)

      -- the thread before the tick, which is its own if j is i
      Runs : Thread → Type 0
      Runs x = Held s.q s.clock.0 c x × (j ≡ i → T (contends x))

      before : Runs (at ys i)
      before = benefits_at own s Runs (λ r x b. (lose_held x b.0 r, b.1)) i apps s.threads (k.held, λ e. subst (λ n. T (contends (at s.threads n))) e t)

      r : Held s.q s.clock.0 (cond (eqb j i) (runs c) c) (at (set ys j (gains room (at ys j))) i)
      r = at_put (λ (d : Bool). Held s.q s.clock.0 (cond d (runs c) c)) ys j i (gains room (at ys j)) blank in_ys
          (λ e. subst (λ n. Held s.q s.clock.0 (runs c) (gains room (at ys n))) (sym e) (gain_held (at ys i) before.0 room (omega arith) (before.1 e)))
          before.0

  -- ---- an arrival for thread j
  pub arrived_kept : 0 < s.q → (j : ℕ) → Kept i (mine i c (waking s j)) (arrived s j)
  arrived_kept q-min j = record {
    inside = k.inside;
    among = omega (arith, length-set xs j (arrive s.clock.0 (at xs j)), k.among);
    held = go (ℕ_discrete j i);
  }
    where
      xs : List Thread
      xs = s.threads

      go : Dec (j ≡ i) → Held s.q s.clock.0 (mine i c (waking s j)) (at (set xs j (arrive s.clock.0 (at xs j))) i)
      go (yes e) = rw (e, get_or-set_same xs i (arrive s.clock.0 (at xs i)) blank k.among) (woken_held s i q-min k.held)
      go (no f) = rw (get_or-set_other xs j i (arrive s.clock.0 (at xs j)) blank (λ e. f (sym e)), waking_other i c s j f) k.held

  -- ---- a drop by thread j
  pub drop_kept : (j : ℕ) → Kept i c (with_rows s (set s.threads j (head_only (at s.threads j))))
  unfolding head_only
  drop_kept j = record {
    inside = k.inside;
    among = omega (arith, length-set s.threads j (head_only (at s.threads j)), k.among);
    held = at_upd {P = Held s.q s.clock.0 c} head_only (λ x h. jobs_held x h (head_only x).jobs) s.threads j i blank k.held;
  }

-- ---- a completion by thread j, which contends if it is i
module _ {i : ℕ} {c : Activity} {s : State} (k : Kept i c s) (q-min : 0 < s.q) (j : ℕ) (own : j ≡ i → T (contends (at s.threads j))) where
  abbrev t : ℕ
  t = s.clock.0

  abbrev xs : List Thread
  xs = s.threads

  abbrev x : Thread
  x = at xs j

  abbrev ys : List Thread
  ys = set xs j (ends x)

  abbrev to : ℕ
  to = receiver s.count x ys

  abbrev fate : Fate
  fate = fate_of (receiver_in s j)

  abbrev rested : Activity
  rested = rests (lost_as fate (freed t x)) c

  abbrev done : List Thread → State
  done zs = record { threads = zs; count = s.count; had = s.had; q = s.q; clock = s.clock; completed = true; closed = s.closed }

  -- it becomes y, and where it stands d, if it is i
  put : (d : Activity) (y : Thread) → (j ≡ i → Held s.q t d y) → Held s.q t (cond (eqb j i) d c) (at (set xs j y) i)
  put d y f = at_put (λ (b : Bool). Held s.q t (cond b d c)) xs j i y blank k.among f k.held

  keep : (y : Thread) → (j ≡ i → Held s.q t c y) → Held s.q t c (at (set xs j y) i)
  keep y f = at_put (λ (_ : Bool). Held s.q t c) xs j i y blank k.among f k.held

  held_j : j ≡ i → Held s.q t c x
  held_j e = rw e k.held

  kept : (d : Activity) (zs : List Thread) → length zs ≡ length xs → Held s.q t d (at zs i) → Kept i d (done zs)
  kept d zs l h = record { inside = k.inside; among = omega (arith, l, k.among); held = h }

  -- what it frees goes to its receiver, or is lost
  ends_kept : lt_z (scaled x t) x.w.0 ≡ false → Kept i (cond (eqb j i) rested c) (done (lose_at (freed t x) ys to))
  ends_kept e = let f = freed_nat t x e in
      subst (λ (z : ℤ). Kept i (cond (eqb j i) rested c) (done (lose_at z ys to))) (sym f.1)
      (kept (cond (eqb j i) rested c) (lose_at (pos f.0) ys to) (lose_length f.0 ys to ∙ length-set xs j _)
      (lose_at_lem f.0 ys to (Held s.q t (cond (eqb j i) rested c)) (λ y h. lose_held y h f.0) i (put rested (ends x) (λ o. rest_held x (held_j o) _ 0))))

  pub completed_kept : Kept i (mine i c (retiring s j)) (after_completion s j)
  unfolding after_completion retiring completing gives mine mine_of
  completed_kept = go (ltb 1 x.jobs) (lt_z (scaled x t) x.w.0) refl
    where
      go : (m l : Bool) → lt_z (scaled x t) x.w.0 ≡ l
          → Kept i (mine i c (cond m [] (cond l [] (became_inactive j t (freed t x) fate ∷ [])))) (done (cond m (set xs j (goes_on x)) (cond l (set xs j (stays x)) (lose_at (freed t x) ys to))))
      go true l e = kept c (set xs j (goes_on x)) (length-set xs j _) (keep (goes_on x) (λ o. goes_held x (held_j o) q-min))
      go false true e = kept c (set xs j (stays x)) (length-set xs j _) (keep (stays x) (λ o. stays_held x (held_j o) (own o)))
      go false false e = ends_kept e
