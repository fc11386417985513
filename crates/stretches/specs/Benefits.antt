-- The charge in the application a: its beneficiary loses its free share, if it is another's tick and it has an active thread.
use Rattle.std.specs.Prelude.{◌≡◌, refl, Bool, true, false, List, eqb, pos, take, set}
use Rattle.std.proofs.Common.{sym, ◌∙◌, subst, eqb-true, eq-eqb, ne_eqb}
use Rattle.std.proofs.Math.Bool.{cond}
use Prim.Native.Nat.{ℕ, zero, suc, ◌+◌, ◌≤◌, ◌<◌}
use Rattle.std.proofs.Math.Decide.{ℕ_discrete}
use native.Mathlib.Omega.{arith}
use Rattle.std.proofs.lemmas.Bool.{eqb-false}
use Rattle.lists.specs.Take.{sum_zero}
use Rattle.integers.specs.Parts.{minus_parts}
use Rattle.lists.specs.Sum.{sum_by}
use Rattle.rules.specs.Limits.{nobody}
use Rattle.rules.specs.Threads.{Thread, State, blank, at, active, active_in, loses, lose_at, free_of}
use Rattle.rules.specs.Table.{Table}
use Rattle.rules.specs.Charge.{beneficiary, benefits}
use Rattle.rules.specs.Stretches.{app_of}
use Rattle.promises.specs.Cases.{by_test, both_true, T_true, not_T}
use Rattle.promises.specs.Deadlines.{earliest_in, earliest_first}
use Rattle.promises.specs.Shares.{others}
use Rattle.promises.specs.Good.{Rows}
use Rattle.promises.specs.Keep.{fine_at, benefits_at, benefits_length}
use Rattle.stretches.specs.Item8.{one}
use Rattle.stretches.specs.Standing.{ups, downs, Tied}
use Rattle.stretches.specs.Figures.{adds_none}
use Rattle.stretches.specs.Puts.{tied_like, put_other, lose_shifts}

-- ---- what the number a adds below n, but own
abbrev due_below : ℕ → ℕ → ℕ → ℕ → ℕ
due_below own n a r = others own n (λ b. cond (eqb b a) r 0)

due_above : (own n a r : ℕ) → n ≤ a → due_below own n a r ≡ 0
unfolding others
due_above own zero a r h = refl
due_above own (suc n) a r h = rw (ne_eqb n a (λ e. omega arith), due_above own n a r (omega arith)) (go (eqb n own))
  where
    go : (c : Bool) → cond c 0 0 + 0 ≡ 0
    go true = refl
    go false = refl

-- its own tick
pub due_own : (own n a r : ℕ) → own ≡ a → due_below own n a r ≡ 0
unfolding others
due_own own zero a r e = refl
due_own own (suc n) a r e = go (ℕ_discrete n own) (due_own own n a r e)
  where
    go : Dec (n ≡ own) → due_below own n a r ≡ 0 → cond (eqb n own) 0 (cond (eqb n a) r 0) + due_below own n a r ≡ 0
    go (yes k) i = rw (eq-eqb n own k) (omega (arith, i))
    go (no k) i = rw (ne_eqb n own k, ne_eqb n a (λ f. k (f ∙ sym e))) (omega (arith, i))

-- another's
pub due_other : (own n a r : ℕ) → (own ≡ a → ⊥) → a < n → due_below own n a r ≡ r
unfolding others
due_other own zero a r e h = absurd (no h)
  where
    no : a < 0 → ⊥
    no h = omega arith
due_other own (suc n) a r e h = go (ℕ_discrete n a) (λ l. due_other own n a r e l)
  where
    rest : (c : Bool) → ◌≡◌ {A = ℕ} (cond c 0 0) 0
    rest true = refl
    rest false = refl

    go : Dec (n ≡ a) → (a < n → due_below own n a r ≡ r) → cond (eqb n own) 0 (cond (eqb n a) r 0) + due_below own n a r ≡ r
    go (yes k) i = rw (ne_eqb n own (λ f. e (sym f ∙ k)), eq-eqb n a k) (omega (arith, due_above own n a r (omega arith)))
    go (no k) i = rw (ne_eqb n a k, rest (eqb n own)) (omega (arith, i (omega arith)))

-- ---- the applications below n
module _ {t : Table} (own : ℕ) (s : State) (tied : Tied t s.q s.count s.threads) (rows : Rows s.count s.q s.clock.0 s.threads) where
  abbrev m : ℕ
  m = s.count

  abbrev xs : List Thread
  xs = s.threads

  abbrev ys : ℕ → List Thread
  ys n = benefits own s n xs

  pub tied_benefits : (n : ℕ) → Tied t s.q m (ys n)
  tied_benefits n = tied_like tied (benefits_length own s n xs) (λ i h. benefits_at own s (λ y. (y.app ≡ (at xs i).app) × (y.share ≡ (at xs i).share)) (λ r y p. p) i n xs (refl, refl))

  -- an application with an active thread has a beneficiary
  some_beneficiary : (a : ℕ) → 0 < sum_by (one a) (take m xs) → beneficiary a s ≡ nobody → ⊥
  some_beneficiary a some e = omega (arith, sum_zero (one a) m xs blank (λ j h. (adds_none {a = a} 0 (at xs j) (not_T (active_in a (at xs j)) (λ p. (earliest_first (active_in a) xs m rows.few (λ i l _. (fine_at rows i l).share_min) j h p).0 e))).ones))

  module _ (a now : ℕ) (some : 0 < sum_by (one a) (take m xs)) where
    -- after the turn of the applications below n
    abbrev Due : ℕ → List Thread → Type 0
    Due n zs = sum_by (ups a) (take m zs) + sum_by (downs a now) (take m xs) + due_below own n a (free_of a s) ≡ sum_by (ups a) (take m xs) + sum_by (downs a now) (take m zs)

    -- thread k, of the application b, loses its free share
    module _ (b : ℕ) (k : ℕ) (in-k : k < m) (act : active_in b (at xs k) ≡ true) where
      abbrev y : Thread
      y = at (ys b) k

      act_y : active_in b y ≡ true
      act_y = benefits_at own s (λ z. active_in b z ≡ true) (λ r z p. p) k b xs act

      app_k : app_of t k ≡ b
      app_k = sym (tied.app_same k in-k) ∙ eqb-true (at xs k).app b (both_true (active (at xs k)) (eqb (at xs k).app b) act).1

      turn : Dec (b ≡ a) → (z : List Thread) → z ≡ set (ys b) k (loses (pos (free_of b s)) y)
          → sum_by (ups a) (take m z) + sum_by (downs a now) (take m (ys b)) + cond (eqb b a) (free_of a s) 0 ≡ sum_by (ups a) (take m (ys b)) + sum_by (downs a now) (take m z)
      turn (no f) z e = rw (e, ne_eqb b a f) (omega (arith, (put_other (tied_benefits b) k in-k (loses (pos (free_of b s)) y) refl refl a now (λ g. f (sym app_k ∙ g))).amounts))
      turn (yes f) z e =
          let l = lose_shifts (tied_benefits b) k in-k b now (free_of b s) act_y in
          let d = minus_parts y.w.0 (free_of b s) in
          rw (e, eq-eqb b a f, ← f) (omega (arith, l.above, l.below, d))

    -- the turn of the application b
    abbrev Turn : ℕ → List Thread → Type 0
    Turn b zs = sum_by (ups a) (take m zs) + sum_by (downs a now) (take m (ys b)) + cond (eqb b a) (free_of a s) 0 ≡ sum_by (ups a) (take m (ys b)) + sum_by (downs a now) (take m zs)

    one_turn : (b : ℕ) → Turn b (lose_at (pos (free_of b s)) (ys b) (beneficiary b s))
    unfolding lose_at
    one_turn b = by_test (Turn b) (eqb k nobody)
        (λ e. rw (ne_eqb b a (λ f. some_beneficiary a some (subst (λ c. beneficiary c s ≡ nobody) f (eqb-true k nobody e)))) (omega arith))
        (λ e. let r = earliest_in (active_in b) m xs (eqb-false k nobody e) in turn b k r.0 (T_true (active_in b (at xs k)) r.1) (ℕ_discrete b a) _ refl)
      where
        k : ℕ
        k = beneficiary b s

    pub due : (n : ℕ) → Due n (ys n)
    unfolding benefits others
    due zero = omega arith
    due (suc b) = go (eqb b own) (due b)
      where
        r : ℕ
        r = cond (eqb b a) (free_of a s) 0

        zs : List Thread
        zs = lose_at (pos (free_of b s)) (ys b) (beneficiary b s)

        go : (c : Bool) → Due b (ys b)
            → sum_by (ups a) (take m (cond c (ys b) zs)) + sum_by (downs a now) (take m xs) + (cond c 0 r + due_below own b a (free_of a s)) ≡ sum_by (ups a) (take m xs) + sum_by (downs a now) (take m (cond c (ys b) zs))
        go true i = omega (arith, i)
        go false i = omega (arith, i, one_turn b)
