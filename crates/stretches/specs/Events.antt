-- A completion, an arrival and a drop: what each does to where the applications stand.
use Rattle.std.specs.Prelude.{◌≡◌, Bool, cond, eqb, ltb, pos, take, set}
use Rattle.std.proofs.Math.Path.{refl}
use Rattle.std.proofs.Common.{sym, ap, ◌∙◌, mul-le-mul_right, arith, eqb-true}
use Rattle.std.proofs.Math.Bool.{true, false, not}
use mathlib.Core.List.{List, [], ◌∷◌}
use Prim.Native.Nat.{ℕ, ◌+◌, ◌*◌, ◌≤◌, ◌<◌}
use Rattle.std.proofs.lemmas.Bool.{eqb-false}
use Rattle.std.specs.Int.Signed.{lt_z}
use Rattle.integers.specs.Parts.{up, dn, minus_parts}
use Rattle.lists.specs.All.{All, none, all_at, all_set}
use Rattle.rules.specs.Limits.{nobody}
use Rattle.rules.specs.Threads.{Thread, Phase, Inactive, Contending, NonContending, with_jobs, blank, at, scaled, is_inactive, active, active_in, loses, lose_at}
use Rattle.rules.specs.Table.{Table}
use Rattle.rules.specs.Completion.{goes_on, stays, ends, freed, takes, receiver, gives, completing}
use Rattle.rules.specs.Arrival.{arrive_as, arrive}
use Rattle.rules.specs.Drop.{head_only}
use Rattle.rules.specs.History.{unreceived, received, dropped_to_head, became_active, became_inactive, fate_of}
use Rattle.rules.specs.Stretches.{Activity, noted, ends as over, app_of}
use Rattle.promises.specs.Cases.{both, both_true, T_true}
use Rattle.promises.specs.Deadlines.{earliest_in}
use Rattle.promises.specs.Events.{freed_nat}
use Rattle.stretches.specs.Standing.{Tied, Low, Held}
use Rattle.stretches.specs.Goes.{Goes, goes_nowhere, goes_one}
use Rattle.stretches.specs.Changes.{Same, Falls, held_same, goes_wakes, goes_rests}
use Rattle.stretches.specs.Puts.{low_loses, among, tied_put, put_same, put_other, put_rests, put_wakes, lose_shifts}

-- ---- thread i, which is x
module _ {t : Table} {q m now : ℕ} {xs : List Thread} {cs : List Activity} (h : Held t q m now xs cs) (i : ℕ) (inside : i < m) where
  abbrev x : Thread
  x = at xs i

  -- it is as active as it was, with the same W
  held_put : (v : Thread) → v.app ≡ x.app → v.share ≡ x.share → active v ≡ active x → v.w ≡ x.w → Held t q m now (set xs i v) cs
  held_put v a u p w = held_same h (tied_put h.tied i inside v a u) (all_set m xs i v h.low v_low) (λ b. put_same h.tied i inside v a u b now p w)
    where
      v_low : Low q now v
      v_low = rw w (all_at m xs i blank h.low inside (among h.tied i inside))

  -- ---- a drop
  pub goes_dropping : Goes t q m now (set xs i (head_only x)) cs (dropped_to_head i now ∷ [])
  unfolding head_only noted over
  goes_dropping = goes_one (dropped_to_head i now) (held_put (head_only x) refl refl refl refl) none tt

  -- ---- an arrival
  wakes_now : x.share ≤ q → x.phase ≡ Inactive → Goes t q m now (set xs i (with_jobs (arrive_as Inactive now x) (x.jobs + 1))) cs (became_active i now ∷ [])
  wakes_now fair e =
      goes_wakes h (tied_put h.tied i inside v refl refl) (all_set m xs i v h.low (mul-le-mul_right now fair)) i inside
      (λ a. put_other h.tied i inside v refl refl a now)
      (put_wakes h.tied i inside v refl refl now (ap (λ p. not (is_inactive p)) e) refl refl)
    where
      v : Thread
      v = with_jobs (arrive_as Inactive now x) (x.jobs + 1)

  pub goes_arriving : x.share ≤ q → Goes t q m now (set xs i (arrive now x)) cs (cond (is_inactive x.phase) (became_active i now ∷ []) [])
  unfolding arrive
  goes_arriving fair = go x.phase refl
    where
      go : (p : Phase) → x.phase ≡ p → Goes t q m now (set xs i (with_jobs (arrive_as p now x) (x.jobs + 1))) cs (cond (is_inactive p) (became_active i now ∷ []) [])
      go Inactive e = wakes_now fair e
      go Contending e = goes_nowhere (held_put (with_jobs (arrive_as Contending now x) (x.jobs + 1)) refl refl (sym (ap (λ p. not (is_inactive p)) e)) refl)
      go NonContending e = goes_nowhere (held_put (with_jobs (arrive_as NonContending now x) (x.jobs + 1)) refl refl (sym (ap (λ p. not (is_inactive p)) e)) refl)

  -- ---- a completion, by a thread that contends
  module _ (runs : active x ≡ true) where
    abbrev ys : List Thread
    ys = set xs i (ends x)

    ys_tied : Tied t q m ys
    ys_tied = tied_put h.tied i inside (ends x) refl refl

    ys_low : All (Low q now) (take m ys)
    ys_low = all_set m xs i (ends x) h.low (omega arith)

    -- what it frees is f
    module _ (f : ℕ) (frees : up x.w.0 + f ≡ x.share * now + dn x.w.0) where
      falls : Falls (app_of t i) now m xs ys f
      falls = put_rests h.tied i inside (ends x) refl refl now f runs refl frees

      others : (a : ℕ) → (app_of t i ≡ a → ⊥) → Same a now m xs ys
      others a = put_other h.tied i inside (ends x) refl refl a now

      -- lost
      unreceived_goes : Goes t q m now ys cs (became_inactive i now (pos f) unreceived ∷ [])
      unreceived_goes = goes_rests h ys_tied ys_low i inside others f falls (pos f) unreceived refl

      -- or taken from the W of thread k, which is active and of the same application
      module _ (k : ℕ) (in-k : k < m) (own : active_in x.app (at ys k) ≡ true) where
        abbrev y : Thread
        y = loses (pos f) (at ys k)

        abbrev zs : List Thread
        zs = set ys k y

        app_k : app_of t k ≡ app_of t i
        app_k = sym (ys_tied.app_same k in-k) ∙ eqb-true (at ys k).app x.app (both_true (active (at ys k)) _ own).1 ∙ h.tied.app_same i inside

        gift : Falls (app_of t i) now m xs zs 0
        gift =
            let s = lose_shifts ys_tied k in-k (app_of t i) now f (rw (← h.tied.app_same i inside) own) in
            let d = minus_parts (at ys k).w.0 f in
            record { ones = omega (arith, falls.ones, s.ones); amounts = omega (arith, falls.amounts, s.above, s.below, d) }

        gift_others : (a : ℕ) → (app_of t i ≡ a → ⊥) → Same a now m xs zs
        gift_others a n =
            let p = others a n in
            let r = put_other ys_tied k in-k y refl refl a now (λ e. n (sym app_k ∙ e)) in
            record { ones = r.ones ∙ p.ones; amounts = omega (arith, p.amounts, r.amounts) }

        received_goes : Goes t q m now zs cs (became_inactive i now (pos f) (received k) ∷ [])
        received_goes = goes_rests h (tied_put ys_tied k in-k y refl refl) (all_set m ys k y ys_low (low_loses q now f (at ys k) (all_at m ys k blank ys_low in-k (among ys_tied k in-k)))) i inside gift_others 0 gift (pos f) (received k) refl

      ends_goes : Goes t q m now (lose_at (pos f) ys (receiver m x ys)) cs (became_inactive i now (pos f) (fate_of (receiver m x ys)) ∷ [])
      unfolding lose_at
      ends_goes = go (eqb (receiver m x ys) nobody) refl
        where
          k : ℕ
          k = receiver m x ys

          go : (b : Bool) → eqb k nobody ≡ b → Goes t q m now (cond b ys (set ys k (loses (pos f) (at ys k)))) cs (became_inactive i now (pos f) (cond b unreceived (received k)) ∷ [])
          go true e = unreceived_goes
          go false e =
              let r = earliest_in (takes x) m ys (eqb-false k nobody e) in
              received_goes k r.0 (T_true (active_in x.app (at ys k)) (both (active_in x.app (at ys k)) _ r.1).0)

    pub goes_completing : Goes t q m now (completing now m i x xs) cs
        (cond (ltb 1 x.jobs) [] (cond (lt_z (scaled x now) x.w.0) [] (became_inactive i now (freed now x) (fate_of (receiver m x ys)) ∷ [])))
    unfolding completing gives
    goes_completing = go (ltb 1 x.jobs) (lt_z (scaled x now) x.w.0) refl
      where
        go : (b c : Bool) → lt_z (scaled x now) x.w.0 ≡ c
            → Goes t q m now (cond b (set xs i (goes_on x)) (cond c (set xs i (stays x)) (lose_at (freed now x) ys (receiver m x ys)))) cs (cond b [] (cond c [] (became_inactive i now (freed now x) (fate_of (receiver m x ys)) ∷ [])))
        go true c e = goes_nowhere (held_put (goes_on x) refl refl refl refl)
        go false true e = goes_nowhere (held_put (stays x) refl refl (sym runs) refl)
        go false false e = let f = freed_nat now x e in rw f.1 (ends_goes f.0 f.2)
