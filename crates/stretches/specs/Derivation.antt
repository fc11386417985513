-- The whole run's equation follows from the statement of Item 8 alone, whatever proves that.
use Rattle.std.specs.Prelude.{◌≡◌, refl, Bool, true, false, cond, eqb, ℤ, ◌+ℤ◌, ◌-ℤ◌, take}
use Rattle.std.proofs.Common.{sym, ap, ap₂, ◌∙◌, subst, arith, eq-eqb, ne_eqb, eqb-true}
use mathlib.Core.List.{List, [], ◌∷◌, ◌++◌}
use Prim.Native.Nat.{ℕ, ◌+◌, ◌*◌, ◌-◌, ◌<◌}
use Rattle.std.proofs.Math.IntN.{pos}
use Rattle.integers.specs.Parts.{up, dn, add_parts, sub_parts, same_parts}
use Rattle.lists.specs.Sum.{sum_by}
use Rattle.lists.specs.All.{All, none, more}
use Rattle.rules.specs.Limits.{apps}
use Rattle.rules.specs.Threads.{Thread, State, scaled, active_in}
use Rattle.rules.specs.Table.{Table, Done, table_answer}
use Rattle.rules.specs.Leaving.{gone}
use Rattle.rules.specs.Calls.{Call}
use Rattle.rules.specs.History.{leavings}
use Rattle.rules.specs.Stretches.{Activity, Over, lost_in, granted_in, elapsed, app_of, share_of, ahead_in, total, ahead_of}
use Rattle.stretches.specs.Item8 as item
use Rattle.stretches.specs.Item8.{one, actives_of, Even, granted_by, lost_by, granted_now, lost_now}
use Rattle.stretches.specs.Whole.{lasted, Uncut, now, past, overs, holding, Settles, Promised}

-- ---- integers: sums of equations, and an equation with a difference
sum_two : (u q d l g h : ℕ) (x y : ℤ) → pos (u * d) ≡ pos (q * g) +ℤ x → pos (u * l) ≡ pos (q * h) +ℤ y → pos (u * (d + l)) ≡ pos (q * (g + h)) +ℤ (x +ℤ y)
sum_two u q d l g h x y e f = same_parts _ _ (omega (arith, ap up e, ap dn e, ap up f, ap dn f, add_parts (pos (q * g)) x, add_parts (pos (q * h)) y, add_parts x y, add_parts (pos (q * (g + h))) (x +ℤ y)))

none_more : (u q l h : ℕ) (y : ℤ) → pos (u * l) ≡ pos (q * h) +ℤ y → pos (u * (0 + l)) ≡ pos (q * (0 + h)) +ℤ (pos 0 +ℤ y)
none_more u q l h y f = same_parts _ _ (omega (arith, ap up f, ap dn f, add_parts (pos (q * h)) y, add_parts (pos 0) y, add_parts (pos (q * (0 + h))) (pos 0 +ℤ y)))

moved_over : (u q n g : ℕ) (a x : ℤ) → a ≡ pos (q * g) -ℤ pos (u * n) +ℤ x → pos (u * n) +ℤ a ≡ pos (q * g) +ℤ x
moved_over u q n g a x e = same_parts _ _ (omega (arith, ap up e, ap dn e, sub_parts (pos (q * g)) (pos (u * n)), add_parts (pos (q * g) -ℤ pos (u * n)) x, add_parts (pos (u * n)) a, add_parts (pos (q * g)) x))

-- ---- the stretches that are over
module _ (t : Table) (a : ℕ) where
  evens : (os : List Over) → All (Even t) os → Uncut a os → pos (share_of a t * lasted a os) ≡ pos (t.q * granted_by a os) +ℤ lost_by a os
  unfolding lasted granted_by lost_by
  evens [] none none = same_parts _ _ (omega (arith, add_parts (pos (t.q * 0)) (pos 0)))
  evens (o ∷ os) (more p e) (more w u) = go (eqb o.application a) own (evens os e u)
    where
      -- of a stretch of this application
      Own : ℕ → Type 0
      Own b = pos (share_of b t * elapsed o.until o.stretch) ≡ pos (t.q * o.stretch.granted) +ℤ o.stretch.lost.0

      own : eqb o.application a ≡ true → Own a
      own k = let same = eqb-true o.application a k in subst Own same (p (w same))

      go : (b : Bool) → (b ≡ true → Own a) → pos (share_of a t * lasted a os) ≡ pos (t.q * granted_by a os) +ℤ lost_by a os
          → pos (share_of a t * (cond b (o.until - o.stretch.since.0) 0 + lasted a os)) ≡ pos (t.q * (cond b o.stretch.granted 0 + granted_by a os)) +ℤ (cond b o.stretch.lost.0 (pos 0) +ℤ lost_by a os)
      go true f rest = sum_two (share_of a t) t.q (elapsed o.until o.stretch) (lasted a os) o.stretch.granted (granted_by a os) o.stretch.lost.0 (lost_by a os) (f refl) rest
      go false f rest = none_more (share_of a t) t.q (lasted a os) (granted_by a os) (lost_by a os) rest

-- ---- where no thread is active, nothing is ahead
none_ahead : (a now : ℕ) (xs : List Thread) → sum_by (one a) xs ≡ 0 → total (ahead_in a now) xs ≡ pos 0
unfolding sum_by total
none_ahead a now [] e = refl
none_ahead a now (x ∷ xs) e = go (active_in a x) (none_ahead a now xs) e
  where
    go : (b : Bool) → (sum_by (one a) xs ≡ 0 → total (ahead_in a now) xs ≡ pos 0) → cond b 1 0 + sum_by (one a) xs ≡ 0
        → cond b (x.w.0 -ℤ scaled x now) (pos 0) +ℤ total (ahead_in a now) xs ≡ pos 0
    go true f e = absurd (omega arith)
    go false f e = rw (f (omega arith)) refl

-- ---- all of it
module _ (promise : item.Promised) (usual : ℕ) (t : Table) (admitted : table_answer usual t ≡ Done) (cs : List Call) (a : ℕ) (l : a < apps) where
  abbrev c : Activity
  c = holding usual t cs a (past usual t cs)

  abbrev os : List Over
  os = overs usual t cs

  abbrev s : State
  s = now usual t cs

  active_so : c.active ≡ actives_of a s
  active_so = (promise usual t admitted cs).holds a l

  granted_so : granted_by a os + granted_now c ≡ granted_in (app_of t) a (past usual t cs)
  granted_so = (promise usual t admitted cs).all_granted a l

  lost_so : lost_by a os +ℤ lost_now c ≡ lost_in (app_of t) a (past usual t cs)
  lost_so = (promise usual t admitted cs).all_lost a l

  evens_so : Uncut a os → pos (share_of a t * lasted a os) ≡ pos (t.q * granted_by a os) +ℤ lost_by a os
  evens_so u = evens t a os (promise usual t admitted cs).ended u

  open_so : 0 < c.active → pos (share_of a t * elapsed s.clock.0 c.stretch) +ℤ ahead_of a s ≡ pos (t.q * c.stretch.granted) +ℤ c.stretch.lost.0
  open_so h = moved_over (share_of a t) t.q (elapsed s.clock.0 c.stretch) c.stretch.granted (ahead_of a s) c.stretch.lost.0 ((promise usual t admitted cs).between a l h)

  -- the stretches that are over, and n ticks of one that holds with g granted and x lost
  settled : (n g : ℕ) (x : ℤ) → Uncut a os → granted_now c ≡ g → lost_now c ≡ x → pos (share_of a t * n) +ℤ ahead_of a s ≡ pos (t.q * g) +ℤ x → Settles usual t cs a n s
  settled n g x u e f h =
      let many = evens_so u in
      let G = granted_by a os in
      let L = lost_by a os in
      let k : G + g ≡ granted_in (app_of t) a (past usual t cs) = ap (λ (m : ℕ). G + m) (sym e) ∙ granted_so in
      let z : L +ℤ x ≡ lost_in (app_of t) a (past usual t cs) = ap (λ (y : ℤ). L +ℤ y) (sym f) ∙ lost_so in
      joined (share_of a t) t.q (lasted a os) n G g (ahead_of a s) L x many h
      ∙ ap₂ (λ (m : ℕ) (y : ℤ). pos (t.q * m) +ℤ y) k z
    where
      joined : (u q d n g h : ℕ) (b x y : ℤ) → pos (u * d) ≡ pos (q * g) +ℤ x → pos (u * n) +ℤ b ≡ pos (q * h) +ℤ y → pos (u * (d + n)) +ℤ b ≡ pos (q * (g + h)) +ℤ (x +ℤ y)
      joined u q d n g h b x y e f = same_parts _ _ (omega (arith, ap up e, ap dn e, ap up f, ap dn f, add_parts (pos (q * g)) x, add_parts (pos (q * h)) y, add_parts (pos (u * n)) b, add_parts x y, add_parts (pos (q * (g + h))) (x +ℤ y), add_parts (pos (u * (d + n))) b))

  resting : Uncut a os → actives_of a s ≡ 0 → Settles usual t cs a 0 s
  resting u e =
      let k = eq-eqb c.active 0 (active_so ∙ e) in
      settled 0 0 (pos 0) u (rw k refl) (rw k refl) (rw (none_ahead a s.clock.0 (take s.count s.threads) e) (same_parts _ _ (omega (arith, add_parts (pos (share_of a t * 0)) (pos 0), add_parts (pos (t.q * 0)) (pos 0)))))

  working : Uncut a os → 0 < actives_of a s → Settles usual t cs a (s.clock.0 - c.stretch.since.0) s
  working u h =
      let w : 0 < c.active = omega (arith, active_so) in
      let k = ne_eqb c.active 0 (λ e. omega arith) in
      settled (elapsed s.clock.0 c.stretch) c.stretch.granted c.stretch.lost.0 u (rw k refl) (rw k refl) (open_so w)

  abbrev d : Activity
  d = holding usual t cs a (past usual t cs ++ leavings s)

  left_so : 0 < d.active → pos (share_of a t * elapsed (gone s).clock.0 d.stretch) +ℤ ahead_of a (gone s) ≡ pos (t.q * d.stretch.granted) +ℤ d.stretch.lost.0
  left_so h = moved_over (share_of a t) t.q (elapsed (gone s).clock.0 d.stretch) d.stretch.granted (ahead_of a (gone s)) d.stretch.lost.0 ((promise usual t admitted cs).after_leaving a l h)

pub follows : item.Promised → Promised
follows promise usual t admitted cs = record {
  at_rest = resting promise usual t admitted cs;
  at_work = working promise usual t admitted cs;
  having_left = left_so promise usual t admitted cs;
}
