-- The lag bound holds, from what holds of every given state.
use Rattle.std.specs.Prelude.{◌≡◌, refl, List, [], ◌∷◌, ℕ, ◌+◌, ◌*◌, ◌-◌, ◌≤◌, ℤ, pos, ◌+ℤ◌, ◌-ℤ◌, ◌*ℤ◌, ◌≤ℤ◌, take}
use Rattle.std.proofs.Common.{ap, arith}
use Rattle.integers.specs.Parts.{up, dn, add_parts, sub_parts, parts_le, times_up, times_dn}
use Rattle.lists.specs.Sum.{sum_by}
use Rattle.lists.specs.All.{All, all_at, all_of}
use Rattle.rules.specs.Threads.{Thread, State, blank}
use Rattle.rules.specs.Table.{Table, Done, shares_to, table_answer}
use Rattle.rules.specs.Calls.{Call}
use Rattle.rules.specs.Stretches.{Stretch, ahead_in, ahead_of, share_of, elapsed, total}
use Rattle.promises.specs.Good.{claim}
use Rattle.promises.specs.Keep.{inside}
use Rattle.promises.specs.Begin.{start_good}
use Rattle.promises.specs.Ready.{gone_good}
use Rattle.promises.specs.Always.{after_good}
use Rattle.stretches.specs.Shares.{own_shares}
use Rattle.stretches.specs.Proved.{item_8}
use Rattle.lag.specs.Lag.{EachBehind, others_of, LagsByNoMore, LagsNotAtAll, stands, left, told, Until, Promised}
use Rattle.lag.specs.Claimed.{Counts, all_cover}
use Rattle.lag.specs.Rows.{left_good, tied, all_shares, own_within}

-- a sum of integers by the sums of their parts
total_parts : (f : Thread → ℤ) (xs : List Thread) → up (total f xs) + sum_by (λ x. dn (f x)) xs ≡ dn (total f xs) + sum_by (λ x. up (f x)) xs
unfolding total sum_by
total_parts f [] = refl
total_parts f (x ∷ xs) = let s = add_parts (f x) (total f xs) in omega (arith, total_parts f xs, s.eq)

-- the sums: U and U_A of the shares, C of the claims, D and N of the parts of what a is ahead
sums : (k t e all own c d n : ℕ) → own ≤ all → k * t ≤ e → e * own + k * d ≤ c + k * t * own + k * n → c + k * t * all ≤ e * all → k * d ≤ k * n + (all - own) * (e - k * t)
sums k t e all own c d n h l cover claims = go (all - own) (e - k * t) (omega arith) (omega arith)
  where
    go : (o m : ℕ) → all ≡ own + o → e ≡ k * t + m → k * d ≤ k * n + o * m
    go o m p q = omega (arith, cover, claims, ap (λ (z : ℕ). k * t * z) p, ap (λ (z : ℕ). e * z) p, ap (λ (z : ℕ). z * o) q)

module _ (usual : ℕ) (t : Table) (ok : table_answer usual t ≡ Done) (cs : List Call) where
  abbrev s : State
  s = left usual t cs

  counts : (a k e : ℕ) → Until a s k e → All (Counts a s.clock.0 k e) (take s.count s.threads)
  counts a k e u =
      let r = (left_good usual t ok cs).rows in
      all_of s.count s.threads blank (omega (arith, r.few, r.long))
      (λ i h. (all_at s.count s.threads i blank (gone_good (after_good cs (start_good usual t ok))).1 h (inside r h), λ o c b. u.latest i h o c b))

  -- what a is ahead, by its parts
  bound : (a k e : ℕ) → Until a s k e → k * dn (ahead_of a s) ≤ k * up (ahead_of a s) + others_of a t * (e - k * s.clock.0)
  bound a k e u =
      let m = s.clock.0 in
      let xs = take s.count s.threads in
      let b : k * sum_by (λ x. dn (ahead_in a m x)) xs ≤ k * sum_by (λ x. up (ahead_in a m x)) xs + others_of a t * (e - k * m) =
      sums k m e (shares_to t.rows t.threads) (share_of a t) (sum_by (claim m k e) xs) _ _ (own_within usual t ok cs a) u.ahead
      (rw (← own_shares (tied usual t ok cs) a) (all_cover a m k e (counts a k e u)))
      (rw (← all_shares usual t ok cs) ((left_good usual t ok cs).rows.claims k e u.whole u.ahead)) in
      omega (arith, b, ap (λ (z : ℕ). k * z) (total_parts (ahead_in a m) xs))

  lag_is : (a k e : ℕ) → Until a s k e → LagsByNoMore (others_of a t) k e s.clock.0 (ahead_of a s)
  lag_is a k e u =
      let z = pos k *ℤ ahead_of a s in
      let p = add_parts z (pos (others_of a t * (e - k * s.clock.0))) in
      parts_le _ _ (omega (arith, bound a k e u, times_up k (ahead_of a s), times_dn k (ahead_of a s), p.eq))

  none_is : (a : ℕ) → EachBehind a s (λ _. ⊥) → LagsNotAtAll (ahead_of a s)
  none_is a f =
      let b = bound a 1 (1 * s.clock.0) (record { whole = omega arith; ahead = omega arith; latest = λ i h o c b. absurd (f i h o c b) }) in
      parts_le _ _ (omega (arith, b, ap (λ (n : ℕ). others_of a t * n) nothing))
    where
      nothing : 1 * s.clock.0 - 1 * s.clock.0 ≡ 0
      nothing = omega arith

-- Item 8's equation in the bound: S is Q × granted − U_A × elapsed + lost
with_balance : (k g l o : ℕ) (z s : ℤ) → s ≡ pos g -ℤ pos l +ℤ z → k * dn s ≤ k * up s + o → pos (k * l) ≤ℤ (pos k *ℤ (pos g +ℤ z) +ℤ pos o)
with_balance k g l o z s e h =
    let d = sub_parts (pos g) (pos l) in
    let b = add_parts (pos g -ℤ pos l) z in
    let p = add_parts (pos g) z in
    let r = add_parts (pos k *ℤ (pos g +ℤ z)) (pos o) in
    parts_le _ _ (omega (
      arith,
      h,
      ap (λ (y : ℤ). k * up y) e,
      ap (λ (y : ℤ). k * dn y) e,
      ap (λ (n : ℕ). k * n) d.eq,
      ap (λ (n : ℕ). k * n) b.eq,
      ap (λ (n : ℕ). k * n) p.eq,
      r.eq,
      times_up k (pos g +ℤ z),
      times_dn k (pos g +ℤ z),
    ))

pub lag_bound : Promised
lag_bound usual t ok cs = record {
  lag = lag_is usual t ok cs;
  none_behind = none_is usual t ok cs;
  capacity = λ a k e l u h. with_balance k (t.q * (c a).granted) (share_of a t * elapsed m (c a)) (others_of a t * (e - k * m)) (c a).lost.0 (ahead_of a (left usual t cs)) ((item_8 usual t ok cs).after_leaving a l h) (bound usual t ok cs a k e u);
}
  where
    m : ℕ
    m = (left usual t cs).clock.0

    c : ℕ → Stretch
    c a = (stands t (told usual t cs) a).stretch
