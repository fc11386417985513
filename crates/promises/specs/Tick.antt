-- A tick keeps what holds of the threads: choice, charge and clock, or an idle tick. On the way: the granted tick ends by its deadline.
use Rattle.std.specs.Prelude.{◌≡◌, not, cond, ◌&&◌, List, [], ◌∷◌, ℕ, ◌+◌, ◌*◌, ◌-◌, ◌≤◌, ◌<◌, eqb, ℤ, pos, take}
use Rattle.std.proofs.Math.Path.{refl}
use Rattle.std.proofs.Common.{ap, ◌∙◌, subst, le_refl, mul-le-mul_left, arith}
use Rattle.std.proofs.Math.Nat.{le_of_mul-le-mul_left, lt_of_mul-lt-mul_left, mul-lt-mul_of_pos_left}
use Rattle.std.proofs.Math.Dec.{T, nleb→lt}
use Rattle.std.proofs.Math.ListN.{length, length-set}
use Rattle.integers.specs.Parts.{up, dn, minus_parts}
use Rattle.lists.specs.Sum.{sum_by, sum_map, sum_scale, sum_times, sum_store}
use Rattle.lists.specs.Take.{sum_put, sum_gap, all_upd, at_upd, sum_map_le, sum_le_add, sum_add_le}
use Rattle.lists.specs.MapTo.{map_to, map_length}
use Rattle.lists.specs.All.{All, none, more, all_at, all_set, all_map, all_of}
use Rattle.rules.specs.Limits.{apps}
use Rattle.rules.specs.Threads.{Thread, State, Phase, Inactive, Contending, NonContending, blank, at, is_inactive, is_contending, contends, idle, loses, free_share, free_of}
use Rattle.rules.specs.Fitting.{room_of}
use Rattle.rules.specs.Charge.{gains, benefits, grown, charged}
use Rattle.promises.specs.Cases.{test}
use Rattle.promises.specs.Deadlines.{NotAfter, frac}
use Rattle.promises.specs.Shares.{idle_share, others, free_all}
use Rattle.promises.specs.Good.{share, deficit, early, claim, Claims, Fine, Rows, Leads}
use Rattle.promises.specs.Row.{Fits, fine_idle, fine_later, fine_gains}
use Rattle.promises.specs.Claim.{NotEarly, claim_le, claim_loses, claim_gains, claim_clock, free_claim, own_claim}
use Rattle.promises.specs.Deficit.{deficit_idle, deficit_loses, deficit_gains, active_share, deficit_later, two_shares}
use Rattle.promises.specs.Keep.{inside, fine_at, benefits_at, benefits_length, benefits_sum, benefits_all, benefits_le, benefits_fine}

-- ---- where no thread contends with an early deadline the claims are plain
abbrev pub Late : ℕ → ℕ → Thread → Type 0
Late k n x = NotEarly k n x.share x.phase x.e.0

pub late_claims : (t k n : ℕ) → k * t ≤ n → {xs : List Thread} → All (Late k n) xs → sum_by (claim t k n) xs + k * t * sum_by share xs ≤ n * sum_by share xs
unfolding sum_by
late_claims t k n h none = omega arith
late_claims t k n h (more {x} p a) = omega (arith, claim_le t k n x h p, late_claims t k n h a)

-- no deadline is early where the earliest is not
late_as : (k n u : ℕ) (e : ℤ) (p : Phase) (v : ℕ) (d : ℤ) → 0 < u → n * u + dn e * k < up e * k → 0 < v
    → (T (is_contending p) → up e * v + dn d * u ≤ up d * u + dn e * v) → NotEarly k n v p d
late_as k n u e Inactive v d h l i f = tt
late_as k n u e Contending v d h l i f = lt_of_mul-lt-mul_left u (omega (arith, mul-le-mul_left k (f tt), mul-lt-mul_of_pos_left {k = v} l i))
late_as k n u e NonContending v d h l i f = tt

-- .. in a table that c leads
pub late_all : {m q t : ℕ} {xs : List Thread} → Rows m q t xs → {c : ℕ} → Leads m xs c → (k n : ℕ)
    → T (not (early k n (at xs c).share (at xs c).e.0)) → All (Late k n) (take m xs)
late_all {m} {q} {t} {xs} r {c} l k n b =
    all_of m xs blank (omega (arith, r.few, r.long))
    (λ j h. late_as k n (at xs c).share (at xs c).e.0 (at xs j).phase (at xs j).share (at xs j).e.0 (fine_at r c l.inside).share_min (nleb→lt _ _ b) (fine_at r j h).share_min (l.first j h))

-- ---- the clock
clock_claims : (t k n : ℕ) → k * (t + 1) ≤ n → (xs : List Thread) → sum_by (claim (t + 1) k n) xs + k * sum_by idle_share xs ≤ sum_by (claim t k n) xs
unfolding sum_by
clock_claims t k n h [] = omega arith
clock_claims t k n h (x ∷ xs) = omega (arith, claim_clock t k n x h, clock_claims t k n h xs)

pub clock_debts : {m q t : ℕ} {xs : List Thread} → Rows m q t xs → sum_by (deficit (t + 1)) (take m xs) + sum_by idle_share (take m xs) ≤ q * (t + 1)
clock_debts {m} {q} {t} {xs} r =
    omega (
      arith,
      r.debts,
      r.shares,
      sum_le_add (deficit (t + 1)) (deficit t) (active_share t) (deficit_later t) (take m xs),
      sum_add_le (active_share t) idle_share share (two_shares t) (take m xs),
    )

-- ---- a thread that differs in W alone
pub record Alike (x y : Thread) : Type 0 where
  pub share_same : y.share ≡ x.share
  pub phase_same : y.phase ≡ x.phase
  pub e_same : y.e ≡ x.e

pub leads_alike : {m : ℕ} {xs ys : List Thread} {c : ℕ} → ((j : ℕ) → Alike (at xs j) (at ys j)) → Leads m xs c → Leads m ys c
leads_alike {m} {xs} {ys} {c} a l = record {
  inside = l.inside;
  runs = rw (a c).phase_same l.runs;
  first = λ j h k. same (at xs c) (at ys c) (at xs j) (at ys j) (a c) (a j) (l.first j h (subst (λ (p : Phase). T (is_contending p)) (a j).phase_same k));
}
  where
    same : (x x' y y' : Thread) → Alike x x' → Alike y y' → NotAfter x y → NotAfter x' y'
    same x x' y y' p q h = rw (p.share_same, p.e_same, q.share_same, q.e_same) h

-- ---- the tick of c, in the ready state z
-- c leads, and its tick fits
pub record Chosen (z : State) (c : ℕ) : Type 0 where
  pub leads : Leads z.count z.threads c
  pub fits : Fits (room_of z (at z.threads c)) (at z.threads c)

-- the share of a contending thread is free to nobody
free_none : (a : ℕ) (x : Thread) → T (contends x) → free_share a x ≡ 0
unfolding free_share
free_none a x c = go x.phase c
  where
    go : (p : Phase) → T (is_contending p) → cond (is_inactive p && eqb x.app a) x.share 0 ≡ 0
    go Inactive c = absurd c
    go Contending c = refl
    go NonContending c = absurd c

pub free_share_le : (a : ℕ) (x : Thread) → free_share a x ≤ share x
unfolding free_share
free_share_le a x = test (λ c. cond c x.share 0 ≤ x.share) (is_inactive x.phase && eqb x.app a) (λ _. omega arith) (λ _. omega arith)

-- k (q − r) + n r ≤ C + k t r and C + k t U ≤ n U, with U ≤ q and r < q: then k (t + 1) ≤ n
room : (k t n q r U C : ℕ) → U ≤ q → r < q → k * t ≤ n → n * r + k * (q - r) ≤ C + k * t * r → C + k * t * U ≤ n * U → k * (t + 1) ≤ n
room k t n q r U C full less h low inv =
    omega (arith, by (n - k * t) (q - r) (omega arith) (omega arith) (omega (arith, ap (λ (z : ℕ). z * r) split)) (omega (arith, ap (λ (z : ℕ). z * U) split)))
  where
    split : n ≡ k * t + (n - k * t)
    split = omega arith

    by : (m s : ℕ) → U ≤ r + s → 0 < s → (k * t + m) * r + k * s ≤ C + k * t * r → C + k * t * U ≤ (k * t + m) * U → k ≤ m
    by m s full less low inv = le_of_mul-le-mul_left {k = s} (omega (arith, mul-le-mul_left m full)) less

-- the sums of a tick: before, after the benefits, after the charge, after the clock
balance : (k t n q r U S S₁ S₂ S₃ I o : ℕ) → U ≤ q → S + k * t * U ≤ n * U → S₁ ≤ S + k * o → S₂ + k * (q - r) ≤ S₁ → o + r ≤ I → S₃ + k * I ≤ S₂ → S₃ + k * (t + 1) * U ≤ n * U
balance k t n q r U S S₁ S₂ S₃ I o full inv g c f i =
    omega (arith, mul-le-mul_left k full, mul-le-mul_left k f, mul-le-mul_left k (split q r))
  where
    split : (q r : ℕ) → q ≤ (q - r) + r
    split q r = omega arith

module _ (z : State) (c : ℕ) (ch : Chosen z c) (rows : Rows z.count z.q z.clock.0 z.threads) where
  abbrev m : ℕ
  m = z.count

  abbrev q : ℕ
  q = z.q

  abbrev t : ℕ
  t = z.clock.0

  abbrev xs : List Thread
  xs = z.threads

  abbrev x : Thread
  x = at z.threads c

  abbrev r : ℕ
  r = free_of x.app z

  fine_x : Fine q t x
  fine_x = fine_at rows c ch.leads.inside

  free_less : r < q
  free_less = omega (arith, rows.shares, fine_x.share_min, sum_gap share (free_share x.app) (free_share_le x.app) x.share m xs c blank ch.leads.inside (inside rows ch.leads.inside) (omega (arith, free_none x.app x ch.leads.runs)))

  own_low : up x.e.0 * r + x.share * (q - r) ≤ sum_by (claim t x.share (up x.e.0)) (take m xs) + x.share * t * r
  own_low =
      let k = x.share in
      let n = up x.e.0 in
      omega (
        arith,
        sum_gap (λ y. claim t k n y + k * t * free_share x.app y) (λ y. n * free_share x.app y) (λ y. free_claim t k n y x.app) (k * (q - r)) m xs c blank ch.leads.inside (inside rows ch.leads.inside)
            (omega (arith, own_claim t n (q - r) x ch.leads.runs refl fine_x.e_whole (ch.fits ch.leads.runs), ap (λ (y : ℕ). n * y) (free_none x.app x ch.leads.runs))),
        sum_scale (claim t k n) (free_share x.app) (k * t) (take m xs),
        sum_times (free_share x.app) n (take m xs),
      )

  -- the granted tick ends no later than the deadline that it is granted under
  pub in_time : x.share * (t + 1) ≤ up x.e.0
  in_time =
      let d = fine_x.due ch.leads.runs in
      room x.share t (up x.e.0) q r (sum_by share (take m xs)) (sum_by (claim t x.share (up x.e.0)) (take m xs)) rows.shares free_less d own_low (rows.claims x.share (up x.e.0) fine_x.share_min d)

  -- .. and so does no contending thread's deadline come before its end
  next_due : (j : ℕ) → j < m → T (contends (at xs j)) → (at xs j).share * (t + 1) ≤ up (at xs j).e.0
  next_due j h k =
      let y = at xs j in
      let f = fine_at rows j h in
      let w = f.e_whole in
      omega (arith, frac (t + 1) 0 1 (up x.e.0) (dn x.e.0) x.share (up y.e.0) (dn y.e.0) y.share fine_x.share_min (omega (arith, in_time, fine_x.e_whole)) (ch.leads.first j h k))

  next_fine : All (Fine q (t + 1)) (take m xs)
  next_fine = all_of m xs blank (omega (arith, rows.few, rows.long)) (λ j h. fine_later q t (at xs j) (fine_at rows j h) (next_due j h))

  abbrev ys : List Thread
  ys = benefits x.app z apps xs

  abbrev zs : List Thread
  zs = grown c (q - r) ys

  ys_long : length ys ≡ 64
  ys_long = benefits_length x.app z apps xs ∙ rows.long

  c_in : c < length ys
  c_in = omega (arith, ys_long, ch.leads.inside, rows.few)

  -- c in the table of the benefits
  pub Had : Thread → Type 0
  Had y = T (contends y) × Fits (q - r) y × (y.share ≡ x.share) × (y.e.0 ≡ x.e.0)

  had_ys : Had (at ys c)
  unfolding Had
  had_ys = benefits_at x.app z Had lower c apps xs (ch.leads.runs, ch.fits, refl, refl)
    where
      lower : (n : ℕ) (y : Thread) → Had y → Had (loses (pos n) y)
      lower n y h = (h.0, (λ k. let f = h.1 k in let d = minus_parts y.w.0 n in omega arith), h.2, h.3)

  -- ---- sums
  same_ys : (f : Thread → ℕ) → ((n : ℕ) (y : Thread) → f (loses (pos n) y) ≡ f y) → ((n : ℕ) (y : Thread) → f (gains n y) ≡ f y) → sum_by f (take m zs) ≡ sum_by f (take m xs)
  same_ys f h g = sum_store f m ys c (gains (q - r) (at ys c)) blank (g (q - r) (at ys c)) ∙ benefits_sum x.app z f h m apps xs

  same_shares : sum_by share (take m zs) ≡ sum_by share (take m xs)
  same_shares = same_ys share (λ n y. refl) (λ n y. refl)

  same_idle : sum_by idle_share (take m zs) ≡ sum_by idle_share (take m xs)
  unfolding idle_share
  same_idle = same_ys idle_share (λ n y. refl) (λ n y. refl)

  early_claims : (k n : ℕ) → k * (t + 1) ≤ n → T (early k n x.share x.e.0) → sum_by (claim t k n) (take m xs) + k * t * sum_by share (take m xs) ≤ n * sum_by share (take m xs)
      → sum_by (claim (t + 1) k n) (take m zs) + k * (t + 1) * sum_by share (take m xs) ≤ n * sum_by share (take m xs)
  unfolding Had
  early_claims k n h b inv =
      balance k t n q r (sum_by share (take m xs)) (sum_by (claim t k n) (take m xs)) (sum_by (claim t k n) (take m ys)) (sum_by (claim t k n) (take m zs)) (sum_by (claim (t + 1) k n) (take m zs)) (sum_by idle_share (take m zs)) (others x.app apps (λ b. free_of b z))
      rows.shares
      inv
      (benefits_le x.app z (claim t k n) k (λ n' y. claim_loses t k n y n') m apps xs)
      (omega (arith, sum_put (claim t k n) m ys c (gains (q - r) (at ys c)) blank ch.leads.inside c_in, claim_gains t k n (at ys c) (q - r) had_ys.0 early_ys (had_ys.1 had_ys.0)))
      (omega (arith, free_all x.app apps m xs, same_idle))
      (clock_claims t k n h (take m zs))
    where
      early_ys : T (early k n (at ys c).share (at ys c).e.0)
      early_ys = rw (had_ys.2, had_ys.3) b

  late_zs : (k n : ℕ) → T (not (early k n x.share x.e.0)) → All (Late k n) (take m zs)
  late_zs k n b = all_upd (gains (q - r)) (λ y a. a) m ys c blank (benefits_all x.app z (Late k n) (λ n' y a. a) m apps xs (late_all rows ch.leads k n b))

  charge_claims : Claims m (t + 1) zs
  charge_claims k n k1 h =
      test (λ _. sum_by (claim (t + 1) k n) (take m zs) + k * (t + 1) * sum_by share (take m zs) ≤ n * sum_by share (take m zs)) (early k n x.share x.e.0)
      (λ b. rw same_shares (early_claims k n h b (rows.claims k n k1 (omega arith))))
      (λ b. late_claims (t + 1) k n h (late_zs k n b))

  charge_debts : sum_by (deficit (t + 1)) (take m zs) ≤ q * (t + 1)
  charge_debts = omega (
    arith,
    clock_debts rows,
    benefits_le x.app z (deficit (t + 1)) 1 (λ n y. omega (arith, deficit_loses (t + 1) y n)) m apps xs,
    free_all x.app apps m xs,
    sum_put (deficit (t + 1)) m ys c (gains (q - r) (at ys c)) blank ch.leads.inside c_in,
    deficit_gains (t + 1) (at ys c) (q - r),
  )

  charge_fine : All (Fine q (t + 1)) (take m zs)
  unfolding Had
  charge_fine =
      all_set m ys c (gains (q - r) (at ys c)) (benefits_fine x.app z q (t + 1) apps long next_fine)
      (fine_gains q t (at ys c) (all_at m ys c blank (benefits_fine x.app z q t apps long rows.fine) ch.leads.inside c_in) (q - r) (omega arith) had_ys.0 had_ys.1 (rw (had_ys.2, had_ys.3) in_time))
    where
      long : m ≤ length xs
      long = omega (arith, rows.few, rows.long)

  pub charge_rows : Rows m q (t + 1) (charged z c).threads
  unfolding charged
  charge_rows = record {
    long = length-set ys c _ ∙ ys_long;
    few = rows.few;
    shares = rw same_shares rows.shares;
    fine = charge_fine;
    debts = charge_debts;
    claims = charge_claims;
  }

  -- the charge changes W alone
  pub charge_alike : (j : ℕ) → Alike (at xs j) (at (charged z c).threads j)
  unfolding charged
  charge_alike j = at_upd {P = Alike (at xs j)} (gains (q - r)) (λ y a. record { share_same = a.share_same; phase_same = a.phase_same; e_same = a.e_same }) ys c j blank
      (benefits_at x.app z (Alike (at xs j)) (λ n y a. record { share_same = a.share_same; phase_same = a.phase_same; e_same = a.e_same }) j apps xs (record { share_same = refl; phase_same = refl; e_same = refl }))

-- ---- the idle tick, where none contends
pub idle_rows : {m q t : ℕ} {xs : List Thread} → Rows m q t xs → ((j : ℕ) → j < m → T (contends (at xs j)) → ⊥) → Rows m q (t + 1) (map_to m idle xs)
idle_rows {m} {q} {t} {xs} r rest = record {
  long = map_length m idle xs ∙ r.long;
  few = r.few;
  shares = rw (sum_map share idle (λ x. refl) m m xs) r.shares;
  fine = all_map m m idle xs (λ x f. fine_later q t (idle x) f (λ c. absurd c)) (le_refl _) idle_fine;
  debts = omega (arith, clock_debts r, sum_map_le (deficit (t + 1)) idle (λ x. omega (arith, deficit_idle (t + 1) x)) m m xs);
  claims = λ k n k1 h. late_claims (t + 1) k n h (all_map m m idle xs (λ x f. tt) (le_refl _) r.fine);
}
  where
    idle_fine : All (λ x. Fine q t (idle x)) (take m xs)
    idle_fine = all_of m xs blank (omega (arith, r.few, r.long)) (λ j h. fine_idle q t (at xs j) (fine_at r j h) (rest j h))
