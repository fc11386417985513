-- A completion, an arrival and a drop keep what holds of the threads.
use Rattle.std.specs.Prelude.{◌≡◌, false, not, List, ℕ, ◌+◌, ◌*◌, ◌-◌, ◌≤◌, ◌<◌, T, ltb, ℤ, pos, ◌+ℤ◌, take, set}
use Rattle.std.proofs.Math.Path.{refl}
use Rattle.std.proofs.Common.{◌∙◌, arith, ltb-true, length-set}
use Rattle.std.specs.Int.Signed.{lt_z}
use Rattle.integers.specs.Parts.{up, dn, ◌≼◌, sub_parts, as_nat, dn_clip, lt_z-true, lt_z-false}
use Rattle.lists.specs.Sum.{sum_by, sum_store}
use Rattle.lists.specs.Take.{sum_put}
use Rattle.lists.specs.All.{All, all_at, all_set}
use Rattle.rules.specs.Limits.{max_jobs}
use Rattle.rules.specs.Threads.{Thread, Phase, Inactive, Contending, NonContending, with, with_jobs, blank, at, scaled, is_inactive, is_contending, contends, active, active_in, lose_at}
use Rattle.rules.specs.Completion.{greater, goes_on, stays, ends, freed, takes, receiver, gives, completing}
use Rattle.rules.specs.Arrival.{arrive_as, arrive}
use Rattle.rules.specs.Drop.{head_only}
use Rattle.promises.specs.Cases.{test, by_test, both}
use Rattle.promises.specs.Deadlines.{earliest_in}
use Rattle.promises.specs.Good.{share, deficit, early, claim, Fine, Rows, Ahead, Leads}
use Rattle.promises.specs.Row.{fine_goes, fine_stays, fine_ends, fine_arrive, fine_head}
use Rattle.promises.specs.Claim.{claim_postponed, claim_stays, claim_freed, claim_arrives, claim_jobs, claim_loses}
use Rattle.promises.specs.Deficit.{deficit_goes, deficit_stays, deficit_ends, deficit_active, deficit_arrive, deficit_jobs, deficit_loses}
use Rattle.promises.specs.Keep.{inside, fine_at, put_rows, lose_length, lose_le, lose_sum, lose_all, lose_fine}
use Rattle.promises.specs.Tick.{Late, late_claims, late_all, Alike}

runs_active : (x : Thread) → T (contends x) → T (active x)
runs_active x c = go x.phase c
  where
    go : (p : Phase) → T (is_contending p) → T (not (is_inactive p))
    go Inactive c = c
    go Contending c = tt
    go NonContending c = tt

greater_le : (a b : ℤ) → a ≼ greater a b
greater_le a b = by_test (λ (z : ℤ). a ≼ z) (lt_z a b) (λ e. let h = lt_z-true a b e in omega arith) (λ _. omega arith)

-- what a thread frees that is not ahead of the clock is a natural number
pub freed_nat : (t : ℕ) (x : Thread) → lt_z (scaled x t) x.w.0 ≡ false → (a : ℕ) × (freed t x ≡ pos a) × (up x.w.0 + a ≡ x.share * t + dn x.w.0)
freed_nat t x e =
    let z = freed t x in
    let d = sub_parts (scaled x t) x.w.0 in
    let h = lt_z-false (scaled x t) x.w.0 e in
    let n = dn_clip z 0 (omega arith) in
    (up z, as_nat z (omega arith), omega arith)

-- ---- the completion of c, which leads
module _ {m q t : ℕ} {xs : List Thread} (r : Rows m q t xs) (c : ℕ) (l : Leads m xs c) where
  abbrev x : Thread
  x = at xs c

  abbrev ys : List Thread
  ys = set xs c (ends x)

  fine_x : Fine q t x
  fine_x = fine_at r c l.inside

  -- what it frees goes to its receiver, or is lost
  gift_rows : (a : ℕ) → up x.w.0 + a ≡ x.share * t + dn x.w.0 → Rows m q t (lose_at (pos a) ys (receiver m x ys))
  gift_rows a s = record {
    long = lose_length a ys to ∙ length-set xs c (ends x) ∙ r.long;
    few = r.few;
    shares = rw same r.shares;
    fine = lose_fine a ys to m q t (omega (arith, r.few, r.long, length-set xs c (ends x))) (λ n. let h = earliest_in (takes x) m ys n in (h.0, taker h)) (all_set m xs c (ends x) r.fine (fine_ends q t x fine_x));
    debts = omega (arith, r.debts, lose_le a ys to m (deficit t) a (λ y. deficit_loses t y a), sum_put (deficit t) m xs c (ends x) blank l.inside (inside r l.inside), deficit_ends t x, deficit_active t x (runs_active x l.runs), s);
    claims = λ k n k1 h. rw same (test (λ _. sum_by (claim t k n) (take m zs) + k * t * sum_by share (take m xs) ≤ n * sum_by share (take m xs)) (early k n x.share x.e.0)
        (λ e. omega (arith, r.claims k n k1 h, lose_le a ys to m (claim t k n) (k * a) (λ y. claim_loses t k n y a), sum_put (claim t k n) m xs c (ends x) blank l.inside (inside r l.inside), claim_freed t k n x (pos 0) (pos 0) a l.runs e h s, claim_jobs t k n (with x Inactive (pos 0) (pos 0)) 0))
        (λ e. rw (← same) (late_claims t k n h (lose_all a ys to m (Late k n) (λ y p. p) (all_set m xs c (ends x) (late_all r l k n e) tt)))));
  }
    where
      to : ℕ
      to = receiver m x ys

      zs : List Thread
      zs = lose_at (pos a) ys to

      taker : (to < m) × T (takes x (at ys to)) → T (active (at ys to))
      taker h = (both (active (at ys to)) _ (both (active_in x.app (at ys to)) _ h.1).0).0

      same : sum_by share (take m zs) ≡ sum_by share (take m xs)
      same = lose_sum a ys to m share (λ y. refl) ∙ sum_store share m xs c (ends x) blank refl

  ends_rows : lt_z (scaled x t) x.w.0 ≡ false → Rows m q t (gives t m x ys)
  unfolding gives
  ends_rows e = let a = freed_nat t x e in rw a.1 (gift_rows a.0 a.2)

  pub completing_rows : Rows m q t (completing t m c x xs)
  unfolding completing
  completing_rows =
      by_test (Rows m q t) (ltb 1 x.jobs)
      (λ j. put_rows r c (goes_on x) l.inside refl (fine_goes q t x fine_x l.runs (ltb-true 1 x.jobs j)) (deficit_goes t x)
      (λ k n. rw (claim_jobs t k n (with x x.phase x.w.0 (greater x.e.0 (x.w.0 +ℤ scaled x x.period))) (x.jobs - 1)) (claim_postponed t k n x _ l.runs (greater_le x.e.0 (x.w.0 +ℤ scaled x x.period)))))
      (λ _. by_test (Rows m q t) (lt_z (scaled x t) x.w.0)
      (λ e. put_rows r c (stays x) l.inside refl (fine_stays q t x fine_x) (deficit_stays t x (runs_active x l.runs))
      (λ k n. rw (claim_jobs t k n (with x NonContending x.w.0 x.e.0) 0) (claim_stays t k n x x.e.0 l.runs (let h = lt_z-true (scaled x t) x.w.0 e in omega arith))))
      ends_rows)

-- ---- the arrival of a job of thread i, once those that leave have left
arrive_share : (t : ℕ) (x : Thread) → (arrive t x).share ≡ x.share
unfolding arrive
arrive_share t x = go x.phase
  where
    go : (p : Phase) → (arrive_as p t x).share ≡ x.share
    go Inactive = refl
    go Contending = refl
    go NonContending = refl

arrive_ahead : (t : ℕ) (x : Thread) → Ahead t (arrive t x)
unfolding arrive
arrive_ahead t x = go x.phase
  where
    go : (p : Phase) → Ahead t (with_jobs (arrive_as p t x) (x.jobs + 1))
    go Inactive c = absurd c
    go Contending c = absurd c
    go NonContending c = absurd c

arrive_claim : (t k n : ℕ) (x : Thread) → Ahead t x → claim t k n (arrive t x) ≤ claim t k n x
unfolding arrive
arrive_claim t k n x a = rw (claim_jobs t k n (arrive_as x.phase t x) (x.jobs + 1)) (claim_arrives t k n x a)

module _ {m q t : ℕ} {xs : List Thread} (r : Rows m q t xs) (left : All (Ahead t) (take m xs)) (i : ℕ) (h : i < m) where
  pub arrive_rows : (at xs i).jobs < max_jobs → Rows m q t (set xs i (arrive t (at xs i)))
  arrive_rows j =
      let a = all_at m xs i blank left h (inside r h) in
      put_rows r i (arrive t (at xs i)) h (arrive_share t (at xs i)) (fine_arrive q t (at xs i) (fine_at r i h) a j) (deficit_arrive t (at xs i)) (λ k n. arrive_claim t k n (at xs i) a)

  pub arrive_left : All (Ahead t) (take m (set xs i (arrive t (at xs i))))
  arrive_left = all_set m xs i (arrive t (at xs i)) left (arrive_ahead t (at xs i))

-- ---- a drop
pub drop_rows : {m q t : ℕ} {xs : List Thread} → Rows m q t xs → (i : ℕ) → i < m → Rows m q t (set xs i (head_only (at xs i)))
unfolding head_only
drop_rows {m} {q} {t} {xs} r i h =
    put_rows r i (head_only (at xs i)) h refl (fine_head q t (at xs i) (fine_at r i h)) (omega (arith, deficit_jobs t (at xs i) (head_only (at xs i)).jobs)) (λ k n. omega (arith, claim_jobs t k n (at xs i) (head_only (at xs i)).jobs))

pub head_alike : (x y : Thread) → Alike x y → Alike x (head_only y)
unfolding head_only
head_alike x y a = record { share_same = a.share_same; phase_same = a.phase_same; e_same = a.e_same }

pub head_ahead : (t : ℕ) (x : Thread) → Ahead t x → Ahead t (head_only x)
unfolding head_only
head_ahead t x a = a
