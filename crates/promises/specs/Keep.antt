-- Changes of the table that keep what holds of its threads: one thread in another's place, a map, a loss of W.
use Rattle.std.specs.Prelude.{◌≡◌, Bool, true, false, cond, T, eqb, pos, take, set}
use Rattle.std.proofs.Math.Path.{refl}
use Rattle.std.proofs.Common.{sym, ◌∙◌, subst, le_refl, length-set}
use mathlib.Core.List.{List}
use Prim.Native.Nat.{ℕ, zero, suc, ◌+◌, ◌*◌, ◌-◌, ◌≤◌, ◌<◌}
use native.Mathlib.Omega.{arith}
use Rattle.std.proofs.lemmas.Bool.{eqb-false}
use Rattle.std.proofs.Math.ListN.{length}
use Rattle.lists.specs.Sum.{sum_by, sum_map, sum_store}
use Rattle.lists.specs.Take.{sum_put, sum_upd_le, all_upd, sum_map_le, at_upd}
use Rattle.lists.specs.MapTo.{map_to, map_length}
use Rattle.lists.specs.All.{All, all_at, all_set, all_map}
use Rattle.rules.specs.Limits.{nobody}
use Rattle.rules.specs.Threads.{Thread, State, blank, at, scaled, active, active_in, loses, lose_at, free_share, free_of}
use Rattle.rules.specs.Leaving.{leave}
use Rattle.rules.specs.Fitting.{fit, postpone}
use Rattle.rules.specs.Charge.{beneficiary, benefits}
use Rattle.promises.specs.Cases.{by_test, both, true_T}
use Rattle.promises.specs.Branches.{by_leaving, by_fitting}
use Rattle.promises.specs.Deadlines.{earliest_in}
use Rattle.promises.specs.Shares.{others}
use Rattle.promises.specs.Good.{share, deficit, claim, Fine, Rows, Ahead}
use Rattle.promises.specs.Row.{Fits, fine_leave, fine_fit, fine_loses}
use Rattle.promises.specs.Claim.{claim_leaves, claim_postponed}
use Rattle.promises.specs.Deficit.{deficit_leave, deficit_fit}
use Rattle.integers.specs.Parts.{lt_z-false, plus_parts}

-- ---- the threads of a table
module _ {m q t : ℕ} {xs : List Thread} (r : Rows m q t xs) where
  pub inside : {i : ℕ} → i < m → i < length xs
  inside {i} h = omega (arith, r.few, r.long)

  pub fine_at : (i : ℕ) → i < m → Fine q t (at xs i)
  fine_at i h = all_at m xs i blank r.fine h (inside h)

  -- a thread in another's place that has its share, is no further behind and claims no more
  pub put_rows : (i : ℕ) (v : Thread) → i < m → v.share ≡ (at xs i).share → Fine q t v → deficit t v ≤ deficit t (at xs i)
      → ((k n : ℕ) → claim t k n v ≤ claim t k n (at xs i)) → Rows m q t (set xs i v)
  put_rows i v h e f d c = record {
    long = length-set xs i v ∙ r.long;
    few = r.few;
    shares = rw same r.shares;
    fine = all_set m xs i v r.fine f;
    debts = omega (arith, r.debts, sum_put (deficit t) m xs i v blank h (inside h));
    claims = λ k n k1 l. rw same (omega (arith, r.claims k n k1 l, sum_put (claim t k n) m xs i v blank h (inside h), c k n));
  }
    where
      same : sum_by share (take m (set xs i v)) ≡ sum_by share (take m xs)
      same = sum_store share m xs i v blank e

  -- the same of all threads at once
  map_rows : (f : Thread → Thread) → ((x : Thread) → (f x).share ≡ x.share) → ((x : Thread) → Fine q t x → Fine q t (f x))
      → ((x : Thread) → deficit t (f x) ≤ deficit t x) → ((k n : ℕ) (x : Thread) → claim t k n (f x) ≤ claim t k n x) → Rows m q t (map_to m f xs)
  map_rows f e g d c = record {
    long = map_length m f xs ∙ r.long;
    few = r.few;
    shares = rw same r.shares;
    fine = all_map m m f xs g (le_refl _) r.fine;
    debts = omega (arith, r.debts, sum_map_le (deficit t) f d m m xs);
    claims = λ k n k1 l. rw same (omega (arith, r.claims k n k1 l, sum_map_le (claim t k n) f (c k n) m m xs));
  }
    where
      same : sum_by share (take m (map_to m f xs)) ≡ sum_by share (take m xs)
      same = sum_map share f e m m xs

-- ---- leaving
leave_share : (t : ℕ) (x : Thread) → (leave t x).share ≡ x.share
leave_share t x = by_leaving (λ (y : Thread). y.share ≡ x.share) t x refl (λ _ _. refl)

leave_claim : (t k n : ℕ) (x : Thread) → claim t k n (leave t x) ≤ claim t k n x
leave_claim t k n x =
    by_leaving (λ (y : Thread). claim t k n y ≤ claim t k n x) t x (omega arith)
    (λ p e. let h = lt_z-false (scaled x t) x.w.0 e in claim_leaves t k n x (pos 0) (pos 0) (true_T p) (omega arith))

pub leave_rows : {m q t : ℕ} {xs : List Thread} → Rows m q t xs → Rows m q t (map_to m (leave t) xs) × All (Ahead t) (take m (map_to m (leave t) xs))
leave_rows {m} {q} {t} {xs} r = (
  map_rows r (leave t) (leave_share t) (λ x f. (fine_leave q t x f).0) (deficit_leave t) (leave_claim t),
  all_map m m (leave t) xs (λ x f. (fine_leave q t x f).1) (le_refl _) r.fine,
)

-- ---- fitting
module _ (room : ℕ) (x : Thread) where
  -- what fitting does not see
  fit_same : {A : Type 0} (f : Thread → A) → f (postpone x) ≡ f x → f (fit room x) ≡ f x
  fit_same f e = by_fitting (λ (y : Thread). f y ≡ f x) room x refl (λ _ _. e)

  fit_claim : (t k n : ℕ) → claim t k n (fit room x) ≤ claim t k n x
  fit_claim t k n =
      by_fitting (λ (y : Thread). claim t k n y ≤ claim t k n x) room x (omega arith)
      (λ c _. let s = plus_parts x.e.0 (x.share * x.period) in claim_postponed t k n x _ (true_T c) (omega arith))

fit_share : (room : ℕ) (x : Thread) → (fit room x).share ≡ x.share
fit_share room x = fit_same room x (λ y. y.share) refl

pub fit_app : (room : ℕ) (x : Thread) → (fit room x).app ≡ x.app
fit_app room x = fit_same room x (λ y. y.app) refl

pub fit_free : (a room : ℕ) (x : Thread) → free_share a (fit room x) ≡ free_share a x
unfolding free_share
fit_free a room x = fit_same room x (free_share a) refl

-- g has the free share of each application
module _ {m q t : ℕ} {xs : List Thread} (g : ℕ → ℕ) (r : Rows m q t xs) where
  abbrev fitting : Thread → Thread
  fitting x = fit (q - g x.app) x

  pub fit_rows : Rows m q t (map_to m fitting xs)
  fit_rows = map_rows r fitting (λ x. fit_share (q - g x.app) x) (λ x f. (fine_fit q t x f (q - g x.app) (omega arith)).0) (λ x. deficit_fit t x (q - g x.app)) (λ k n x. fit_claim (q - g x.app) x t k n)

  -- every contending thread's tick fits now
  pub all_fit : All (λ y. Fits (q - g y.app) y) (take m (map_to m fitting xs))
  all_fit = all_map m m fitting xs (λ x f. subst (λ (a : ℕ). Fits (q - g a) (fitting x)) (sym (fit_app (q - g x.app) x)) (fine_fit q t x f (q - g x.app) (omega arith)).1) (le_refl _) r.fine

-- ---- a number that is taken from the W of one thread, or of nobody
module _ (r : ℕ) (xs : List Thread) (i : ℕ) where
  lose_keeps : (P : List Thread → Type 0) → P xs → ((i ≡ nobody → ⊥) → P (set xs i (loses (pos r) (at xs i)))) → P (lose_at (pos r) xs i)
  unfolding lose_at
  lose_keeps P a b = by_test P (eqb i nobody) (λ _. a) (λ e. b (eqb-false i nobody e))

  pub lose_length : length (lose_at (pos r) xs i) ≡ length xs
  lose_length = lose_keeps (λ ys. length ys ≡ length xs) refl (λ _. length-set xs i _)

  pub lose_at_lem : (P : Thread → Type 0) → ((x : Thread) → P x → P (loses (pos r) x)) → (c : ℕ) → P (at xs c) → P (at (lose_at (pos r) xs i) c)
  lose_at_lem P f c p = lose_keeps (λ ys. P (at ys c)) p (λ _. at_upd {P = P} (loses (pos r)) f xs i c blank p)

  module _ (m : ℕ) where
    -- a sum that rises by at most c
    pub lose_le : (f : Thread → ℕ) (c : ℕ) → ((x : Thread) → f (loses (pos r) x) ≤ f x + c) → sum_by f (take m (lose_at (pos r) xs i)) ≤ sum_by f (take m xs) + c
    lose_le f c h = lose_keeps (λ ys. sum_by f (take m ys) ≤ sum_by f (take m xs) + c) (omega arith) (λ _. sum_upd_le f (loses (pos r)) c h m xs i blank)

    -- a sum that does not look at W
    pub lose_sum : (f : Thread → ℕ) → ((x : Thread) → f (loses (pos r) x) ≡ f x) → sum_by f (take m (lose_at (pos r) xs i)) ≡ sum_by f (take m xs)
    lose_sum f h = lose_keeps (λ ys. sum_by f (take m ys) ≡ sum_by f (take m xs)) refl (λ _. sum_store f m xs i (loses (pos r) (at xs i)) blank (h (at xs i)))

    pub lose_all : (P : Thread → Type 0) → ((x : Thread) → P x → P (loses (pos r) x)) → All P (take m xs) → All P (take m (lose_at (pos r) xs i))
    lose_all P f a = lose_keeps (λ ys. All P (take m ys)) a (λ _. all_upd (loses (pos r)) f m xs i blank a)

    -- who loses is active
    pub lose_fine : (q t : ℕ) → m ≤ length xs → ((i ≡ nobody → ⊥) → (i < m) × T (active (at xs i))) → All (Fine q t) (take m xs) → All (Fine q t) (take m (lose_at (pos r) xs i))
    lose_fine q t l act a = lose_keeps (λ ys. All (Fine q t) (take m ys)) a (λ n. let h = act n in all_set m xs i _ a (fine_loses q t (at xs i) (all_at m xs i blank a h.0 (omega (arith, h.0))) r h.1))

-- ---- the benefits of the applications below n but own
module _ (own : ℕ) (s : State) where
  -- one application more
  benefits_keep : (P : List Thread → Type 0) (a : ℕ) (xs : List Thread) → P (benefits own s a xs)
      → P (lose_at (pos (free_of a s)) (benefits own s a xs) (beneficiary a s)) → P (benefits own s (suc a) xs)
  unfolding benefits
  benefits_keep P a xs p l = by_test P (eqb a own) (λ _. p) (λ _. l)

  pub benefits_at : (P : Thread → Type 0) → ((r : ℕ) (x : Thread) → P x → P (loses (pos r) x)) → (c n : ℕ) (xs : List Thread) → P (at xs c) → P (at (benefits own s n xs) c)
  unfolding benefits
  benefits_at P f c zero xs p = p
  benefits_at P f c (suc a) xs p = let i = benefits_at P f c a xs p in
      benefits_keep (λ ys. P (at ys c)) a xs i (lose_at_lem (free_of a s) (benefits own s a xs) (beneficiary a s) P (f (free_of a s)) c i)

  pub benefits_length : (n : ℕ) (xs : List Thread) → length (benefits own s n xs) ≡ length xs
  unfolding benefits
  benefits_length zero xs = refl
  benefits_length (suc a) xs = let i = benefits_length a xs in
      benefits_keep (λ ys. length ys ≡ length xs) a xs i (lose_length (free_of a s) (benefits own s a xs) (beneficiary a s) ∙ i)

  pub benefits_sum : (f : Thread → ℕ) → ((r : ℕ) (x : Thread) → f (loses (pos r) x) ≡ f x) → (m n : ℕ) (xs : List Thread)
      → sum_by f (take m (benefits own s n xs)) ≡ sum_by f (take m xs)
  unfolding benefits
  benefits_sum f h m zero xs = refl
  benefits_sum f h m (suc a) xs = let i = benefits_sum f h m a xs in
      benefits_keep (λ ys. sum_by f (take m ys) ≡ sum_by f (take m xs)) a xs i (lose_sum (free_of a s) (benefits own s a xs) (beneficiary a s) m f (h (free_of a s)) ∙ i)

  pub benefits_all : (P : Thread → Type 0) → ((r : ℕ) (x : Thread) → P x → P (loses (pos r) x)) → (m n : ℕ) (xs : List Thread) → All P (take m xs)
      → All P (take m (benefits own s n xs))
  unfolding benefits
  benefits_all P f m zero xs p = p
  benefits_all P f m (suc a) xs p = let i = benefits_all P f m a xs p in
      benefits_keep (λ ys. All P (take m ys)) a xs i (lose_all (free_of a s) (benefits own s a xs) (beneficiary a s) m P (f (free_of a s)) i)

  -- a sum that rises by at most k times what is taken
  pub benefits_le : (f : Thread → ℕ) (k : ℕ) → ((r : ℕ) (x : Thread) → f (loses (pos r) x) ≤ f x + k * r) → (m n : ℕ) (xs : List Thread)
      → sum_by f (take m (benefits own s n xs)) ≤ sum_by f (take m xs) + k * others own n (λ b. free_of b s)
  unfolding benefits others
  benefits_le f k h m zero xs = omega arith
  benefits_le f k h m (suc a) xs = go (eqb a own) (benefits_le f k h m a xs)
    where
      ys : List Thread
      ys = benefits own s a xs

      go : (c : Bool) → sum_by f (take m ys) ≤ sum_by f (take m xs) + k * others own a (λ b. free_of b s)
          → sum_by f (take m (cond c ys (lose_at (pos (free_of a s)) ys (beneficiary a s)))) ≤ sum_by f (take m xs) + k * (cond c 0 (free_of a s) + others own a (λ b. free_of b s))
      go true rec = omega arith
      go false rec = omega (arith, lose_le (free_of a s) ys (beneficiary a s) m f (k * free_of a s) (h (free_of a s)))

  -- every beneficiary is active
  pub benefits_fine : (q t n : ℕ) → s.count ≤ length s.threads → All (Fine q t) (take s.count s.threads)
      → All (Fine q t) (take s.count (benefits own s n s.threads))
  unfolding benefits
  benefits_fine q t zero l p = p
  benefits_fine q t (suc a) l p = let i = benefits_fine q t a l p in
      benefits_keep (λ ys. All (Fine q t) (take s.count ys)) a s.threads i
      (lose_fine (free_of a s) ys (beneficiary a s) s.count q t (omega (arith, benefits_length a s.threads)) (λ n. let h = earliest_in (active_in a) s.count s.threads n in (h.0, benefits_at Active (λ r x p. p) (beneficiary a s) a s.threads (both (active (at s.threads (beneficiary a s))) _ h.1).0)) i)
    where
      ys : List Thread
      ys = benefits own s a s.threads

      Active : Thread → Type 0
      Active x = T (active x)
