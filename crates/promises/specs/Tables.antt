-- One pass over the threads: every thread changed in turn, or a number collected for each application.
use Rattle.std.specs.Prelude.{◌≡◌, refl, Bool, true, ◌&&◌, List, Option, None, Some, IfSome, ℕ, zero, suc, ◌+◌, ◌≤◌, ◌<◌, pos, length, get_or, set}
use Rattle.std.proofs.Math.Path.{sym, ap}
use Rattle.std.proofs.Common.{◌∙◌, subst, le_refl, add-one, arith, length-set, get_or-set_same, get_or-set_other}
use Rattle.std.proofs.Math.Bool.{false, cond}
use Rattle.std.proofs.Math.Decide.{ℕ_discrete}
use borrow.Author.Tests.{ne_eqb, eq-eqb, eqb-true, eqb-false}
use Rattle.std.proofs.lemmas.Option.{none-some}
use Rattle.std.proofs.Math.Dec.{eqb}
use Rattle.lists.specs.MapTo.{map_to, map_none, map_at, map_has, map_stays, map_more}
use Rattle.lists.specs.Sum.{sum_none, sum_more}
use Rattle.rules.specs.Limits.{max_app, nobody}
use Rattle.rules.specs.Threads.{Thread, State, blank, at, with_rows, is_inactive, active, active_in, free_share, free, free_of, is_earlier, sooner, closer, earliest, loses, lose_at}
use Rattle.rules.specs.Leaving.{leave, gone}
use Rattle.rules.specs.Charge.{beneficiary, benefits}
use Rattle.promises.specs.Cases.{and_false}
use Rattle.promises.specs.Deadlines.{earliest_in}
use Rattle.promises.specs.Sound.{Sound, RowOk}
use Rattle.promises.specs.Item3.{Deadline, Earliest, deadline_of, compare_parts}
use Rattle.promises.specs.Remainders.{Parted, parted_is, parts_sooner}

-- ---- every thread changed by f in turn; z is s with the first i of them changed
module _ (f : Thread → Thread) (s : State) where
  abbrev pub Changed : ℕ → State → Type 0
  Changed i z = z ≡ with_rows s (map_to i f s.threads)

  pub change_none : Changed 0 s
  change_none = ap (with_rows s) (sym (map_none f s.threads))

  -- the thread whose turn it is, is as it was
  pub change_next : (i : ℕ) {z : State} → Changed i z → at z.threads i ≡ at s.threads i
  change_next i e = ap (λ (z : State). at z.threads i) e ∙ map_at i f s.threads i blank (le_refl i)

  -- the thread whose turn it is, once it is changed, is as it will be
  pub change_turn : Sound s → (i : ℕ) → i < s.count → {z : State} → Changed i z → (x : Thread) → x ≡ f (at z.threads i) → x ≡ at (map_to s.count f s.threads) i
  change_turn g i h e x k = k ∙ ap f (change_next i e) ∙ sym (map_has s.count f s.threads i blank h (omega (arith, g.few, g.long)))

  pub change_more : Sound s → (i : ℕ) → i < s.count → {z : State} → Changed i z → (x : Thread) → x ≡ f (at z.threads i) → Changed (i + 1) (with_rows z (set z.threads i x))
  change_more g i h e x k = ap (λ (z : State). with_rows z (set z.threads i x)) e
      ∙ ap (λ (y : Thread). with_rows s (set (map_to i f s.threads) i y)) (k ∙ ap f (change_next i e))
      ∙ ap (with_rows s) (map_more f s.threads i blank (omega (arith, g.few, g.long)))

-- leaving as a change of every thread: at a closed moment it changes none
abbrev pub leaves : State → Thread → Thread
leaves s x = cond s.closed x (leave s.clock.0 x)

pub gone_is : (s : State) → gone s ≡ with_rows s (map_to s.count (leaves s) s.threads)
unfolding gone
gone_is s = go s.closed
  where
    go : (c : Bool)
        → cond c s (with_rows s (map_to s.count (leave s.clock.0) s.threads)) ≡ with_rows s (map_to s.count (λ (x : Thread). cond c x (leave s.clock.0 x)) s.threads)
    go true = ap (with_rows s) (sym (map_stays s.count s.threads))
    go false = refl

-- ---- a number for each application
-- the table f has, for each application a, the number that g has for it
abbrev pub Table16 : (ℕ → ℕ) → List ℕ → Type 0
Table16 g f = (a : ℕ) → a < 16 → get_or f a 0 ≡ g a

-- one row more: its own application's number changes, the others' do not
table_more : (g g' : ℕ → ℕ) (f : List ℕ) (app v : ℕ) → length f ≡ 16 → app < 16 → Table16 g f → v ≡ g' app → ((a : ℕ) → (a ≡ app → ⊥) → g' a ≡ g a) → Table16 g' (set f app v)
table_more g g' f app v l h inv e same a k = go (ℕ_discrete a app)
  where
    go : Dec (a ≡ app) → get_or (set f app v) a 0 ≡ g' a
    go (yes p) = subst (λ b. get_or (set f app v) b 0 ≡ g' b) (sym p) (get_or-set_same f app v 0 (omega arith) ∙ e)
    go (no n) = get_or-set_other f app a v 0 n ∙ inv a k ∙ sym (same a n)

-- ---- the two tables
module _ (xs : List Thread) (i : ℕ) where
  -- thread i is not of the application a, whatever else is asked of it
  and_other : (a : ℕ) → (a ≡ (at xs i).app → ⊥) → (b : Bool) → (b && eqb (at xs i).app a) ≡ false
  and_other a n b = ap (λ c. b && c) (ne_eqb (at xs i).app a (λ e. n (sym e))) ∙ and_false b

  free_other : i < length xs → (a : ℕ) → (a ≡ (at xs i).app → ⊥) → free a (i + 1) xs ≡ free a i xs
  unfolding free_share
  free_other l a n = sum_more (free_share a) xs i blank l ∙ zero_more (and_other a n (is_inactive (at xs i).phase))
    where
      zero_more : (is_inactive (at xs i).phase && eqb (at xs i).app a) ≡ false
          → free a i xs + cond (is_inactive (at xs i).phase && eqb (at xs i).app a) (at xs i).share 0 ≡ free a i xs
      zero_more e = rw e (omega arith)

-- no thread is of an application that there is not
pub free_none : {s : State} → Sound s → (a : ℕ) → max_app < a → (n : ℕ) → n ≤ s.count → free a n s.threads ≡ 0
free_none {s} g a h zero k = sum_none (free_share a) s.threads
free_none {s} g a h (suc n) k = ap (λ m. free a m s.threads) (sym (add-one n)) ∙ free_other s.threads n (omega (arith, g.few, g.long)) a (λ e. let o = (g.ok n k).app_max in omega arith) ∙ free_none g a h n (omega arith)

-- ---- the earliest so far
-- the thread b and its deadline
abbrev pub leading : List Thread → ℕ → Earliest
leading xs b = record { thread = b; deadline = deadline_of (at xs b) }

-- .. unless b is nobody's number
abbrev pub led : List Thread → ℕ → Option Earliest
led xs b = cond (eqb b nobody) None (Some (leading xs b))

-- d is earlier than the earliest so far
abbrev pub leads_of : Deadline → Option Earliest → Bool
leads_of d None = true
leads_of d (Some o) = is_earlier (compare_parts d o.deadline)

-- the earlier of the earliest so far and x, which comes after it
abbrev pub closer_of : Option Earliest → Earliest → Option Earliest
closer_of o x = cond (leads_of x.deadline o) (Some x) o

pub led_nobody : (xs : List Thread) (b : ℕ) → None ≡ led xs b → b ≡ nobody
led_nobody xs b = go (eqb b nobody) refl
  where
    go : (n : Bool) → eqb b nobody ≡ n → None ≡ cond n None (Some (leading xs b)) → b ≡ nobody
    go true q e = eqb-true b nobody q
    go false q e = absurd (none-some _ e)

pub led_thread : (xs : List Thread) (b : ℕ) {o : Earliest} → Some o ≡ led xs b → (o.thread ≡ b) × (b ≡ nobody → ⊥)
led_thread xs b {o} = go (eqb b nobody) refl
  where
    go : (n : Bool) → eqb b nobody ≡ n → Some o ≡ cond n None (Some (leading xs b)) → (o.thread ≡ b) × (b ≡ nobody → ⊥)
    go true q e = absurd (none-some _ (sym e))
    go false q e = (ap (λ (x : Option Earliest). elim x [ None ↦ nobody | Some y ↦ y.thread ]) e, eqb-false b nobody q)

-- o is the earliest of the first i threads that pass the test p
abbrev pub Lead : (Thread → Bool) → List Thread → ℕ → Option Earliest → Type 0
Lead p xs i o = o ≡ led xs (earliest p i xs)

module _ (p : Thread → Bool) (xs : List Thread) (i : ℕ) where
  pub lead_none : Lead p xs 0 None
  unfolding earliest
  lead_none = refl

  next_is : earliest p (i + 1) xs ≡ closer p xs (earliest p i xs) i
  unfolding earliest
  next_is = ap (λ k. earliest p k xs) (add-one i)

  module _ {o : Option Earliest} (l : Lead p xs i o) where
    -- one that does not pass
    pub lead_past : p (at xs i) ≡ false → Lead p xs (i + 1) o
    lead_past e = l ∙ ap (led xs) (sym (next_is ∙ rw e refl))

    module _ (ok : (k : ℕ) → k < i + 1 → RowOk (at xs k)) where
      pub lead_parted : IfSome o (λ x. Parted x.deadline)
      lead_parted = rw l (go (eqb (earliest p i xs) nobody) refl)
        where
          go : (n : Bool) → eqb (earliest p i xs) nobody ≡ n
              → IfSome (cond n None (Some (leading xs (earliest p i xs)))) (λ (x : Earliest). Parted x.deadline)
          go true q = tt
          go false q = parted_is (ok _ (omega (arith, (earliest_in p i xs (eqb-false _ nobody q)).0))) refl

      -- one that passes leads or does not
      pub turn_is : p (at xs i) ≡ true → earliest p (i + 1) xs ≡ cond (leads_of (deadline_of (at xs i)) o) i (earliest p i xs)
      turn_is e = next_is ∙ rw e (go (eqb b nobody) refl) ∙ sym (ap (λ o. cond (leads_of (deadline_of (at xs i)) o) i b) l)
        where
          b : ℕ
          b = earliest p i xs

          go : (n : Bool) → eqb b nobody ≡ n
              → cond n i (cond (sooner (at xs i) (at xs b)) i b) ≡ cond (leads_of (deadline_of (at xs i)) (cond n None (Some (leading xs b)))) i b
          go true q = refl
          go false q = ap (λ t. cond t i b) (sym (parts_sooner (ok i (omega arith)) (ok b (omega (arith, (earliest_in p i xs (eqb-false b nobody q)).0))) refl refl))

      -- .. and the earlier of the two is the earliest so far
      pub lead_next : i < 64 → p (at xs i) ≡ true → Lead p xs (i + 1) (closer_of o (leading xs i))
      lead_next few e = go (leads_of (deadline_of (at xs i)) o) refl
        where
          go : (t : Bool) → leads_of (deadline_of (at xs i)) o ≡ t → cond t (Some (leading xs i)) o ≡ led xs (earliest p (i + 1) xs)
          go true q = sym (ap (led xs) (turn_is e ∙ ap (λ t. cond t i (earliest p i xs)) q) ∙ ap (λ n. cond n None (Some (leading xs i))) (ne_eqb i nobody (λ z. omega arith)))
          go false q = l ∙ sym (ap (led xs) (turn_is e ∙ ap (λ t. cond t i (earliest p i xs)) q))

-- ---- one turn of each table; x is the thread whose turn it is, app its application
module _ (xs : List Thread) (i : ℕ) (f : List ℕ) (long : length f ≡ 16) (x : Thread) (e : x ≡ at xs i) (app : ℕ) (own : app ≡ x.app) (k : app < 16) where
  other : {a : ℕ} → (a ≡ app → ⊥) → a ≡ (at xs i).app → ⊥
  other n h = n (h ∙ sym (own ∙ ap (λ (y : Thread). y.app) e))

  with_own : (b : Bool) → b ≡ (b && eqb x.app app)
  with_own true = sym (eq-eqb x.app app (sym own))
  with_own false = refl

  pub free_own : i < length xs → Table16 (λ a. free a i xs) f → get_or f app 0 + cond (is_inactive x.phase) x.share 0 ≡ free app (i + 1) xs
  unfolding free_share
  free_own l inv = ap (λ r. r + cond (is_inactive x.phase) x.share 0) (inv app k)
      ∙ ap (λ c. free app i xs + cond c x.share 0) (with_own (is_inactive x.phase))
      ∙ ap (λ (y : Thread). free app i xs + free_share app y) e
      ∙ sym (sum_more (free_share app) xs i blank l)

  pub free_more : i < length xs → Table16 (λ a. free a i xs) f → Table16 (λ a. free a (i + 1) xs) (set f app (get_or f app 0 + cond (is_inactive x.phase) x.share 0))
  free_more l inv = table_more (λ a. free a i xs) (λ a. free a (i + 1) xs) f app _ long k inv (free_own l inv) (λ a n. free_other xs i l a (other n))

-- ---- the earliest of each application
pub record Leads (xs : List Thread) (i : ℕ) (best : List (Option Earliest)) : Type 0 where
  pub long : length best ≡ 16
  pub each : (a : ℕ) → a < 16 → Lead (active_in a) xs i (get_or best a None)

module _ (xs : List Thread) (i : ℕ) (best : List (Option Earliest)) (l : Leads xs i best) where
  pub leads_past : active (at xs i) ≡ false → Leads xs (i + 1) best
  leads_past e = record { long = l.long; each = λ a h. lead_past (active_in a) xs i (l.each a h) (rw e refl) }

  module _ (few : i < 64) (ok : (k : ℕ) → k < i + 1 → RowOk (at xs k)) (app : ℕ) (k : app < 16) (own : app ≡ (at xs i).app) (e : active (at xs i) ≡ true) where
    elsewhere : (a : ℕ) → (a ≡ app → ⊥) → active_in a (at xs i) ≡ false
    elsewhere a n = and_other xs i a (λ q. n (q ∙ sym own)) (active (at xs i))

    pub leads_next : Leads xs (i + 1) (set best app (closer_of (get_or best app None) (leading xs i)))
    leads_next = record { long = length-set best app x ∙ l.long; each = λ a m. go a m (ℕ_discrete a app) }
      where
        x : Option Earliest
        x = closer_of (get_or best app None) (leading xs i)

        go : (a : ℕ) → a < 16 → Dec (a ≡ app) → Lead (active_in a) xs (i + 1) (get_or (set best app x) a None)
        go a m (yes q) = subst (λ a. Lead (active_in a) xs (i + 1) (get_or (set best app x) a None)) (sym q)
            (rw (get_or-set_same best app x None (omega (arith, l.long)))
            (lead_next (active_in app) xs i (l.each app k) ok few (rw (e, eq-eqb (at xs i).app app (sym own)) refl)))
        go a m (no n) = rw (get_or-set_other best app a x None n) (lead_past (active_in a) xs i (l.each a m) (elsewhere a n))

-- ---- one turn of the handing out
module _ (own a : ℕ) (s : State) (xs : List Thread) where
  pub hand_own : a ≡ own → benefits own s (a + 1) xs ≡ benefits own s a xs
  unfolding benefits
  hand_own e = rw (add-one, eq-eqb a own e)

  pub hand_none : (a ≡ own → ⊥) → beneficiary a s ≡ nobody → benefits own s (a + 1) xs ≡ benefits own s a xs
  unfolding benefits lose_at
  hand_none n e = rw (add-one, ne_eqb a own n, e)

  pub hand_one : (a ≡ own → ⊥) → (b : ℕ) → b ≡ beneficiary a s → (b ≡ nobody → ⊥) → (r : ℕ) → r ≡ free_of a s
      → set (benefits own s a xs) b (loses (pos r) (at (benefits own s a xs) b)) ≡ benefits own s (a + 1) xs
  unfolding benefits lose_at
  hand_one n b e m r k = rw (add-one, ne_eqb a own n, ← e, ne_eqb b nobody m, k)
