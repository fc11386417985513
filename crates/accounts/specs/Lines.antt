-- The lines of stretches as the code puts them: what their numbers have to be, and the lines of those that hold.
use Rattle.std.specs.Prelude.{◌≡◌, refl, Bool, true, false, cond, List, [], ◌∷◌, ◌++◌, ℕ, zero, suc, ◌+◌, ◌*◌, ◌≤◌, ◌<◌, eqb, ℤ, pos, ◌+ℤ◌, ◌-ℤ◌, length, take}
use Rattle.std.proofs.Common.{sym, ap, ◌∙◌, subst, append-nil, add-one, add-zero, arith, SFits, eq-eqb, ne_eqb}
use Rattle.std.proofs.Math.Decide.{ℕ_discrete}
use Rattle.std.proofs.lemmas.List.{get_or-take, length-take}
use Rattle.std.specs.Int.{w64}
use Rattle.integers.specs.Parts.{sub_parts, sfits_parts}
use Rattle.rules.specs.Limits.{max_q, max_threads, apps, clock_end}
use Rattle.rules.specs.Threads.{Thread, Amount, amt}
use Rattle.rules.specs.Table.{Table, Row, row_at, no_row}
use Rattle.rules.specs.Stretches.{Activity, Stretch, activity_at, share_to, share_of, elapsed, balance, over_at, cut_at, cut_to}
use Rattle.rules.specs.Report.{stretch_line, over_lines, open_line, open_lines}
use Rattle.text.specs.declared.report.How.{How}
use Rattle.text.specs.declared.report.How.TheVariants.{Over as AsOver, Idle, Open}
use Rattle.text.specs.Put.{Put}
use Rattle.text.specs.Wide.{wide, wide_out, wide_to, wide_room}
use Rattle.text.specs.Accounts.{word_of, account_line, account_widest}
use Rattle.stretches.specs.Standing.{Held}
use Rattle.stretches.specs.Bounds.{InRange, in_range}
use Rattle.accounts.specs.Told.{lines_append}

-- ---- the total share of an application
pub record Fair (t : Table) (a : ℕ) : Type 0 where
  pub few : t.threads ≤ max_threads
  pub most : share_of a t ≤ max_q

pub share_more : (a : ℕ) (rows : List Row) (i : ℕ) → share_to a rows (i + 1) ≡ share_to a rows i + cond (eqb (row_at rows i).app a) (row_at rows i).share 0
unfolding share_to
share_more a rows i = ap (λ k. share_to a rows k) (add-one i)

-- what is summed so far is at most the whole
pub share_le : (a : ℕ) (rows : List Row) (i n : ℕ) → i ≤ n → share_to a rows i ≤ share_to a rows n
unfolding share_to
share_le a rows i zero h = rw (zero_only i h) (omega arith)
  where
    zero_only : (i : ℕ) → i ≤ 0 → i ≡ 0
    zero_only i h = omega arith
share_le a rows i (suc n) h = by (λ k. share_le a rows i n k) (ℕ_discrete i (suc n))
  where
    by : (i ≤ n → share_to a rows i ≤ share_to a rows n) → Dec (i ≡ suc n) → share_to a rows i ≤ share_to a rows (suc n)
    by ih (yes e) = rw e (omega arith)
    by ih (no f) = omega (arith, ih (omega (arith, f)))

-- the code walks the first n rows
module _ (a : ℕ) (rows : List Row) (n i : ℕ) (h : i < length (take n rows)) where
  walked : row_at (take n rows) i ≡ row_at rows i
  walked = get_or-take n rows i no_row (omega (arith, h, length-take n rows))

  pub share_own : (row_at (take n rows) i).app ≡ a → share_to a rows i + (row_at (take n rows) i).share ≡ share_to a rows (i + 1)
  share_own e = rw (share_more, ← walked, eq-eqb _ _ e) refl

  pub share_other : ((row_at (take n rows) i).app ≡ a → ⊥) → share_to a rows i ≡ share_to a rows (i + 1)
  share_other f = rw (share_more, ← walked, ne_eqb _ _ f) (sym (add-zero (share_to a rows i)))

  -- and each share of the application fits
  pub share_fits : (row_at (take n rows) i).app ≡ a → share_to a rows i + (row_at (take n rows) i).share ≤ share_to a rows n
  share_fits e = omega (arith, share_own e, share_le a rows (i + 1) n (omega (arith, h, length-take n rows)))

-- ---- the sum of W − u × t, by the ticks elapsed
abbrev pub balance_of : ℕ → ℕ → ℕ → Stretch → ℤ
balance_of q share n c = pos (q * c.granted) -ℤ pos (share * n) +ℤ c.lost.0

pub record Balances (q share n : ℕ) (c : Stretch) : Type 0 where
  pub q_max : q ≤ max_q
  pub share_max : share ≤ max_q
  pub less : SFits w64 (pos (q * c.granted) -ℤ pos (share * n))
  pub whole : SFits w64 (balance_of q share n c)

-- ---- an application that stands at c at the moment m
pub record Lined (t : Table) (a m : ℕ) (c : Activity) : Type 0 where
  pub app_max : a < apps
  pub few : t.threads ≤ max_threads
  pub q_max : t.q ≤ max_q
  pub share_max : share_of a t ≤ max_q
  pub time : m ≤ clock_end
  pub range : InRange t.q (share_of a t) m c

module _ {t : Table} {a m : ℕ} {c : Activity} (l : Lined t a m c) where
  pub lined_fair : Fair t a
  lined_fair = record { few = l.few; most = l.share_max }

  pub lined_balances : Balances t.q (share_of a t) (elapsed m c.stretch) c.stretch
  lined_balances =
      let r = l.range in
      let d = sub_parts (pos (t.q * c.stretch.granted)) (pos (share_of a t * elapsed m c.stretch)) in
      record {
        q_max = l.q_max;
        share_max = l.share_max;
        less = sfits_parts w64 _ (omega (arith, d.up_le, r.given_max)) (omega (arith, d.dn_le, r.capacity_max));
        whole = sfits_parts w64 _ (omega (arith, r.balance_up)) (omega (arith, r.balance_dn));
      }

  pub lost_fits : SFits w64 c.stretch.lost.0
  lost_fits = sfits_parts w64 _ (omega (arith, l.range.lost_max)) (omega (arith, l.range.lost_min))

pub lined : {t : Table} {q k m : ℕ} {xs : List Thread} {cs : List Activity} → Held t q k m xs cs → q ≤ max_q → m ≤ clock_end → (a : ℕ) → a < apps → Lined t a m (activity_at cs a)
lined {t} {q} {k} {m} {xs} {cs} h l time a i = record {
  app_max = i;
  few = omega (arith, h.tied.few, h.tied.count_same);
  q_max = omega (arith, h.tied.q_same);
  share_max = omega (arith, h.tied.share_max a);
  time = time;
  range = subst (λ (n : ℕ). InRange n (share_of a t) m (activity_at cs a)) h.tied.q_same (in_range h l time a i);
}

-- ---- the lines
abbrev pub line_of : Table → ℕ → ℕ → Activity → How → List ℕ
line_of t a m c how = stretch_line t.q (share_of a t) a m c.stretch (word_of how)

abbrev pub held_line : Table → How → ℕ → ℕ → Activity → List ℕ
held_line t how m a c = cond (eqb c.active 0) [] (line_of t a m c how)

-- .. of the applications below n
unfoldable pub held_lines : Table → How → ℕ → List Activity → ℕ → List ℕ
held_lines t how m cs zero = []
held_lines t how m cs (suc a) = held_lines t how m cs a ++ held_line t how m a (activity_at cs a)

module _ (t : Table) (how : How) (m : ℕ) (cs : List Activity) (a : ℕ) where
  pub held_more : held_lines t how m cs a ++ held_line t how m a (activity_at cs a) ≡ held_lines t how m cs (a + 1)
  unfolding held_lines
  held_more = ap (λ k. held_lines t how m cs k) (sym (add-one a))

  -- where one holds, and where none does
  pub held_one : ((activity_at cs a).active ≡ 0 → ⊥) → held_lines t how m cs a ++ line_of t a m (activity_at cs a) how ≡ held_lines t how m cs (a + 1)
  held_one f = rw (← held_more, ne_eqb _ _ f) refl

  pub held_none : (activity_at cs a).active ≡ 0 → held_lines t how m cs a ≡ held_lines t how m cs (a + 1)
  held_none e = rw (← held_more, eq-eqb _ _ e) (sym (append-nil (held_lines t how m cs a)))

-- where the input ends
pub held_open : (t : Table) (m : ℕ) (cs : List Activity) (n : ℕ) → held_lines t Open m cs n ≡ open_lines t m cs n
unfolding held_lines open_lines
held_open t m cs zero = refl
held_open t m cs (suc a) = ap (λ ls. ls ++ open_line t m a (activity_at cs a)) (held_open t m cs a)

-- at an idle tick
pub held_idle : (t : Table) (m : ℕ) (cs : List Activity) (n : ℕ) → held_lines t Idle m cs n ≡ over_lines t (cut_to m cs n)
unfolding held_lines cut_to over_lines
held_idle t m cs zero = refl
held_idle t m cs (suc a) = ap (λ ls. ls ++ held_line t Idle m a (activity_at cs a)) (held_idle t m cs a) ∙ ap (λ ls. over_lines t (cut_to m cs a) ++ ls) one ∙ sym (lines_append t (cut_to m cs a) (cut_at m a (activity_at cs a)))
  where
    go : (b : Bool) → cond b [] (line_of t a m (activity_at cs a) Idle) ≡ over_lines t (cond b [] (record { application = a; stretch = (activity_at cs a).stretch; until = m; idle = true } ∷ []))
    go true = refl
    go false = sym (append-nil (line_of t a m (activity_at cs a) Idle))

    one : held_line t Idle m a (activity_at cs a) ≡ over_lines t (cut_at m a (activity_at cs a))
    one = go (eqb (activity_at cs a).active 0)

-- a stretch that is over, or is not
module _ (t : Table) (m a : ℕ) (c : Activity) where
  pub over_none : eqb c.active 0 ≡ false → [] ≡ over_lines t (over_at m a c)
  unfolding over_lines
  over_none e = rw e

  pub over_one : eqb c.active 0 ≡ true → line_of t a m c AsOver ≡ over_lines t (over_at m a c)
  unfolding over_lines
  over_one e = rw e (sym (append-nil (line_of t a m c AsOver)))

-- the line of the numbers that the code finds
pub put_line : {t : Table} {a m : ℕ} {c : Activity} (how : How) → Lined t a m c → (out : List ℕ) (k : ℕ) → k + wide ≤ length out
    → (share : ℕ) → share ≡ share_of a t → (z : Amount) → z ≡ amt (balance_of t.q share (elapsed m c.stretch) c.stretch)
    → (r : ℕ) (out' : List ℕ) → r ≡ wide_to out k (account_line a m c.stretch (share * elapsed m c.stretch) z.0 how) → out' ≡ wide_out out k (account_line a m c.stretch (share * elapsed m c.stretch) z.0 how)
    → Put out k (line_of t a m c how) out' r × (r ≤ k + wide)
put_line {t} {a} {m} {c} how l out k room share es z ez r out' er eo =
    let w = wide_room out k (line_of t a m c how) room in
    let n = er ∙ ap (λ text. wide_to out k text) same ∙ w.0 in
    (record { next = n; stored = eo ∙ ap (λ text. wide_out out k text) same ∙ w.1 }, omega (arith, n, short))
  where
    same : account_line a m c.stretch (share * elapsed m c.stretch) z.0 how ≡ line_of t a m c how
    same = rw (ez, es)

    short : length (line_of t a m c how) ≤ wide
    short =
        let g = l.range in
        account_widest a m c.stretch (share_of a t * elapsed m c.stretch) (balance t.q (share_of a t) m c.stretch) how
        (omega (arith, l.app_max))
        (omega (arith, l.time))
        (omega (arith, g.since_max, l.time))
        (omega (arith, g.granted_max, l.time))
        (lost_fits l)
        (omega (arith, g.capacity_max))
        (lined_balances l).whole
