-- A thread has its own share, from what holds between it and its own stretch, and so has an application, thread by thread.
use Rattle.std.specs.Prelude.{◌≡◌, not, cond, List, ℕ, ◌+◌, ◌*◌, ◌-◌, ◌≤◌, ◌<◌, T, replicate}
use Rattle.std.proofs.Math.Path.{refl, subst}
use Rattle.std.proofs.Common.{sym, ap, ap₂, ◌∙◌, arith}
use Rattle.std.proofs.lemmas.List.{length-replicate, get_or-replicate}
use Rattle.integers.specs.Parts.{up, dn}
use Rattle.lists.specs.All.{all_at}
use Rattle.quantities.specs.declared.Moment.{Moment}
use Rattle.rules.specs.Limits.{max_threads}
use Rattle.rules.specs.Threads.{Thread, State, Phase, Inactive, Contending, NonContending, blank, at, is_inactive, is_contending, is_non, active}
use Rattle.rules.specs.Table.{Table, Done, table_answer, row_at, start}
use Rattle.rules.specs.Calls.{Call}
use Rattle.rules.specs.History.{Happening, leavings}
use Rattle.rules.specs.Stretches.{Activity, quiet, app_of}
use Rattle.stretches.specs.Item8.{now, past}
use Rattle.promises.specs.Good.{Good, Fine, Ahead}
use Rattle.promises.specs.Keep.{fine_at}
use Rattle.promises.specs.Begin.{start_good}
use Rattle.promises.specs.Ready.{gone_beside, gone_good}
use Rattle.promises.specs.Always.{after_good}
use Rattle.lag.specs.Lag.{left, told}
use Rattle.lag.specs.Own.{granted_from, MoreThan, own, began_at, had_since, due_to, margin, together, Of, AllFrom, Promised}
use Rattle.lag.specs.Sums.{over_less, over_some, over_shares}
use Rattle.lag.specs.Mine.{mine, mine_append, activities_mine}
use Rattle.lag.specs.Held.{HeldAs, Held}
use Rattle.lag.specs.Kept.{Kept, gone_kept}
use Rattle.lag.specs.Along.{after_kept}
use Rattle.lag.specs.Paced.{Paced, paced_append, leavings_paced, history_paced}
use Rattle.lag.specs.Ticks.{Counted, all_counted, over_ticks}
use Rattle.lag.specs.Rows.{few, begun_at, left_good, share_is, period_is, q_is}

-- ---- one thread, after leaving
module _ {q t : ℕ} {c : Activity} (x : Thread) (h : Held q t c x) where
  counted : c.active ≡ cond (active x) 1 0
  counted = go x.phase h.stage
    where
      go : (f : Phase) → HeldAs f q x.share x.period t c x.w.0 x.e.0 → c.active ≡ cond (not (is_inactive f)) 1 0
      go Inactive s = s
      go Contending s = s.one
      go NonContending s = s.one

  -- u × t is at most E where it contends, and less than W where it does not
  within : Fine q t x → Ahead t x → 0 < c.active → (c.stretch.since.0 ≤ t) × (x.share * t < x.share * c.stretch.since.0 + q * c.stretch.granted + q + x.share * x.period)
  within f a p = go x.phase h.stage f.due a
    where
      go : (g : Phase) → HeldAs g q x.share x.period t c x.w.0 x.e.0 → (T (is_contending g) → x.share * t ≤ up x.e.0) → (T (is_non g) → x.share * t + dn x.w.0 < up x.w.0)
          → (c.stretch.since.0 ≤ t) × (x.share * t < x.share * c.stretch.since.0 + q * c.stretch.granted + q + x.share * x.period)
      go Inactive s d n = absurd (no s)
        where
          no : c.active ≡ 0 → ⊥
          no z = omega arith
      go Contending s d n = (s.begun, omega (arith, s.e_less, d tt, f.e_whole))
      go NonContending s d n = (s.begun, omega (arith, s.w_most, n tt))

-- u × (t − s), from u × t
since_less : (u t s b : ℕ) → s ≤ t → u * t < u * s + b → u * (t - s) < b
since_less u t s b l h = go (t - s) (omega arith)
  where
    go : (m : ℕ) → t ≡ s + m → u * m < b
    go m e = omega (arith, h, ap (λ (z : ℕ). u * z) e)

module _ (usual : ℕ) (t : Table) (ok : table_answer usual t ≡ Done) (cs : List Call) where
  begins_good : Good (start usual t)
  begins_good = start_good usual t ok

  -- before its first job
  first_kept : (i : ℕ) → i < t.threads → Kept i quiet (start usual t)
  unfolding start
  first_kept i h = record {
    inside = h;
    among = omega (arith, begins_good.rows.long, few usual t ok cs);
    held = rw (begun_at usual t ok cs i h) (record { stage = refl });
  }

  abbrev s : State
  s = left usual t cs

  abbrev hs : List Happening
  hs = told usual t cs

  abbrev now_at : ℕ
  now_at = s.clock.0

  -- the own stretch, read off for thread i alone, is where the thread stands
  alone : (i : ℕ) → i < t.threads → own hs i ≡ mine i quiet hs
  alone i h = activities_mine hs (replicate max_threads quiet) i (omega (arith, length-replicate max_threads quiet, few usual t ok cs))
      ∙ ap (λ (c : Activity). mine i c hs) (get_or-replicate max_threads i quiet quiet (omega (arith, few usual t ok cs)))

  stands : (i : ℕ) → i < t.threads → Kept i (own hs i) s
  stands i h = rw (alone i h, mine_append i quiet (past usual t cs) (leavings (now usual t cs))) (gone_kept (after_kept cs begins_good (first_kept i h)))

  one_thread : (i : ℕ) → i < t.threads → 0 < (own hs i).active → (began_at hs i ≤ now_at) × MoreThan t.q (due_to t now_at hs i) (margin usual t i) (had_since hs i)
  one_thread i h p =
      let k = stands i h in
      let c = (own hs i).stretch in
      let x = at s.threads i in
      let r = (left_good usual t ok cs).rows in
      let w = within x k.held (fine_at r i k.inside) (all_at s.count s.threads i blank (gone_good (after_good cs begins_good)).1 k.inside k.among) p in
      let e = share_is usual t ok cs i h in
      let f = period_is usual t ok cs i h in
      let g = q_is usual t ok cs in (
        w.0,
        since_less (row_at t.rows i).share now_at c.since.0 (t.q * c.granted + margin usual t i) w.0
            (omega (arith, w.1, ap (λ (u : ℕ). u * now_at) e, ap (λ (u : ℕ). u * c.since.0) e, ap₂ ◌*◌ e f, ap (λ (q : ℕ). q * c.granted) g, g)),
      )

  -- the history goes tick by tick
  paced : Paced t.threads 0 hs now_at
  unfolding start
  paced = subst (λ (m : ℕ). Paced t.threads 0 hs m) (sym (ap (λ (m : Moment). m.0) (gone_beside (now usual t cs)).clock))
      (paced_append (history_paced cs (start usual t) refl) (leavings_paced (now usual t cs).clock.0 (now usual t cs)))

  all_had : (i : ℕ) → i < t.threads → 0 < (own hs i).active → had_since hs i ≡ granted_from (λ j. j) i (began_at hs i) hs
  all_had i h =
      subst (λ (c : Activity). 0 < c.active → c.stretch.granted ≡ granted_from (λ j. j) i c.stretch.since.0 hs) (sym (alone i h))
      (λ p. omega (arith, (all_counted i paced first).same p))
    where
      first : Counted (λ _. 0) 0 quiet
      first = record { none_yet = λ _ _. refl; begun = λ _. omega arith; same = λ _. refl }

  -- all the threads of a, of which i is one
  summed : (a i : ℕ) → Of t a i → (due had : ℕ → ℕ) → ((j : ℕ) → Of t a j → MoreThan t.q (due j) (margin usual t j) (had j))
      → MoreThan t.q (together t a due) (together t a (margin usual t)) (together t a had)
  summed a i o due had k = omega (
    arith,
    over_less (app_of t) a t.threads due had (margin usual t) t.q (λ j l e. k j (record { among = l; its = e })),
    over_some (app_of t) a t.threads i o.among o.its,
  )

  -- one beginning
  from_one : (a m : ℕ) → AllFrom t hs a m → (j : ℕ) → Of t a j → MoreThan t.q ((row_at t.rows j).share * (now_at - m)) (margin usual t j) (granted_from (λ k. k) j m hs)
  from_one a m all j o =
      let p = all j o in
      subst (λ (z : ℕ). MoreThan t.q ((row_at t.rows j).share * (now_at - z)) (margin usual t j) (granted_from (λ k. k) j z hs)) p.1
      (subst (MoreThan t.q (due_to t now_at hs j) (margin usual t j)) (all_had j o.among p.0) (one_thread j o.among p.0).1)

pub own_share_lem : Promised
own_share_lem usual t ok cs = record {
  holds = λ i h. counted (at (left usual t cs).threads i) (stands usual t ok cs i h).held;
  begun = λ i h p. (one_thread usual t ok cs i h p).0;
  counted = all_had usual t ok cs;
  thread = λ i h p. (one_thread usual t ok cs i h p).1;
  application = λ a m i o all.
      rw (← over_shares a t ((left usual t cs).clock.0 - m) t.threads, over_ticks (app_of t) a m (paced usual t ok cs))
      (summed usual t ok cs a i o (λ j. (row_at t.rows j).share * ((left usual t cs).clock.0 - m)) (λ j. granted_from (λ k. k) j m (told usual t cs)) (from_one usual t ok cs a m all));
  from_each_beginning = λ a i o all. summed usual t ok cs a i o (due_to t (left usual t cs).clock.0 (told usual t cs)) (had_since (told usual t cs)) (λ j p. (one_thread usual t ok cs j p.among (all j p)).1);
}
