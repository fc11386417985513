-- One thread against the account of its jobs: W and E stay near the figure of the job at the head.
use Rattle.std.specs.Prelude.{◌≡◌, refl, true, false, List, [], ◌∷◌, ◌++◌, T, ltb, ℤ, pos, ◌+ℤ◌, ◌-ℤ◌, take}
use Rattle.std.proofs.Common.{ap, ap₂, ◌∙◌, arith, length-append, length-take}
use Rattle.std.proofs.Math.Option.{Option, none, some}
use Prim.Native.Nat.{ℕ, ◌+◌, ◌*◌, ◌≤◌, ◌<◌, min}
use borrow.Author.Tests.{ltb-true, ltb-false}
use Rattle.std.specs.Int.Signed.{lt_z}
use Rattle.std.proofs.Math.ListN.{length}
use Rattle.integers.specs.Parts.{up, dn, ◌≼◌, ◌≺◌, add_parts, sub_parts, lt_z-true}
use Rattle.lists.specs.All as all
use Rattle.lists.specs.All.{All, more, all_append}
use Rattle.rules.specs.Threads.{Thread, Phase, Inactive, Contending, NonContending, with, with_jobs, is_contending, contends, idle, loses}
use Rattle.rules.specs.Completion.{goes_on, stays, ends}
use Rattle.rules.specs.Leaving.{leave}
use Rattle.rules.specs.Arrival.{arrive_as, arrive}
use Rattle.rules.specs.Drop.{head_only}
use Rattle.rules.specs.Fitting.{fit}
use Rattle.rules.specs.Charge.{gains}
use Rattle.rules.specs.History.{Job, Account, begins, figure_of, longer, complete_head, with_waiting}
use Rattle.promises.specs.Cases.{by_test, true_T}
use Rattle.promises.specs.Branches.{by_leaving, by_fitting}
use Rattle.promises.specs.Demand3.{OnTime}
use Rattle.promises.specs.Row.{apart}

-- w is at most the figure of the job completed last, and there is one
abbrev pub Within : ℤ → Option ℕ → Type 0
Within w none = ⊥
Within w (some f) = w ≼ pos f

-- W and E of a thread by its phase, given the figure of the job completed last and the jobs that wait
pub data Stage (q u p : ℕ) (f : Option ℕ) (w e : ℤ) : Phase → List Job → Type 0 where
  -- nothing waits
  resting : Stage q u p f w e Inactive []
  -- W ≤ X and E < X + Q + u × P, where X is the figure of the job at the head if it were completed now
  working : (j : Job) {js : List Job} → w ≼ pos (figure_of q u f j) → e ≺ pos (figure_of q u f j + q + u * p) → Stage q u p f w e Contending (j ∷ js)
  -- nothing waits, and W is at most the figure of the job completed last
  ahead : Within w f → Stage q u p f w e NonContending []

-- the account g is that of the thread x, whose share is u and whose period is p
pub record Agrees (q u p : ℕ) (g : Account) (x : Thread) : Type 0 where
  pub share_same : x.share ≡ u
  pub period_same : x.period ≡ p
  pub count : x.jobs ≡ length g.waiting
  pub stage : Stage q u p g.previous x.w.0 x.e.0 x.phase g.waiting

-- a job waits, and E < X + u × P: just after a tick of the thread's own
pub data Close (q u p : ℕ) (f : Option ℕ) (e : ℤ) : List Job → Type 0 where
  close : (j : Job) {js : List Job} → e ≺ pos (figure_of q u f j + u * p) → Close q u p f e (j ∷ js)

-- a job begins no earlier than it arrives, and no earlier than the figure of the job before it
begins_least : (u : ℕ) (f : Option ℕ) (j : Job) → u * j.arrival ≤ begins u f j
begins_least u none j = omega arith
begins_least u (some f) j = omega arith

begins_after : (u : ℕ) (f : Option ℕ) (j : Job) (w : ℤ) → Within w f → w ≼ pos (begins u f j)
begins_after u none j w k = absurd k
begins_after u (some f) j w k = omega arith

-- a job's length does not count where it begins
begins_same : (u : ℕ) (f : Option ℕ) (t l m : ℕ) → begins u f (record { arrival = t; length = l }) ≡ begins u f (record { arrival = t; length = m })
begins_same u none t l m = refl
begins_same u (some f) t l m = refl

within_less : (f : Option ℕ) (w z : ℤ) → dn z ≡ 0 → Within w f → Within (w -ℤ z) f
within_less none w z h k = k
within_less (some f) w z h k = omega (arith, sub_parts w z)

-- ---- each change of a thread keeps it in agreement with the account that the change makes
module _ {q u p : ℕ} {g : Account} (x : Thread) (a : Agrees q u p g x) where
  span : x.share * x.period ≡ u * p
  span = ap₂ ◌*◌ a.share_same a.period_same

  -- share and period stay
  changed : {g' : Account} {n : ℕ} {ph : Phase} {w e : ℤ} → n ≡ length g'.waiting → Stage q u p g'.previous w e ph g'.waiting
      → Agrees q u p g' (with_jobs (with x ph w e) n)
  changed c s = record { share_same = a.share_same; period_same = a.period_same; count = c; stage = s }

  pub lose_agrees : (z : ℤ) → dn z ≡ 0 → Agrees q u p g (loses z x)
  lose_agrees z h = changed a.count (go a.stage)
    where
      go : {f : Option ℕ} {w e : ℤ} {ph : Phase} {js : List Job} → Stage q u p f w e ph js → Stage q u p f (w -ℤ z) e ph js
      go resting = resting
      go {w = w} (working j k l) = working j (omega (arith, sub_parts w z)) l
      go {f = f} {w = w} (ahead k) = ahead (within_less f w z h k)

  pub fit_agrees : (room : ℕ) → room ≤ q → Agrees q u p g (fit room x)
  fit_agrees room h = by_fitting (Agrees q u p g) room x a (λ _ s. changed a.count (go a.stage s))
    where
      go : {f : Option ℕ} {w e : ℤ} {ph : Phase} {js : List Job} → Stage q u p f w e ph js → lt_z (e -ℤ w) (pos room) ≡ true
          → Stage q u p f w (e +ℤ pos (x.share * x.period)) ph js
      go resting s = resting
      go {w = w} {e = e} (working j k l) s = working j k (omega (arith, span, add_parts e (pos (x.share * x.period)), sub_parts e w, lt_z-true (e -ℤ w) (pos room) s))
      go (ahead k) s = ahead k

  pub idle_agrees : (T (contends x) → ⊥) → Agrees q u p g (idle x)
  idle_agrees n = changed a.count (go a.stage n)
    where
      go : {f : Option ℕ} {w e : ℤ} {ph : Phase} {js : List Job} → Stage q u p f w e ph js → (T (is_contending ph) → ⊥) → Stage q u p f (pos 0) (pos 0) Inactive js
      go resting n = resting
      go (working j k l) n = absurd (n tt)
      go (ahead k) n = resting

  pub leave_agrees : (t : ℕ) → Agrees q u p g (leave t x)
  leave_agrees t = by_leaving (Agrees q u p g) t x a (λ n _. idle_agrees (apart x.phase (true_T n)))

  pub drop_agrees : Agrees q u p (with_waiting g (take 1 g.waiting)) (head_only x)
  unfolding head_only
  drop_agrees = changed (by_test Left (ltb 1 x.jobs) (λ t. omega (arith, left, ltb-true 1 x.jobs t)) (λ t. omega (arith, left, ltb-false 1 x.jobs t))) (go a.stage)
    where
      Left : ℕ → Type 0
      Left n = n ≡ length (take 1 g.waiting)

      left : Left (min 1 x.jobs)
      left = omega (arith, a.count, length-take 1 g.waiting)

      go : {f : Option ℕ} {w e : ℤ} {ph : Phase} {js : List Job} → Stage q u p f w e ph js → Stage q u p f w e ph (take 1 js)
      go resting = resting
      go (working j k l) = working j k l
      go (ahead k) = ahead k

  -- a tick of its own: X grows by Q, and W by at most Q
  pub gain_agrees : (r : ℕ) → r ≤ q → T (contends x) → Agrees q u p (with_waiting g (longer g.waiting)) (gains r x) × Close q u p g.previous x.e.0 (longer g.waiting)
  gain_agrees r h c = let s = go a.stage c in (changed (a.count ∙ longer_length g.waiting) s.0, s.1)
    where
      longer_length : (js : List Job) → length js ≡ length (longer js)
      longer_length [] = refl
      longer_length (j ∷ js) = refl

      go : {f : Option ℕ} {w e : ℤ} {ph : Phase} {js : List Job} → Stage q u p f w e ph js → T (is_contending ph)
          → Stage q u p f (w +ℤ pos r) e ph (longer js) × Close q u p f e (longer js)
      go resting c = absurd c
      go {f = f} {w = w} (working j k l) c =
          let i : Job = record { arrival = j.arrival; length = j.length + 1 } in
          let b = begins_same u f j.arrival j.length i.length in
          (working i (omega (arith, add_parts w (pos r))) (omega arith), close i (omega arith))
      go (ahead k) c = absurd c

  pub arrive_agrees : 0 < q → (t : ℕ) → Agrees q u p (with_waiting g (g.waiting ++ (record { arrival = t; length = 0 } ∷ []))) (arrive t x)
  unfolding arrive
  arrive_agrees q-min t = go a.stage a.count
    where
      new : Job
      new = record { arrival = t; length = 0 }

      here : x.share * t ≡ u * t
      here = ap (λ (v : ℕ). v * t) a.share_same

      go : {ph : Phase} {js : List Job} → Stage q u p g.previous x.w.0 x.e.0 ph js → x.jobs ≡ length js
          → Agrees q u p (with_waiting g (js ++ (new ∷ []))) (with_jobs (arrive_as ph t x) (x.jobs + 1))
      go resting c =
          let b = begins_least u g.previous new in
          changed (omega arith) (working new (omega (arith, here)) (omega (arith, here, span, add_parts (pos (x.share * t)) (pos (x.share * x.period)))))
      go (working j {js = js} k l) c = changed (omega (arith, length-append js (new ∷ []))) (working j k l)
      go (ahead k) c =
          let b = begins_after u g.previous new x.w.0 k in
          changed (omega arith) (working new (omega arith) (omega (arith, span, add_parts x.w.0 (pos (x.share * x.period)))))

-- a drop leaves the job at the head
pub drop_close : {q u p : ℕ} {f : Option ℕ} {js : List Job} {e : ℤ} → Close q u p f e js → Close q u p f e (take 1 js)
drop_close (close j c) = close j c

-- ---- a completion at the moment t of a thread that may complete
-- the three ways that it goes on from there, and the promise; g is the account after it
pub record Completes (q u p : ℕ) (g : Account) (x : Thread) : Type 0 where
  pub to_next : ltb 1 x.jobs ≡ true → Agrees q u p g (goes_on x)
  pub to_wait : ltb 1 x.jobs ≡ false → Agrees q u p g (stays x)
  pub to_rest : ltb 1 x.jobs ≡ false → Agrees q u p g (ends x)
  pub on_time : All (OnTime u p) g.finished

-- u × t ≤ E < X + u × P
pub completes : {q u p : ℕ} {g : Account} (t : ℕ) (x : Thread) → Agrees q u p g x → Close q u p g.previous x.e.0 g.waiting → 0 < q
    → u * t ≤ up x.e.0 → dn x.e.0 ≡ 0 → All (OnTime u p) g.finished → Completes q u p (complete_head q u t g g.waiting) x
completes {q} {u} {p} {g} t x a c q-min due whole before = go a.stage a.count c
  where
    go : {ph : Phase} {js : List Job} → Stage q u p g.previous x.w.0 x.e.0 ph js → x.jobs ≡ length js
        → Close q u p g.previous x.e.0 js → Completes q u p (complete_head q u t g js) (with x ph x.w.0 x.e.0)
    go resting n e = elim e [ ]
    go (ahead _) n e = elim e [ ]
    go (working j {js = []} k l) n (close _ c) = record {
      to_next = λ b. absurd (omega (arith, ltb-true 1 x.jobs b));
      to_wait = λ b. changed x a refl (ahead k);
      to_rest = λ b. changed x a refl resting;
      on_time = all_append before (more (omega arith) all.none);
    }
    go (working j {js = i ∷ js} k l) n (close _ c) = record {
      to_next = λ b. changed x a (omega arith) (working i (omega arith) (by_test Below (lt_z x.e.0 (x.w.0 +ℤ pos (x.share * x.period))) (λ _. omega (arith, span x a, add_parts x.w.0 (pos (x.share * x.period)))) (λ _. omega arith)));
      to_wait = λ b. absurd (omega (arith, ltb-false 1 x.jobs b));
      to_rest = λ b. absurd (omega (arith, ltb-false 1 x.jobs b));
      on_time = all_append before (more (omega arith) all.none);
    }
      where
        Below : ℤ → Type 0
        Below e = e ≺ pos (figure_of q u (some (figure_of q u g.previous j)) i + q + u * p)
