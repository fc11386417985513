-- What the code reads off a state: every number in it is small enough for its sums and products.
use Rattle.std.specs.Prelude.{◌≡◌, refl, ℕ, ◌+◌, ◌*◌, ◌≤◌, ◌<◌, pos, length, take, set}
use Rattle.std.proofs.Common.{◌∙◌, mul-le-mul, arith, length-set, get_or-set_same, get_or-set_other}
use Rattle.std.proofs.Math.Decide.{ℕ_discrete}
use Rattle.integers.specs.Parts.{Small, dn, sub_parts}
use Rattle.lists.specs.Sum.{sum_by, sum_le, sum_take_le, sum_store}
use Rattle.lists.specs.Take.{sum_at}
use Rattle.lists.specs.All.{all_at}
use Rattle.rules.specs.Limits.{max_q, max_threads, max_period, max_jobs, clock_end}
use Rattle.rules.specs.Threads.{Thread, State, blank, at, scaled, with_rows, free_share}
use Rattle.rules.specs.Completion.{freed, ends}
use Rattle.rules.specs.Charge.{benefits}
use Rattle.rules.specs.Calls.{Given}
use Rattle.promises.specs.Good.{share, deficit}
use Rattle.promises.specs.Shares.{free_all}
use Rattle.promises.specs.Deficit.{below, deficit_loses}
use Rattle.promises.specs.Keep.{inside, fine_at, benefits_length, benefits_le, benefits_fine}
use Rattle.promises.specs.Tick.{free_share_le, clock_debts}
use Rattle.promises.specs.Ready.{Steady, steady}
use Rattle.promises.specs.Always.{given_good}
use Rattle.promises.specs.Sizes.{w_dn}

-- one thread
pub record RowOk (x : Thread) : Type 0 where
  pub app_max : x.app < 16
  pub share_min : 0 < x.share
  pub share_max : x.share ≤ max_q
  pub period_max : x.period ≤ max_period
  pub jobs_max : x.jobs ≤ max_jobs
  pub w_small : Small x.w.0
  pub e_small : Small x.e.0
  -- "Deadlines are not negative here."
  pub e_whole : dn x.e.0 ≡ 0

-- a state
pub record Sound (s : State) : Type 0 where
  pub time : s.clock.0 ≤ clock_end
  pub q_max : s.q ≤ max_q
  pub long : length s.threads ≡ max_threads
  pub few : s.count ≤ max_threads
  pub shares : sum_by share (take s.count s.threads) ≤ s.q
  pub ok : (i : ℕ) → i < s.count → RowOk (at s.threads i)

pub sound : {s : State} → Steady s → Sound s
sound {s} g = record {
  time = g.time;
  q_max = g.q_max;
  long = g.rows.long;
  few = g.rows.few;
  shares = g.rows.shares;
  ok = λ i h.
      let f = fine_at g.rows i h in
      let d = w_dn g.rows i h in
      let m = mul-le-mul g.q_max g.time in
      let q = g.q_max in
      let share_max : (at s.threads i).share ≤ 4096 = omega (arith, f.share_max) in
      let p = mul-le-mul share_max f.period_max in
      let w = f.e_whole in
      record {
        app_max = f.app_max;
        share_min = f.share_min;
        share_max = share_max;
        period_max = f.period_max;
        jobs_max = f.jobs_max;
        w_small = record { up_small = omega (arith, f.w_up); dn_small = omega arith };
        e_small = record { up_small = omega (arith, f.e_up); dn_small = omega arith };
        e_whole = w;
      };
}

pub given_sound : {s : State} → Given s → Sound s
given_sound g = sound (steady (given_good g))

-- a free share is at most Q, and so is what is summed of it so far
pub free_le : (a i : ℕ) {s : State} → Sound s → i ≤ s.count → sum_by (free_share a) (take i s.threads) ≤ s.q
free_le a i {s} g h =
    let x = sum_take_le (free_share a) i s.count h s.threads in
    let y = sum_le (free_share a) share (free_share_le a) (take s.count s.threads) in
    let z = g.shares in
    omega arith

-- W while the free shares are handed out
pub w_handed : (own n : ℕ) {s : State} → Steady s → (i : ℕ) → i < s.count → Small (at (benefits own s n s.threads) i).w.0
w_handed own n {s} g i h =
    let t = s.clock.0 in
    let xs = s.threads in
    let ys = benefits own s n xs in
    let l : i < length ys = omega (arith, benefits_length own s n xs, inside g.rows h) in
    let f = all_at s.count ys i blank (benefits_fine own s s.q t n (omega (arith, g.rows.few, g.rows.long)) g.rows.fine) h l in
    let t-max : t + 1 ≤ 2147483648 = omega (arith, g.time) in
    let k = mul-le-mul g.q_max t-max in
    let b = benefits_le own s (deficit (t + 1)) 1 (λ r y. omega (arith, deficit_loses (t + 1) y r)) s.count n xs in
    record {
      up_small = omega (arith, f.w_up);
      dn_small = omega (arith, below (t + 1) (at ys i), sum_at (deficit (t + 1)) s.count ys i blank h l, clock_debts g.rows, b, free_all own n s.count xs);
    }

-- what a completion frees
pub freed_small : {s : State} → Steady s → (i : ℕ) → i < s.count → Small (freed s.clock.0 (at s.threads i))
freed_small {s} g i h =
    let x = at s.threads i in
    let d = sub_parts (scaled x s.clock.0) x.w.0 in
    let share_max : x.share ≤ 4096 = ((sound g).ok i h).share_max in
    let k = mul-le-mul share_max g.time in
    let m = mul-le-mul g.q_max g.time in
    record { up_small = omega (arith, w_dn g.rows i h); dn_small = omega (arith, (fine_at g.rows i h).w_up) }

-- a share times a number of ticks
pub product_small : (u m n : ℕ) → u ≤ 4096 → m ≤ n → n ≤ 2147483648 → Small (pos (u * m))
product_small u m n l h k =
    let p = mul-le-mul l h in
    let q = mul-le-mul l k in
    record { up_small = omega arith; dn_small = omega arith }

-- u × P
pub period_small : {x : Thread} → RowOk x → Small (scaled x x.period)
period_small {x} k = product_small x.share x.period max_period k.share_max k.period_max (omega arith)

-- a thread that has ended leaves the others as they were
pub ended_sound : {s : State} → Sound s → (i : ℕ) → i < s.count → Sound (with_rows s (set s.threads i (ends (at s.threads i))))
ended_sound {s} g i h = record {
  time = g.time;
  q_max = g.q_max;
  long = length-set s.threads i _ ∙ g.long;
  few = g.few;
  shares = rw (sum_store share s.count s.threads i (ends (at s.threads i)) blank refl) g.shares;
  ok = λ j l. by j l (ℕ_discrete j i);
}
  where
    ended : RowOk (ends (at s.threads i))
    ended = let o = g.ok i h in record { app_max = o.app_max; share_min = o.share_min; share_max = o.share_max; period_max = o.period_max; jobs_max = omega arith; w_small = record { up_small = omega arith; dn_small = omega arith }; e_small = record { up_small = omega arith; dn_small = omega arith }; e_whole = refl }

    by : (j : ℕ) → j < s.count → Dec (j ≡ i) → RowOk (at (set s.threads i (ends (at s.threads i))) j)
    by j l (yes e) = rw (e, get_or-set_same s.threads i (ends (at s.threads i)) blank (omega (arith, g.few, g.long))) ended
    by j l (no n) = rw (get_or-set_other s.threads i j (ends (at s.threads i)) blank n) (g.ok j l)
