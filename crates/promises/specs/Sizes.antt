-- How large the numbers of a given state can be: signed 64 bits hold every W, every E and every product of two.
use Rattle.std.specs.Prelude.{◌≡◌, List, ℕ, ◌+◌, ◌*◌, ◌-◌, ◌≤◌, ◌<◌, ◌^◌}
use Rattle.std.proofs.Common.{mul-le-mul, arith}
use Rattle.integers.specs.Parts.{up, dn}
use Rattle.lists.specs.Take.{sum_at}
use Rattle.rules.specs.Threads.{Thread, State, blank, at}
use Rattle.rules.specs.Calls.{Given}
use Rattle.promises.specs.Good.{deficit, Rows}
use Rattle.promises.specs.Deficit.{below}
use Rattle.promises.specs.Keep.{inside, fine_at}
use Rattle.promises.specs.Ready.{Steady, steady}
use Rattle.promises.specs.Always.{given_good}

-- −Q × t ≤ W ≤ Q × t and 0 ≤ E ≤ Q × t + Q + u × P, and so in bits
pub record Sized (q t : ℕ) (x : Thread) : Type 0 where
  pub w_below : dn x.w.0 ≤ q * t
  pub w_above : up x.w.0 ≤ q * t
  pub e_below : dn x.e.0 ≡ 0
  pub e_above : up x.e.0 ≤ q * t + q + x.share * x.period
  pub w_bits : (dn x.w.0 < 2 ^ 43) × (up x.w.0 < 2 ^ 43)
  pub e_bits : up x.e.0 < 2 ^ 44

pub w_dn : {m q t : ℕ} {xs : List Thread} → Rows m q t xs → (i : ℕ) → i < m → dn (at xs i).w.0 ≤ q * t
w_dn {m} {q} {t} {xs} r i h = omega (arith, below t (at xs i), sum_at (deficit t) m xs i blank h (inside r h), r.debts)

steady_sized : {s : State} → Steady s → (i : ℕ) → i < s.count → Sized s.q s.clock.0 (at s.threads i)
steady_sized {s} g i h =
    let f = fine_at g.rows i h in
    let d = w_dn g.rows i h in
    let m = mul-le-mul g.q_max g.time in
    let u : (at s.threads i).share ≤ 4096 = let k = g.q_max in omega (arith, f.share_max) in
    let p = mul-le-mul u f.period_max in
    let q = g.q_max in
    record {
      w_below = d;
      w_above = f.w_up;
      e_below = f.e_whole;
      e_above = f.e_up;
      w_bits = (omega arith, omega (arith, f.w_up));
      e_bits = omega (arith, f.e_up);
    }

-- every thread of every given state, inactive, contending or not
pub given_sized : {s : State} → Given s → (i : ℕ) → i < s.count → Sized s.q s.clock.0 (at s.threads i)
given_sized g = steady_sized (steady (given_good g))

-- a deadline times another's share, as the rules compare them
pub product_bits : {q t v : ℕ} {x : Thread} → Sized q t x → v ≤ 4096 → up x.e.0 * v < 2 ^ 56
product_bits {q} {t} {v} {x} z h =
    let e : up x.e.0 ≤ 2 ^ 44 - 1 = omega (arith, z.e_bits) in
    let p = mul-le-mul e h in
    omega arith
