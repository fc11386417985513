-- What holds between any two calls: the invariants, each named.
use Rattle.std.specs.Prelude.{◌≡◌, Bool, true, false, cond, List, ℕ, ◌+◌, ◌*◌, ◌-◌, ◌≤◌, ◌<◌, max, T, leb, ℤ, pos, length, take}
use Rattle.integers.specs.Parts.{up, dn, ◌≼◌}
use Rattle.lists.specs.Sum.{sum_by}
use Rattle.lists.specs.All.{All}
use Rattle.rules.specs.Limits.{max_q, max_threads, max_period, max_jobs, clock_end}
use Rattle.rules.specs.Threads.{Thread, State, Phase, Inactive, Contending, NonContending, at, contends, is_inactive, is_non}
use Rattle.promises.specs.Deadlines.{NotAfter}

abbrev pub share : Thread → ℕ
share x = x.share

-- "An inactive thread has W = 0 and E = 0"; a thread has jobs just where it contends
abbrev pub Shape : Phase → ℕ → ℤ → ℤ → Type 0
Shape Inactive jobs w e = (jobs ≡ 0) × (w ≡ pos 0) × (e ≡ pos 0)
Shape Contending jobs w e = 1 ≤ jobs
Shape NonContending jobs w e = jobs ≡ 0

-- one thread at the moment t
pub record Fine (q t : ℕ) (x : Thread) : Type 0 where
  -- what its row was admitted with
  pub app_max : x.app < 16
  pub share_min : 0 < x.share
  pub share_max : x.share ≤ q
  pub period_max : x.period ≤ max_period
  pub long : q ≤ x.share * x.period
  pub jobs_max : x.jobs ≤ max_jobs
  pub shape : Shape x.phase x.jobs x.w.0 x.e.0
  -- virtual time does not pass the deadline, and a contending thread's deadline is not past
  pub ordered : x.w.0 ≼ x.e.0
  pub due : T (contends x) → x.share * t ≤ up x.e.0
  -- sizes
  pub e_whole : dn x.e.0 ≡ 0
  pub w_up : up x.w.0 ≤ q * t
  pub e_up : up x.e.0 ≤ q * t + q + x.share * x.period

-- how far an active thread is behind the clock; of an inactive one, how far W is below 0, which it is not
unfoldable pub deficit : ℕ → Thread → ℕ
deficit t x = cond (is_inactive x.phase) (dn x.w.0) ((x.share * t + dn x.w.0) - up x.w.0)

-- ---- what a thread with share u, W = w and E = e claims of the time up to the deadline n / k, times k
-- its deadline e / u is not after n / k
abbrev pub early : ℕ → ℕ → ℕ → ℤ → Bool
early k n u e = leb (up e * k) (n * u + dn e * k)

-- u × n / k − W
abbrev pub rest : ℕ → ℕ → ℕ → ℤ → ℕ
rest k n u w = (n * u + k * dn w) - k * up w

-- the same, counting nothing before the moment t, and never below 0
abbrev pub later : ℕ → ℕ → ℕ → ℕ → ℤ → ℕ
later t k n u w = n * u - max (k * (u * t)) (k * up w)

abbrev pub claim_as : Phase → ℕ → ℕ → ℕ → ℕ → ℤ → ℤ → ℕ
claim_as Inactive t k n u w e = n * u - k * (u * t)
claim_as Contending t k n u w e = cond (early k n u e) (rest k n u w) (later t k n u w)
claim_as NonContending t k n u w e = later t k n u w

unfoldable pub claim : ℕ → ℕ → ℕ → Thread → ℕ
claim t k n x = claim_as x.phase t k n x.share x.w.0 x.e.0

-- before every deadline n / k from the moment t on, the first m threads together claim no more than their shares
abbrev pub Claims : ℕ → ℕ → List Thread → Type 0
Claims m t xs = (k n : ℕ) → 1 ≤ k → k * t ≤ n → sum_by (claim t k n) (take m xs) + k * t * sum_by share (take m xs) ≤ n * sum_by share (take m xs)

-- ---- the threads of a table, the first m of xs, at the moment t
pub record Rows (m q t : ℕ) (xs : List Thread) : Type 0 where
  pub long : length xs ≡ max_threads
  pub few : m ≤ max_threads
  -- "all shares together at most Q"
  pub shares : sum_by share (take m xs) ≤ q
  pub fine : All (Fine q t) (take m xs)
  -- together they are no further behind than Q a tick
  pub debts : sum_by (deficit t) (take m xs) ≤ q * t
  pub claims : Claims m t xs

-- a non-contending thread is ahead of the clock
abbrev pub Ahead : ℕ → Thread → Type 0
Ahead t x = T (is_non x.phase) → x.share * t + dn x.w.0 < up x.w.0

-- c contends, and no contending thread's deadline is before its own
pub record Leads (m : ℕ) (xs : List Thread) (c : ℕ) : Type 0 where
  pub inside : c < m
  pub runs : T (contends (at xs c))
  pub first : (j : ℕ) → j < m → T (contends (at xs j)) → NotAfter (at xs c) (at xs j)

-- ---- a given state
pub record Good (s : State) : Type 0 where
  pub time : s.clock.0 ≤ clock_end
  pub q_max : s.q ≤ max_q
  pub rows : Rows s.count s.q s.clock.0 s.threads
  -- head start: while a completion may still be accepted, who had the tick leads
  pub head_start : s.closed ≡ false → s.completed ≡ false → s.had < s.count → Leads s.count s.threads s.had
  -- at a closed moment those that leave have left
  pub left : s.closed ≡ true → All (Ahead s.clock.0) (take s.count s.threads)
