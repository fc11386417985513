-- Where the applications stand between any two changes of the table: what the activities that are read off the history have to do
-- with the threads. `Stands` says it of one application, `Held` of a table's threads, `Kept` of a state.
use Rattle.std.specs.Prelude.{◌≡◌, cond, List, ℕ, ◌+◌, ◌*◌, ◌≤◌, ◌<◌, length, take}
use Rattle.integers.specs.Parts.{up, dn}
use Rattle.lists.specs.Sum.{sum_by}
use Rattle.lists.specs.All.{All}
use Rattle.rules.specs.Limits.{max_threads, apps}
use Rattle.rules.specs.Threads.{Thread, State, at, active_in}
use Rattle.rules.specs.Table.{Table, row_at}
use Rattle.rules.specs.Stretches.{Activity, activity_at, elapsed, app_of, share_of}
use Rattle.stretches.specs.Item8.{one}

-- ---- W − u × t of a thread that is active and of the application a, as a difference
unfoldable pub ups : ℕ → Thread → ℕ
ups a x = cond (active_in a x) (up x.w.0) 0

unfoldable pub downs : ℕ → ℕ → Thread → ℕ
downs a t x = cond (active_in a x) (dn x.w.0 + x.share * t) 0

-- ---- an application at the moment t: n of its threads are active, and what these are ahead of the clock comes to u − d
pub record Stands (q share t n u d : ℕ) (c : Activity) : Type 0 where
  pub active : c.active ≡ n
  -- no more ticks are granted than elapse
  pub since : c.stretch.since.0 + c.stretch.granted ≤ t
  -- what is lost is no negative amount
  pub whole : dn c.stretch.lost.0 ≡ 0
  -- the equation of Item 8, while the stretch holds
  pub equal : 0 < n → u + share * elapsed t c.stretch ≡ q * c.stretch.granted + up c.stretch.lost.0 + d
  pub small : up c.stretch.lost.0 ≤ 65 * (q * t)

-- .. the application a, in the first m threads of xs
abbrev pub StandsIn : Table → ℕ → ℕ → ℕ → List Thread → ℕ → Activity → Type 0
StandsIn t q m now xs a c = Stands q (share_of a t) now (sum_by (one a) (take m xs)) (sum_by (ups a) (take m xs)) (sum_by (downs a now) (take m xs)) c

-- ---- the first m of xs are the threads of the table t
pub record Tied (t : Table) (q m : ℕ) (xs : List Thread) : Type 0 where
  pub q_same : q ≡ t.q
  pub count_same : m ≡ t.threads
  pub few : m ≤ max_threads
  pub long : length xs ≡ max_threads
  pub app_same : (i : ℕ) → i < m → (at xs i).app ≡ app_of t i
  pub share_same : (i : ℕ) → i < m → (at xs i).share ≡ (row_at t.rows i).share
  pub app_max : (i : ℕ) → i < m → app_of t i < apps
  -- no application has more than Q
  pub share_max : (a : ℕ) → share_of a t ≤ q

-- no thread's virtual time is past Q a tick
abbrev pub Low : ℕ → ℕ → Thread → Type 0
Low q now x = up x.w.0 ≤ q * now

-- ---- the activities cs at the moment now, of the table t, whose threads are the first m of xs; also between two threads of a leaving
pub record Held (t : Table) (q m now : ℕ) (xs : List Thread) (cs : List Activity) : Type 0 where
  pub tied : Tied t q m xs
  pub low : All (Low q now) (take m xs)
  pub sixteen : length cs ≡ apps
  pub stands : (a : ℕ) → a < apps → StandsIn t q m now xs a (activity_at cs a)

-- .. of a state
abbrev pub Kept : Table → State → List Activity → Type 0
Kept t s cs = Held t s.q s.count s.clock.0 s.threads cs
