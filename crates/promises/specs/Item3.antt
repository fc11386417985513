-- Document 02, Item 3, "Fewer wide products", as a promise of any two threads of a given state and of one at the choice.
use Rattle.std.specs.Prelude.{◌≡◌, Bool, cond, ◌&&◌, ℕ, ◌+◌, ◌*◌, ◌/◌, ◌%◌, ◌<◌, ltb, pos, ◌-ℤ◌}
use Rattle.std.specs.Int.Signed.{lt_z}
use Rattle.integers.specs.Parts.{up}
use Rattle.integers.specs.Fractions.{joined, before}
use Rattle.rules.specs.Limits.{max_q}
use Rattle.rules.specs.Threads.{Thread, State, Ordering, Less, Equal, Greater, at, contends, compare}
use Rattle.rules.specs.Fitting.{fit}
use Rattle.rules.specs.Step.{ready}
use Rattle.rules.specs.Calls.{Given}
pub use Rattle.quantities.specs.declared.Deadline.{Deadline}
pub use Rattle.quantities.specs.declared.Earliest.{Earliest}

-- ---- a deadline in two parts
-- whole ticks, and a remainder in parts of the share
abbrev pub deadline_of : Thread → Deadline
deadline_of x = record { whole = up x.e.0 / x.share; remainder = up x.e.0 % x.share; share = x.share }

-- E again
abbrev pub full_of : Deadline → ℕ
full_of d = joined d.whole d.remainder d.share

-- document 01: "Deadlines of two threads are compared as fractions, E1 × u2 against E2 × u1."
abbrev pub compare_parts : Deadline → Deadline → Ordering
compare_parts d o =
    cond (ltb (full_of d * o.share) (full_of o * d.share)) Less
    (cond (ltb (full_of o * d.share) (full_of d * o.share)) Greater Equal)

-- "Compare the whole parts first and multiply only the remainders when those are equal."
abbrev pub sooner_by_parts : Deadline → Deadline → Bool
sooner_by_parts d o = before d.whole d.remainder d.share o.whole o.remainder o.share

abbrev pub by_parts : Deadline → Deadline → Ordering
by_parts d o = cond (sooner_by_parts d o) Less (cond (sooner_by_parts o d) Greater Equal)

-- document 01, step 4: "Each contending thread with E − W < Q − r"
abbrev pub is_unfit : ℕ → Thread → Bool
is_unfit room x = contends x && lt_z (x.e.0 -ℤ x.w.0) (pos room)

-- p ticks later
abbrev pub later : ℕ → Deadline → Deadline
later p d = record { whole = d.whole + p; remainder = d.remainder; share = d.share }

-- ---- what is promised
-- "Deadlines are not negative here."
abbrev pub NotNegative : Thread → Type 0
NotNegative x = x.e.0 ≡ pos (full_of (deadline_of x))

-- "No answer changes."
abbrev pub Told : Thread → Thread → Type 0
Told x y = compare x y ≡ by_parts (deadline_of x) (deadline_of y)

-- the products that are left are below 4,096²
abbrev pub Narrow : Thread → Thread → Type 0
Narrow x y = (deadline_of x).remainder * (deadline_of y).share < max_q * max_q

-- fitting adds exactly P to the whole part, where it adds anything, and leaves the remainder
abbrev pub FitsByPeriod : Thread → Type 0
FitsByPeriod x = (room : ℕ) → deadline_of (fit room x) ≡ cond (is_unfit room x) (later x.period (deadline_of x)) (deadline_of x)

pub record Item3 (x y : Thread) : Type 0 where
  pub not_negative : NotNegative x
  pub told : Told x y
  pub narrow : Narrow x y
  pub fits : FitsByPeriod x

-- of any two threads of a state
abbrev pub OfThreads : State → Type 0
OfThreads s = (i j : ℕ) → i < s.count → j < s.count → Item3 (at s.threads i) (at s.threads j)

-- between any two calls, as receivers are found, and at the choice
abbrev pub Promised : Type 0
Promised = (s : State) → Given s → OfThreads s × OfThreads (ready s)
