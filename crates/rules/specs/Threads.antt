-- Document 01, "Quantities": threads, amounts, the free share, and the order of deadlines.
use Rattle.std.specs.Prelude.{Bool, true, false, not, cond, ◌&&◌, List, Option, None, Some, ℕ, zero, suc, ◌*◌, eqb, ℤ, pos, ◌-ℤ◌, ◌*ℤ◌, get_or, set, take}
use Rattle.std.specs.Int.Signed.{lt_z}
use Rattle.lists.specs.Sum.{sum_by}
use Rattle.rules.specs.Limits.{nobody}
pub use Rattle.quantities.specs.declared.Amount.{Amount}
pub use Rattle.std.specs.declared.cmp.Ordering.{Ordering}
pub use Rattle.std.specs.declared.cmp.Ordering.TheVariants.{Less, Equal, Greater}
pub use Rattle.quantities.specs.declared.Phase.{Phase}
pub use Rattle.quantities.specs.declared.Phase.TheVariants.{Inactive, Contending, NonContending}
pub use Rattle.quantities.specs.declared.Thread.{Thread}
pub use Rattle.quantities.specs.declared.State.{State}

abbrev pub amt : ℤ → Amount
amt z = record { 0 = z }

-- "Moments are counted in ticks, amounts in share-ticks; one becomes the other only by multiplying with a share." u × t
abbrev pub scaled : Thread → ℕ → ℤ
scaled x t = pos (x.share * t)

-- another phase, W and E; the rest stays
abbrev pub with : Thread → Phase → ℤ → ℤ → Thread
with x p w e = record { app = x.app; phase = p; share = x.share; period = x.period; jobs = x.jobs; w = amt w; e = amt e }

-- another number of jobs
abbrev pub with_jobs : Thread → ℕ → Thread
with_jobs x n = record { app = x.app; phase = x.phase; share = x.share; period = x.period; jobs = n; w = x.w; e = x.e }

-- a row that no thread has
abbrev pub blank : Thread
blank = record { app = 0; phase = Inactive; share = 0; period = 0; jobs = 0; w = amt (pos 0); e = amt (pos 0) }

-- the thread with number i
abbrev pub at : List Thread → ℕ → Thread
at xs i = get_or xs i blank

-- the same state with other threads
abbrev pub with_rows : State → List Thread → State
with_rows s xs = record { threads = xs; count = s.count; had = s.had; q = s.q; clock = s.clock; completed = s.completed; closed = s.closed }

-- "Each thread is inactive, contending or non-contending; the last two are called active."
abbrev pub is_inactive : Phase → Bool
is_inactive Inactive = true
is_inactive Contending = false
is_inactive NonContending = false

abbrev pub is_contending : Phase → Bool
is_contending Inactive = false
is_contending Contending = true
is_contending NonContending = false

abbrev pub is_non : Phase → Bool
is_non Inactive = false
is_non Contending = false
is_non NonContending = true

abbrev pub contends : Thread → Bool
contends x = is_contending x.phase

abbrev pub active : Thread → Bool
active x = not (is_inactive x.phase)

-- active, and of the application a
abbrev pub active_in : ℕ → Thread → Bool
active_in a x = active x && eqb x.app a

-- "An inactive thread has W = 0 and E = 0; these say nothing about time."
abbrev pub idle : Thread → Thread
idle x = with x Inactive (pos 0) (pos 0)

-- what a thread adds to the free share of the application a
unfoldable pub free_share : ℕ → Thread → ℕ
free_share a x = cond (is_inactive x.phase && eqb x.app a) x.share 0

-- "The free share r of an application is the sum of the shares of its inactive threads."
abbrev pub free : ℕ → ℕ → List Thread → ℕ
free a n xs = sum_by (free_share a) (take n xs)

abbrev pub free_of : ℕ → State → ℕ
free_of a s = free a s.count s.threads

-- "Deadlines of two threads are compared as fractions, E1 × u2 against E2 × u1."
abbrev pub compare : Thread → Thread → Ordering
compare x y =
    cond (lt_z (x.e.0 *ℤ pos y.share) (y.e.0 *ℤ pos x.share)) Less
    (cond (lt_z (y.e.0 *ℤ pos x.share) (x.e.0 *ℤ pos y.share)) Greater Equal)

abbrev pub is_earlier : Ordering → Bool
is_earlier Less = true
is_earlier Equal = false
is_earlier Greater = false

-- x has the earlier deadline
abbrev pub sooner : Thread → Thread → Bool
sooner x y = is_earlier (compare x y)

-- b is the earliest so far: thread i takes its place if it passes the test p and its deadline is earlier
abbrev pub closer : (Thread → Bool) → List Thread → ℕ → ℕ → ℕ
closer p xs b i = cond (p (at xs i)) (cond (eqb b nobody) i (cond (sooner (at xs i) (at xs b)) i b)) b

-- "the earliest deadline; lowest number on a tie": of the first n threads those that pass the test p; `nobody` if none does
unfoldable pub earliest : (Thread → Bool) → ℕ → List Thread → ℕ
earliest p zero xs = nobody
earliest p (suc i) xs = closer p xs (earliest p i xs) i

-- z less of W
abbrev pub loses : ℤ → Thread → Thread
loses z x = with x x.phase (x.w.0 -ℤ z) x.e.0

-- the thread with the number b, unless that is nobody's
abbrev pub someone : ℕ → Option ℕ
someone b = cond (eqb b nobody) None (Some b)

-- z is taken from the W of thread i, or from nobody's
unfoldable pub lose_at : ℤ → List Thread → ℕ → List Thread
lose_at z xs i = cond (eqb i nobody) xs (set xs i (loses z (at xs i)))
