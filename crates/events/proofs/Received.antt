-- Who receives is one of the table's threads.
use Rattle.std.proofs.Common.{◌≡◌, ℕ, ◌<◌, Bool, true, false, cond, eqb, List, None, Some, refl, sym}
use Rattle.std.proofs.lemmas.Option.{none-some}
use borrow.Author.Tests.{eqb-false}
use Rattle.rules.specs.Limits.{nobody}
use Rattle.rules.specs.Threads.{Thread, earliest, someone}
use Rattle.promises.specs.Deadlines.{earliest_in}

pub received : (p : Thread → Bool) (n : ℕ) (xs : List Thread) (b : ℕ) → Some b ≡ someone (earliest p n xs) → b < n
received p n xs b = go (eqb r nobody) refl
  where
    r : ℕ
    r = earliest p n xs

    go : (t : Bool) → eqb r nobody ≡ t → Some b ≡ cond t None (Some r) → b < n
    go true q e = absurd (none-some _ (sym e))
    go false q e = let h : b ≡ r = cc in rw h (earliest_in p n xs (eqb-false r nobody q)).0
