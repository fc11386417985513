-- Item 8 holds, from what every call keeps.
use Rattle.std.specs.Prelude.{◌≡◌, List, ◌++◌, ℕ, ◌<◌}
use Rattle.std.proofs.Common.{sym, ◌∙◌, subst, arith}
use Rattle.std.proofs.lemmas.List.{length-replicate}
use Rattle.integers.specs.Parts.{pos_none}
use Rattle.rules.specs.Limits.{apps}
use Rattle.rules.specs.Table.{Table, Done, table_answer, start}
use Rattle.rules.specs.Leaving.{gone}
use Rattle.rules.specs.Calls.{Call}
use Rattle.rules.specs.History.{leavings}
use Rattle.rules.specs.Stretches.{Activity, quiet, all_quiet, activities, granted_in, lost_in, app_of}
use Rattle.promises.specs.Always.{after_good}
use Rattle.stretches.specs.Item8.{now, past, standing, overs, Item8, Promised}
use Rattle.stretches.specs.Whole as again
use Rattle.stretches.specs.Derivation.{follows}
use Rattle.stretches.specs.Standing.{Kept}
use Rattle.stretches.specs.Goes.{activities_append}
use Rattle.stretches.specs.Leavings.{GoesTo}
use Rattle.stretches.specs.Calls.{kept_gone, goes_after}
use Rattle.stretches.specs.Start.{quiet_at, begins_good, kept_start}
use Rattle.stretches.specs.Balance.{balanced}
use Rattle.stretches.specs.Counts.{Counts}
use Rattle.stretches.specs.Counted.{counted}

module _ (usual : ℕ) (t : Table) (e : table_answer usual t ≡ Done) (cs : List Call) where
  goes : GoesTo t (now usual t cs) all_quiet (past usual t cs)
  goes = goes_after cs (start usual t) (begins_good usual t e) (kept_start usual t e)

  -- .. and after leaving
  pub kept_left : Kept t (gone (now usual t cs)) (activities (app_of t) all_quiet (past usual t cs ++ leavings (now usual t cs)))
  kept_left = subst (Kept t (gone (now usual t cs))) (sym (activities_append (app_of t) all_quiet (past usual t cs) (leavings (now usual t cs)))) (kept_gone (now usual t cs) (after_good cs (begins_good usual t e)) goes.held)

  -- the application a from an activity c to where it stands
  abbrev From : ℕ → Activity → Type 0
  From a c = Counts a c (standing usual t cs a (past usual t cs)) (overs usual t cs) (granted_in (app_of t) a (past usual t cs)) (lost_in (app_of t) a (past usual t cs))

  -- .. from the start, where nothing is granted or lost yet
  counts : (a : ℕ) → a < apps → From a quiet
  counts a l = subst (From a) (quiet_at apps a) (counted (app_of t) a all_quiet (past usual t cs) goes.suited (omega (arith, length-replicate apps quiet)))

  holds : Item8 usual t cs
  holds = record {
    holds = λ a l. (goes.held.stands a l).active;
    between = λ a l. balanced (now usual t cs) goes.held a l;
    after_leaving = λ a l. balanced (gone (now usual t cs)) kept_left a l;
    ended = goes.even;
    all_granted = λ a l. omega (arith, (counts a l).ticks);
    all_lost = λ a l. sym (counts a l).losses ∙ pos_none (lost_in (app_of t) a (past usual t cs));
  }

pub item_8 : Promised
item_8 usual t e cs = holds usual t e cs

-- .. and so what is claimed a second time
pub item_8_whole : again.Promised
item_8_whole = follows item_8
