-- All the rules to compute with: `unfolding Computed` opens them.
use Rattle.lists.specs.Sum.{sum_by}
use Rattle.lists.specs.MapTo.{map_to}
use Rattle.rules.specs.Threads.{free_share, earliest, lose_at}
use Rattle.rules.specs.Table.{head_answer, row_answer, shares_to, rows_answer, table_answer, opened_to, start}
use Rattle.rules.specs.Completion.{gives, completing, after_completion, completion}
use Rattle.rules.specs.Leaving.{leave, gone}
use Rattle.rules.specs.Arrival as arrivals
use Rattle.rules.specs.Arrival.{arrival}
use Rattle.rules.specs.Fitting.{fit, fitted}
use Rattle.rules.specs.Choice.{idled}
use Rattle.rules.specs.Charge.{benefits, charged, moved}
use Rattle.rules.specs.Step.{stepped}
use Rattle.rules.specs.Run.{state_after, row_after, ran}
use Rattle.rules.specs.Calls.{after}
use Rattle.rules.specs.History.{leaving_to, leavings, retiring, waking, tick_of, ticks_of, history, account}
use Rattle.rules.specs.Stretches.{wakes, runs, rests, forgets, noted, activities, share_to, total, granted_in}
use Rattle.lag.specs.Own.{granted_from, over_to}

unfoldable pub Computed : Type 0
unfolding sum_by map_to free_share earliest lose_at head_answer row_answer shares_to rows_answer table_answer opened_to start gives completing after_completion completion leave gone arrivals.arrive arrival fit fitted idled benefits charged moved stepped state_after row_after ran after leaving_to leavings retiring waking tick_of ticks_of history account wakes runs rests forgets noted activities share_to total granted_in granted_from over_to
Computed = Unit {0}
