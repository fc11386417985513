-- That the premises of `any_windows` can be met: the worked trace, fed in windows of 30 bytes into an output of 100, is listed
-- to its end, and so as document 01 lists it.
use Rattle.std.specs.Prelude.{◌≡◌, refl, Bool, true, false, ◌&&◌, List, [], ◌∷◌, ◌++◌, ℕ, zero, suc, ltb}
use Rattle.std.proofs.Common.{sym, arith, ltb-true, lit≤}
use Rattle.lists.specs.Sum.{sum_by}
use Rattle.lists.specs.MapTo.{map_to}
use Rattle.rules.specs.Threads.{free_share, earliest, lose_at}
use Rattle.rules.specs.Table.{head_answer, row_answer, shares_to, rows_answer, table_answer, opened_to, start, opening}
use Rattle.rules.specs.Completion.{gives, completing, after_completion, completion}
use Rattle.rules.specs.Leaving.{leave, gone}
use Rattle.rules.specs.Arrival as arrivals
use Rattle.rules.specs.Arrival.{arrival}
use Rattle.rules.specs.Drop.{head_only, dropped}
use Rattle.rules.specs.Fitting.{fit, fitted}
use Rattle.rules.specs.Choice.{idled}
use Rattle.rules.specs.Charge.{benefits, charged, moved}
use Rattle.rules.specs.Step.{stepped}
use Rattle.rules.specs.Run.{state_after}
use Rattle.rules.specs.Records.{frame_of, decoded}
use Rattle.rules.specs.Reading.{before_ticks, ticks_due, event_read, record_read, read}
use Rattle.rules.specs.Listing.{bytes, digits, line, heading, tick_line, ending, listing}
use Rattle.promises.specs.Cases.{true_false, both_true}
use Rattle.windows.specs.Advance.{begun, move, advanced, advance}
use Rattle.windows.specs.Feeding.{Bytes, Feed, written, comes_to, Honest, any_windows}
use Rattle.marked.specs.Worked.{trace}

-- 30 bytes of what is left, and then all of it
abbrev part : Feed
part = record { last = false; size = 30; room = 100 }

abbrev whole : Feed
whole = record { last = true; size = 112; room = 100 }

abbrev feeds : List Feed
feeds = part ∷ part ∷ part ∷ part ∷ part ∷ part ∷ whole ∷ whole ∷ whole ∷ []

-- what feeding it comes to, by computing with all the rules
fed : ((comes_to begun trace feeds).done ≡ true) × Honest begun trace feeds
unfolding sum_by map_to free_share earliest lose_at head_answer row_answer shares_to rows_answer table_answer opened_to start opening gives completing after_completion completion leave gone arrivals.arrive arrival head_only dropped fit fitted idled benefits charged moved stepped state_after frame_of decoded before_ticks ticks_due event_read record_read read bytes digits line heading tick_line ending move advanced advance comes_to Honest
fed = (refl, (λ e. none e, (λ e. none e, (λ e. none e, (λ e. none e, (λ e. none e, (λ e. none e, (λ _. lit≤ tt, (λ _. lit≤ tt, (λ _. lit≤ tt, tt))))))))))
  where
    none : {A : Type 0} → false ≡ true → A
    none e = absurd (true_false (sym e))

-- it is made of bytes
abbrev under : List ℕ → Bool
under [] = true
under (x ∷ s) = ltb x 256 && under s

all_under : (s : List ℕ) → under s ≡ true → Bytes s
all_under [] e i = omega arith
all_under (x ∷ s) e zero = ltb-true x 256 (both_true (ltb x 256) (under s) e).0
all_under (x ∷ s) e (suc i) = all_under s (both_true (ltb x 256) (under s) e).1 i

pub fed_as_listed : listing trace ≡ heading ++ written begun trace feeds
fed_as_listed = any_windows trace feeds (all_under trace refl) fed.1 fed.0
