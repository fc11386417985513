-- How the report of the rest of an input goes on, by what stands at its start; the ticks before a record may be told in parts.
use Rattle.std.specs.Prelude.{◌≡◌, refl, length, drop}
use Rattle.std.proofs.Math.Path.{sym, ap}
use Rattle.std.proofs.Common.{◌∙◌, arith}
use mathlib.Core.List.{List, [], ◌++◌, append_assoc}
use Prim.Native.Nat.{ℕ, zero, suc, ◌+◌}
use Rattle.std.proofs.Math.ListN.{length-drop}
use Rattle.rules.specs.Threads.{State}
use Rattle.rules.specs.Table.{Answer, Done, Refused}
use Rattle.rules.specs.Step.{stepped}
use Rattle.rules.specs.Run.{state_after}
use Rattle.rules.specs.Records.{Ended, Cut, Whole, Record, Known, frame_of, body_of, decoded}
use Rattle.rules.specs.Records as records
use Rattle.rules.specs.Reading.{Reading, Read, with_state, ticks_due, record_read}
use Rattle.rules.specs.History.{Happening, tick_of, ticks_of}
use Rattle.rules.specs.Listing.{refusal_line}
use Rattle.rules.specs.Listing as listing
use Rattle.rules.specs.Stretches.{Activity, app_of}
use Rattle.rules.specs.Report.{Rest, told, stand, event_for, at_moment, onward, report_record, report_from, report_end}
use Rattle.windows.specs.Ticks.{steps_first, due_after, due_steps, onward_after}
use Rattle.stretches.specs.Goes.{activities_append}
use Rattle.accounts.specs.Told.{told_append}
use Rattle.report.specs.Folds.{told_none, stand_none, ticks_first}
use Rattle.report.specs.Fuel.{report_any, report_open}

-- the report of the rest s of an input
abbrev pub from_on : Reading → List Activity → ℕ → List ℕ → List ℕ
from_on r cs b s = report_from (length s) r cs b s

-- ---- one tick of those that are due
-- how the report goes on after the ticks, as the listing does
onward_as : (a : Answer) (f : Rest) (r : Reading) (cs : List Activity) (b n : ℕ) (s : List ℕ) (e : Record)
    → onward a f r cs b n s e ≡ listing.onward a (λ q b' s'. told r.table cs (at_moment r e) ++ f q (stand r.table cs (at_moment r e)) b' s') (record_read r e).reading b n s
onward_as Done f r cs b n s e = refl
onward_as (Refused m) f r cs b n s e = refl

module _ (r : Reading) (e : Record) (d : ℕ) (due : ticks_due r e ≡ suc d) where
  abbrev after_tick : Reading
  after_tick = with_state r (stepped r.state).state

  same_moment : at_moment after_tick e ≡ at_moment r e
  same_moment =
      ap (λ (k : ℕ). event_for (state_after k (stepped r.state).state) e) (due_after r e d due)
      ∙ ap (λ (z : State). event_for z e) (sym (steps_first d r.state))
      ∙ ap (λ (k : ℕ). event_for (state_after k r.state) e) (sym due)

  onward_tick : (f : Rest) (cs : List Activity) (b n : ℕ) (s : List ℕ)
      → onward (record_read after_tick e).answer f after_tick cs b n s e ≡ onward (record_read r e).answer f r cs b n s e
  onward_tick f cs b n s =
      onward_as (record_read after_tick e).answer f after_tick cs b n s e
      ∙ ap (λ (hs : List Happening). listing.onward (record_read after_tick e).answer (λ q b' s'. told r.table cs hs ++ f q (stand r.table cs hs) b' s') (record_read after_tick e).reading b n s) same_moment
      ∙ onward_after r e d due (λ q b' s'. told r.table cs (at_moment r e) ++ f q (stand r.table cs (at_moment r e)) b' s') b n s
      ∙ sym (onward_as (record_read r e).answer f r cs b n s e)

  record_tick : (f : Rest) (cs : List Activity) (b n : ℕ) (s : List ℕ)
      → report_record f r cs b n s e ≡ told r.table cs (tick_of r.state) ++ report_record f after_tick (stand r.table cs (tick_of r.state)) b n s e
  record_tick f cs b n s =
      ap (λ (hs : List Happening). told r.table cs hs ++ on r (stand r.table cs hs)) (ap (λ (k : ℕ). ticks_of k r.state) due ∙ ticks_first d r.state)
      ∙ ap (λ (v : List ℕ). v ++ on r (stand r.table cs (tick_of r.state ++ later))) (told_append r.table cs (tick_of r.state) later)
      ∙ ap (λ (c : List Activity). (told r.table cs (tick_of r.state) ++ told r.table one later) ++ on r c) (activities_append (app_of r.table) cs (tick_of r.state) later)
      ∙ append_assoc (told r.table cs (tick_of r.state)) (told r.table one later) (on r (stand r.table one later))
      ∙ ap (λ (v : List ℕ). told r.table cs (tick_of r.state) ++ (told r.table one later ++ v)) (sym (onward_tick f (stand r.table one later) b n s))
      ∙ ap (λ (k : ℕ). told r.table cs (tick_of r.state) ++ (told r.table one (ticks_of k (stepped r.state).state) ++ on after_tick (stand r.table one (ticks_of k (stepped r.state).state)))) (sym (due_after r e d due))
    where
      on : Reading → List Activity → List ℕ
      on q c = onward (record_read q e).answer f q c b n s e

      one : List Activity
      one = stand r.table cs (tick_of r.state)

      later : List Happening
      later = ticks_of d (stepped r.state).state

-- ---- a record that is read, where no tick is due
moment_now : (r : Reading) (e : Record) → ticks_due r e ≡ 0 → at_moment r e ≡ event_for r.state e
unfolding state_after
moment_now r e due = ap (λ (k : ℕ). event_for (state_after k r.state) e) due

onward_read : (r : Reading) (e : Record) (q : Reading) → ticks_due r e ≡ 0 → record_read r e ≡ record { answer = Done; reading = q } → (f : Rest) (cs : List Activity) (b n : ℕ) (s : List ℕ)
    → onward (record_read r e).answer f r cs b n s e ≡ told r.table cs (event_for r.state e) ++ f q (stand r.table cs (event_for r.state e)) (b + n) (drop n s)
onward_read r e q due a f cs b n s =
    ap (λ (x : Read). onward x.answer f r cs b n s e) a
    ∙ ap (λ (hs : List Happening). told r.table cs hs ++ f (record_read r e).reading (stand r.table cs hs) (b + n) (drop n s)) (moment_now r e due)
    ∙ ap (λ (x : Read). told r.table cs (event_for r.state e) ++ f x.reading (stand r.table cs (event_for r.state e)) (b + n) (drop n s)) a

-- ---- what stands at the start of the rest
module _ (b : ℕ) (s : List ℕ) where
  pub cut_rest : (r : Reading) (cs : List Activity) → frame_of s ≡ Cut → from_on r cs b s ≡ refusal_line 14 b
  cut_rest r cs e = report_open r cs b s ∙ rw e

  pub ended_rest : (r : Reading) (cs : List Activity) → frame_of s ≡ Ended → from_on r cs b s ≡ report_end r cs b
  ended_rest r cs e = report_open r cs b s ∙ rw e

  -- a whole record
  module _ (kind n : ℕ) (frame : frame_of s ≡ Whole kind n) where
    pub unknown_rest : (r : Reading) (cs : List Activity) (m : ℕ) → decoded kind (body_of s n) ≡ records.Refused m → from_on r cs b s ≡ refusal_line m b
    unknown_rest r cs m d = report_open r cs b s ∙ rw (frame, d)

    module _ (e : Record) (known : decoded kind (body_of s n) ≡ Known e) where
      known_rest : (r : Reading) (cs : List Activity) → from_on r cs b s ≡ report_record (report_from (length s)) r cs b n s e
      known_rest r cs = report_open r cs b s ∙ rw (frame, known)

      -- .. that is refused, where no tick is due
      pub refused_rest : (r : Reading) (cs : List Activity) (m : ℕ) → ticks_due r e ≡ 0 → (record_read r e).answer ≡ Refused m → from_on r cs b s ≡ refusal_line m b
      unfolding ticks_of
      refused_rest r cs m due a = known_rest r cs ∙ rw (due, a) (ap (λ (v : List ℕ). v ++ refusal_line m b) (told_none r.table cs))

      -- .. that is read, where no tick is due
      pub read_rest_lem : (r : Reading) (cs : List Activity) (q : Reading) → ticks_due r e ≡ 0 → record_read r e ≡ record { answer = Done; reading = q }
          → from_on r cs b s ≡ told r.table cs (event_for r.state e) ++ from_on q (stand r.table cs (event_for r.state e)) (b + n) (drop n s)
      unfolding ticks_of
      read_rest_lem r cs q due a =
          known_rest r cs
          ∙ ap (λ (k : ℕ). told r.table cs (ticks_of k r.state) ++ onward (record_read r e).answer (report_from (length s)) r (stand r.table cs (ticks_of k r.state)) b n s e) due
          ∙ ap (λ (v : List ℕ). v ++ onward (record_read r e).answer (report_from (length s)) r (stand r.table cs []) b n s e) (told_none r.table cs)
          ∙ ap (λ (c : List Activity). onward (record_read r e).answer (report_from (length s)) r c b n s e) (stand_none r.table cs)
          ∙ onward_read r e q due a (report_from (length s)) cs b n s
          ∙ ap (λ (v : List ℕ). told r.table cs (event_for r.state e) ++ v) (report_any (length s) (length (drop n s)) q (stand r.table cs (event_for r.state e)) (b + n) (drop n s) (omega (arith, length-drop n s)) (omega arith))

      -- a tick is due
      tick_rest : (r : Reading) (cs : List Activity) (d : ℕ) → ticks_due r e ≡ suc d
          → from_on r cs b s ≡ told r.table cs (tick_of r.state) ++ from_on (with_state r (stepped r.state).state) (stand r.table cs (tick_of r.state)) b s
      tick_rest r cs d due =
          known_rest r cs
          ∙ record_tick r e d due (report_from (length s)) cs b n s
          ∙ ap (λ (v : List ℕ). told r.table cs (tick_of r.state) ++ v) (sym (known_rest (with_state r (stepped r.state).state) (stand r.table cs (tick_of r.state))))

      -- so many ticks of those that are due
      pub ticks_rest : (k : ℕ) (r : Reading) (cs : List Activity) (d : ℕ) → ticks_due r e ≡ k + d
          → from_on r cs b s ≡ told r.table cs (ticks_of k r.state) ++ from_on (with_state r (state_after k r.state)) (stand r.table cs (ticks_of k r.state)) b s
      unfolding ticks_of state_after
      ticks_rest zero r cs d due =
          sym (ap (λ (v : List ℕ). v ++ from_on r (stand r.table cs []) b s) (told_none r.table cs) ∙ ap (λ (c : List Activity). from_on r c b s) (stand_none r.table cs))
      ticks_rest (suc k) r cs d due =
          ticks_rest k r cs (suc d) (due ∙ omega arith)
          ∙ ap (λ (v : List ℕ). told r.table cs hs ++ v) (tick_rest (with_state r z) c d (due_steps k (suc d) r e (due ∙ omega arith)))
          ∙ sym (append_assoc (told r.table cs hs) (told r.table c (tick_of z)) (from_on q (stand r.table c (tick_of z)) b s))
          ∙ ap (λ (v : List ℕ). v ++ from_on q (stand r.table c (tick_of z)) b s) (sym (told_append r.table cs hs (tick_of z)))
          ∙ ap (λ (x : List Activity). told r.table cs (hs ++ tick_of z) ++ from_on q x b s) (sym (activities_append (app_of r.table) cs hs (tick_of z)))
        where
          z : State
          z = state_after k r.state

          hs : List Happening
          hs = ticks_of k r.state

          c : List Activity
          c = stand r.table cs hs

          q : Reading
          q = with_state r (stepped z).state
