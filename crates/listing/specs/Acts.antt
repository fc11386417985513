-- What each part of a call comes to.
use Rattle.std.specs.Prelude.{◌≡◌, refl, Bool, Some, drop}
use Rattle.std.proofs.Math.Path.{subst}
use Rattle.std.proofs.Common.{sym, ap, ◌∙◌, add-zero}
use mathlib.Core.List.{List, []}
use Prim.Native.Nat.{ℕ, zero, suc, ◌+◌, ◌-◌, ◌≤◌, ◌<◌}
use Rattle.std.proofs.Math.Decide.{dec_lt, ℕ_discrete}
use native.Mathlib.Omega.{arith}
use Rattle.std.proofs.Math.ListN.{length, length-append}
use Rattle.std.proofs.Math.Seq.{sets, length-sets}
use Rattle.lists.specs.Sets.{sets_chain}
use Rattle.rules.specs.Limits.{clock_end}
use Rattle.rules.specs.Threads.{State}
use Rattle.rules.specs.Table.{Done, Refused}
use Rattle.rules.specs.Run.{state_after}
use Rattle.rules.specs.Records.{Record}
use Rattle.rules.specs.Reading.{Reading, with_state, ticks_due, record_read}
use Rattle.calls.specs.declared.told.Turn.{Turn}
use Rattle.calls.specs.Parts.{turn_at, Stands}
use Rattle.listing.specs.declared.Listing.{Listing}
use Rattle.listing.specs.Tells.{Brings, Opens, AlongTo, Acted, stops_brings, along_turn}
use Rattle.rules.specs.Input.{GivenReading}
use Rattle.rules.specs.Listing.{tick_line, tick_lines, refusal_line}
use Rattle.promises.specs.Always.{given_steps}
use Rattle.promises.specs.Sound.{given_sound}
use Rattle.promises.specs.Taken.{steps_early}
use Rattle.windows.specs.Advance.{Progress, longest, finished, went, moves, move}
use Rattle.windows.specs.Along.{Along, along_none, along_then, along_move}
use Rattle.windows.specs.Goes.{tick_some}
use Rattle.windows.specs.Readings.{given_reading, reading_ticks}
use Rattle.windows.specs.Ticks.{due_events, due_fits, due_steps}
use Rattle.listing.specs.Listed.{tick_longest}
use Rattle.listing.specs.Moves.{moves_read, moves_tick}
use Rattle.listing.specs.Way.{seen_at, seen_known, SweptTo, ListedTo, with_ticks}

module _ (w out : List ℕ) (x : Turn Listing) (o : Opens w out x) where
  abbrev from : ℕ
  from = x.taken

  abbrev used : ℕ
  used = x.written

  abbrev p : Progress
  p = x.progress.0

  module _ (n : ℕ) (e : Record) (z : Stands w from n e) where
    room_left : longest ≤ length out - used
    room_left = omega (arith, o.fits)

    seen : seen_at (drop from w) ≡ Some (e, n)
    seen = sym (seen_known (drop from w) z.kind n e z.framed.is z.known)

    some : 0 < n
    some = omega (arith, z.framed.least)

    -- ---- a record that is refused
    pub refused_brings : (m : ℕ) → ticks_due p.reading e ≡ 0 → (r : Reading) → record_read p.reading e ≡ record { answer = Refused m; reading = r } → (last : Bool) → Brings last (drop from w) (length out - used) x.progress (refusal_line m p.place) 0 (record { 0 = finished p })
    refused_brings m due r y last = stops_brings (drop from w) (length out - used) x.progress o.undone room_left o.near last m (moves_read last (length out - used) p (drop from w) o.undone room_left o.near n e some seen due (Refused m) r y)

    -- ---- a record that is read, and those that are swept after it
    pub read_acts : ticks_due p.reading e ≡ 0 → (r : Reading) → record_read p.reading e ≡ record { answer = Done; reading = r } → (to : ℕ) (q : Progress) → SweptTo w (from + n) (went p n r) to q → Acted w out x out (turn_at to used (record { 0 = q }))
    read_acts due r read to q s = record {
      any = λ last. along_turn s.given (along_then last w (first last) (s.along last out used o.fits));
      less = omega (arith, s.takes, s.within, some);
    }
      where
        is : (last : Bool) → move last (length out - used) p (drop from w) ≡ moves n [] (went p n r)
        is last = moves_read last (length out - used) p (drop from w) o.undone room_left o.near n e some seen due Done r read

        first : (last : Bool) → Along last w out from used p out (from + n) used (went p n r)
        first last =
            subst (λ (k : ℕ). Along last w out from used p out (from + n) k (went p n r)) (add-zero used)
            (along_move last w out from used p o.within n [] (went p n r) (is last) (omega (arith, o.fits)))

    -- ---- the ticks before it
    module _ (d : ℕ) (due : ticks_due p.reading e ≡ d) where
      -- the progress after k ticks
      abbrev after : ℕ → Progress
      after k = with_ticks p (state_after k p.reading.state)

      pub ticks_fit : p.reading.state.clock.0 + d ≤ clock_end
      ticks_fit = by d due
        where
          by : (d : ℕ) → ticks_due p.reading e ≡ d → p.reading.state.clock.0 + d ≤ clock_end
          by zero due = let t = (given_sound (given_reading o.given).given).time in omega (arith, t)
          by (suc k) due = let h = due_fits p.reading e k due in omega (arith, h)

      given_after : (k : ℕ) → k ≤ d → GivenReading (after k).reading
      unfolding state_after
      given_after zero h = o.given
      given_after (suc k) h = reading_ticks o.given (suc k) (due_events p.reading e (d - 1) (due ∙ omega arith)) (omega (arith, ticks_fit))

      -- one tick more
      along_tick : (last : Bool) (k : ℕ) → suc k ≤ d → used + length (tick_lines k p.reading.state) + longest ≤ length out → Along last w (sets out used (tick_lines k p.reading.state)) from (used + length (tick_lines k p.reading.state)) (after k) (sets out used (tick_lines (suc k) p.reading.state)) from (used + length (tick_lines (suc k) p.reading.state)) (after (suc k))
      unfolding tick_lines state_after
      along_tick last k h room =
          subst (λ (u : ℕ). Along last w lent from at (after k) (sets out used (tick_lines (suc k) p.reading.state)) from u (after (suc k))) (omega (arith, length-append (tick_lines k p.reading.state) text))
          (subst (λ (l : List ℕ). Along last w lent from at (after k) l from (at + length text) (after (suc k))) (sets_chain out used (tick_lines k p.reading.state) text)
          (subst (λ (f : ℕ). Along last w lent from at (after k) (sets lent at text) f (at + length text) (after (suc k))) (add-zero from)
          (along_move last w lent from at (after k) o.within 0 text (after (suc k)) is (omega (arith, long, short, room)))))
        where
          lent : List ℕ
          lent = sets out used (tick_lines k p.reading.state)

          at : ℕ
          at = used + length (tick_lines k p.reading.state)

          text : List ℕ
          text = tick_line (state_after k p.reading.state)

          long : length lent ≡ length out
          long = length-sets out used (tick_lines k p.reading.state)

          short : length text ≤ longest
          short = tick_longest (given_steps k (given_reading o.given).given) (steps_early k d p.reading.state h ticks_fit)

          is : move last (length lent - at) (after k) (drop from w) ≡ moves 0 text (after (suc k))
          is = moves_tick last (length lent - at) (after k) (drop from w) o.undone (omega (arith, long, room)) o.near n e some seen (d - suc k) (due_steps k (suc (d - suc k)) p.reading e (due ∙ omega arith))

      along_ticks : (last : Bool) (k : ℕ) → k ≤ d → ((j : ℕ) → j < k → used + length (tick_lines j p.reading.state) + longest ≤ length out) → Along last w out from used p (sets out used (tick_lines k p.reading.state)) from (used + length (tick_lines k p.reading.state)) (after k)
      unfolding tick_lines state_after
      along_ticks last zero h roomy =
          subst (λ (k : ℕ). Along last w out from used p out from k p) (sym (add-zero used)) (along_none last w out from used p o.within (omega (arith, o.fits)))
      along_ticks last (suc k) h roomy = along_then last w (along_ticks last k (omega arith) (λ j i. roomy j (omega arith))) (along_tick last k h (roomy k (omega arith)))

      pub ticks_along : {out' : List ℕ} {u : ℕ} {y : State} → ListedTo out used p.reading.state d out' u y → (last : Bool) → AlongTo last w out x out' (turn_at from u (record { 0 = with_ticks p y }))
      ticks_along l last = along_turn (rw l.listed.state (given_after l.count l.listed.most)) (rw (l.listed.stored, l.listed.writes, l.listed.state) (along_ticks last l.count l.listed.most l.listed.roomy))

      -- where there is little room after them, something was written
      pub ticks_act : {out' : List ℕ} {u : ℕ} {y : State} → ListedTo out used p.reading.state d out' u y → length out < u + longest → Acted w out x out' (turn_at from u (record { 0 = with_ticks p y }))
      ticks_act l short = record { any = ticks_along l; less = omega (arith, short, o.fits, l.listed.fits) }

      -- at least one line
      lines_some : (k : ℕ) → 0 < k → k ≤ d → 1 ≤ length (tick_lines k p.reading.state)
      unfolding tick_lines
      lines_some zero h l = absurd (omega arith)
      lines_some (suc k) h l = omega (arith, length-append (tick_lines k p.reading.state) (tick_line (state_after k p.reading.state)), tick_some (state_after k p.reading.state) (steps_early k d p.reading.state l ticks_fit))

      none : length (tick_lines 0 p.reading.state) ≡ 0
      unfolding tick_lines
      none = refl

      -- .. as it was where any is due
      pub ticks_act_due : 0 < d → {out' : List ℕ} {u : ℕ} {y : State} → ListedTo out used p.reading.state d out' u y → Acted w out x out' (turn_at from u (record { 0 = with_ticks p y }))
      ticks_act_due due l = record { any = ticks_along l; less = omega (arith, lines_some l.count counted l.listed.most, l.listed.writes, l.listed.fits, o.fits) }
        where
          counted : 0 < l.count
          counted = by (ℕ_discrete l.count 0)
            where
              by : Dec (l.count ≡ 0) → 0 < l.count
              by (yes c) = absurd (let h = l.ended (omega arith) in let t = ap (λ (k : ℕ). length (tick_lines k p.reading.state)) c in omega (arith, h, t, none, l.listed.writes, o.fits))
              by (no c) = omega (arith, c)

-- where there is room after the ticks, all of them are listed
pub all_listed : (p : Progress) (e : Record) (d : ℕ) → ticks_due p.reading e ≡ d → (out : List ℕ) (used : ℕ) (out' : List ℕ) (u : ℕ) (y : State) → ListedTo out used p.reading.state d out' u y → u + longest ≤ length out → ticks_due (with_state p.reading y) e ≡ 0
all_listed p e d due out used out' u y l room =
    ap (λ (z : State). ticks_due (with_state p.reading z) e) l.listed.state
    ∙ due_steps l.count 0 p.reading e (due ∙ full)
  where
    full : d ≡ l.count + 0
    full = by (dec_lt l.count d)
      where
        by : Dec (l.count < d) → d ≡ l.count + 0
        by (yes h) = absurd (let k = l.ended h in omega (arith, k, room))
        by (no h) = omega (arith, h, l.listed.most)
