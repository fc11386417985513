-- What each part of a call comes to.
use Rattle.std.specs.Prelude.{◌≡◌, Bool, true, List, ℕ, suc, ◌+◌, ◌-◌, ◌≤◌, ◌<◌, length, drop}
use Rattle.std.proofs.Common.{sym, ap, ◌∙◌, subst, arith}
use Rattle.std.proofs.Math.Decide.{dec_lt}
use Rattle.rules.specs.Limits.{clock_end}
use Rattle.rules.specs.Threads.{State}
use Rattle.rules.specs.Table.{Done, Refused}
use Rattle.rules.specs.Records.{Record}
use Rattle.rules.specs.Refusals.{Refusal, number}
use Rattle.rules.specs.Reading.{Reading, at_events, with_state, ticks_due, record_read}
use Rattle.rules.specs.History.{ticks_of}
use Rattle.rules.specs.Stretches.{Activity}
use Rattle.rules.specs.Report.{told, event_for}
use Rattle.windows.specs.Ticks.{due_events, due_fits, due_steps}
use Rattle.accounts.specs.Told.{Tells}
use Rattle.accounts.specs.Ticks.{NotedTo}
use Rattle.calls.specs.declared.told.Turn.{Turn}
use Rattle.calls.specs.Acts.{along_none}
use Rattle.calls.specs.Parts.{turn_at, Stands}
use Rattle.report.specs.Tallies.{Tally, roomy, reached_at, GivenTally}
use Rattle.report.specs.Windows.{refused_brings, read_brings, ticks_brings}
use Rattle.report.specs.Given.{tally_read, tally_ticks}
use Rattle.report.specs.contracts.TallyTold.TheImpl.{ghosts}
use Rattle.report.specs.Tells.{Brings, Opens, Acted, AlongTo, Refuses, brings_any, brings_none}

module _ {w out : List ℕ} {x : Turn Tally} (o : Opens w out x) where
  abbrev from : ℕ
  from = x.taken

  abbrev used : ℕ
  used = x.written

  abbrev p : Tally
  p = x.progress

  -- how far the report comes; it is not done
  abbrev onto : Reading → List Activity → ℕ → Tally
  onto r cs b = record { reading = r; activities = cs; place = b; done = p.done }

  onto_reached : (r : Reading) (cs : List Activity) (b : ℕ) → reached_at r cs b ≡ onto r cs b
  onto_reached r cs b = ap (λ (d : Bool). record { reading = r; activities = cs; place = b; done = d }) (sym o.undone)

  module _ (n : ℕ) (e : Record) (z : Stands w from n e) where
    -- ---- a record that is read, where no tick is due
    module _ (due : ticks_due p.reading e ≡ 0) (q : Reading) (read : record_read p.reading e ≡ record { answer = Done; reading = q }) where
      pub read_acts : {out' : List ℕ} {u : ℕ} {cs : List Activity} → Tells p.reading.table p.activities (event_for p.reading.state e) out used out' u cs → u ≤ length out
          → Acted w out x out' (turn_at (from + n) u (onto q cs (p.place + n)))
      read_acts {out'} {u} {cs} t fits = subst (λ (y : Tally). Acted w out x out' (turn_at (from + n) u y)) (onto_reached q cs (p.place + n)) (rw t.stands (record {
        any = λ last. record {
          given = tally_read o.given e q due read (p.place + n);
          text = told p.reading.table p.activities (event_for p.reading.state e);
          stored = t.put.stored;
          writes = t.put.next;
          takes = omega arith;
          within = z.framed.within;
          fits = fits;
          brings = brings_any (0 + n) (read_brings (drop from w) 0 p o.undone z.kind n z.framed.is e z.known q due read) (omega arith) last;
        };
        less = omega (arith, t.put.next, z.framed.within, z.framed.least);
      }))
      -- .. or that is refused

    pub refused_acts : ticks_due p.reading e ≡ 0 → (r : Refusal) → (record_read p.reading e).answer ≡ Refused (number r) → Refuses w out x out x r
    refused_acts due r a = record {
      before = λ last. along_none ghosts brings_none last w out x o.given o.within (omega (arith, o.fits));
      opens = o;
      brings = brings_any 0 (refused_brings (drop from w) 0 p o.undone z.kind n z.framed.is e z.known (number r) due a) (omega arith);
    }

    -- ---- ticks that are due
    module _ (d : ℕ) (due : ticks_due p.reading e ≡ d) (some : 0 < d) where
      one : d ≡ suc (d - 1)
      one = omega arith

      pub ticks_events : at_events p.reading ≡ true
      ticks_events = due_events p.reading e (d - 1) (due ∙ one)

      pub ticks_fit : p.reading.state.clock.0 + d ≤ clock_end
      ticks_fit = let h = due_fits p.reading e (d - 1) (due ∙ one) in omega (arith, h)

      module _ {out' : List ℕ} {u : ℕ} {cs : List Activity} {y : State} (t : NotedTo p.reading.table p.activities p.reading.state d out used out' u cs y) where
        rest : d ≡ t.count + (d - t.count)
        rest = omega (arith, t.noted.most)

        pub ticks_given : GivenTally (onto (with_state p.reading y) cs p.place)
        ticks_given = subst GivenTally (onto_reached (with_state p.reading y) cs p.place) (rw (t.noted.state, t.noted.tells.stands) (tally_ticks o.given t.count ticks_events (omega (arith, ticks_fit, t.noted.most)) p.place))

        pub ticks_along : (last : Bool) → AlongTo w out x out' (turn_at from u (onto (with_state p.reading y) cs p.place)) last
        ticks_along last = record {
          given = ticks_given;
          text = told p.reading.table p.activities (ticks_of t.count p.reading.state);
          stored = t.noted.tells.put.stored;
          writes = t.noted.tells.put.next;
          takes = omega arith;
          within = o.within;
          fits = t.noted.fits;
          brings = subst (λ (q : Tally). Brings last (drop from w) (length out - used) p (told p.reading.table p.activities (ticks_of t.count p.reading.state)) (from - from) q) (onto_reached (with_state p.reading y) cs p.place) (rw (t.noted.state, t.noted.tells.stands)
              (brings_any 0 (ticks_brings (drop from w) 0 p o.undone z.kind n z.framed.is e z.known t.count (d - t.count) (due ∙ rest)) (omega arith) last));
        }

        -- where there is little room after them, something was written
        pub ticks_acts : length out < u + roomy → Acted w out x out' (turn_at from u (onto (with_state p.reading y) cs p.place))
        ticks_acts short = record { any = ticks_along; less = omega (arith, short, o.fits, t.noted.fits) }

        -- where there is room after them, all of them were taken
        pub ticks_all : u + roomy ≤ length out → ticks_due (with_state p.reading y) e ≡ 0
        ticks_all room =
            ap (λ (s : State). ticks_due (with_state p.reading s) e) t.noted.state
            ∙ due_steps t.count 0 p.reading e (due ∙ full)
          where
            full : d ≡ t.count + 0
            full = by (dec_lt t.count d)
              where
                by : Dec (t.count < d) → d ≡ t.count + 0
                by (yes h) = absurd (let k = t.ended h in omega (arith, k, room))
                by (no h) = omega (arith, h, t.noted.most)
