-- "Any two outcomes it allows are proved to be one", of the accounts: the answer and the lent output; and of a call of the report: how
-- far it goes is left open, and with what is still to be written from there any two outcomes are one report. What these ask follows from
-- a tally that calls gave, while a schedule is there, and from room.
-- κs: lifetimes; a: what is passed; r: the answer; s: what is lent, at the end.
use Rattle.std.specs.Prelude.{◌≡◌, refl, Bool, true, List, [], ◌++◌, ℕ, ◌+◌, ◌≤◌, ◌<◌, length, drop}
use Rattle.std.proofs.Common.{sym, ap, ◌∙◌, subst, arith}
use Rattle.std.specs.Borrow.{Bor, MutBor}
use Rattle.rules.specs.Limits.{clock_end}
use Rattle.rules.specs.Threads.{State}
use Rattle.rules.specs.Table.{Table, Done}
use Rattle.rules.specs.Run.{state_after}
use Rattle.rules.specs.Records.{Record}
use Rattle.rules.specs.Reading.{at_events, at_its_moment}
use Rattle.rules.specs.Calls.{Given}
use Rattle.rules.specs.History.{Happening, ticks_of}
use Rattle.rules.specs.Stretches.{Activity}
use Rattle.stretches.specs.Standing.{Kept}
use Rattle.windows.specs.Readings.{given_reading}
use Rattle.text.specs.Put.{Put}
use Rattle.accounts.specs.Told.{room, Tells}
use Rattle.accounts.specs.Ticks.{NotedTo}
use Rattle.report.specs.declared.Tally.{Tally}
use Rattle.report.specs.declared.TallyTurn.{TallyTurn}
use Rattle.report.specs.Tallies.{rest_of, GivenTally}
use Rattle.report.specs.Given.{tally_reading}
use Rattle.report.specs.Keeps.{tally_kept}
use Rattle.report.specs.Turns.{Went}
use Rattle.settled.specs.One.{one}
use Rattle.accounts.proofs.begin.Reads as begin
use Rattle.accounts.proofs.still_open.Reads as held
use Rattle.accounts.proofs.events.event.Reads as event
use Rattle.accounts.proofs.ticks.ticks.Reads as ticks
use Rattle.report.proofs.begin.Reads as report-begin
use Rattle.report.proofs.advance.Reads as advance

-- ---- a tally that calls gave, while a schedule is there
pub record Running (p : Tally) : Type 0 where
  pub tally : GivenTally p
  pub begun : at_events p.reading ≡ true

module _ {p : Tally} (g : Running p) where
  given : Given p.reading.state
  given = (given_reading (tally_reading g.tally)).given

  kept : Kept p.reading.table p.reading.state p.activities
  kept = tally_kept g.tally g.begun

-- ---- the outcomes, and what is asked
put_same : {out out₁ out₂ text : List ℕ} {k k₁ k₂ : ℕ} → Put out k text out₁ k₁ → Put out k text out₂ k₂ → (k₁ ≡ k₂) × (out₁ ≡ out₂)
put_same p q = (one p.next q.next, one p.stored q.stored)

pub accounts_begin_one : (κs : _) (a : _) (r r' : _) (s s' : _) → begin.Learnt κs a r s → begin.Learnt κs a r' s' → r ≡ r'
accounts_begin_one κs a r r' s s' p q = one p q

pub accounts_begin_asks : (κs : _) (a : _) → begin.Asked κs a
accounts_begin_asks κs a = tt

pub still_open_one : (κs : _) (a : _) (r r' : _) (s s' : _) → held.Learnt κs a r s → held.Learnt κs a r' s' → (r ≡ r') × (s.0.now ≡ s'.0.now)
still_open_one κs a r r' s s' p q = put_same p.0 q.0

pub still_open_asks : (κs : _) (out : MutBor (List ℕ)) (from : ℕ) (t : Bor Table) (cs : Bor (List Activity)) (p : Tally) → Running p → t.now ≡ p.reading.table → cs.now ≡ p.activities → from + room ≤ length out.now
    → held.Asked κs (out, (from, (t, (cs, (p.reading.state.clock, tt)))))
still_open_asks κs out from t cs p g te ce roomy = rw (te, ce) (record { state = p.reading.state; given = given g; kept = kept g; clock = refl }, roomy)

tells_same : {t : Table} {cs c₁ c₂ : List Activity} {hs : List Happening} {out out₁ out₂ : List ℕ} {from k₁ k₂ : ℕ} → Tells t cs hs out from out₁ k₁ c₁ → Tells t cs hs out from out₂ k₂ c₂
    → (k₁ ≡ k₂) × (c₁ ≡ c₂) × (out₁ ≡ out₂)
tells_same p q = let e = put_same p.put q.put in (e.0, one p.stands q.stands, e.1)

pub event_one : (κs : _) (a : _) (r r' : _) (s s' : _) → event.Learnt κs a r s → event.Learnt κs a r' s' → (r ≡ r') × (s.1.1.1.0.now ≡ s'.1.1.1.0.now) × (s.0.now ≡ s'.0.now)
event_one κs a r r' s s' p q = tells_same p.0 q.0

pub event_asks : (κs : _) (out : MutBor (List ℕ)) (from : ℕ) (t : Bor Table) (cs : MutBor (List Activity)) (s : Bor State) (p : Tally) (e : Record)
    → Running p → t.now ≡ p.reading.table → cs.now ≡ p.activities → s.now ≡ p.reading.state → (at_its_moment p.reading.state e).answer ≡ Done → from + room ≤ length out.now
    → event.Asked κs (out, (from, (t, (cs, (s, (e, tt))))))
event_asks κs out from t cs s p e g te ce se accepted roomy = rw (te, ce, se) (given g, kept g, accepted, roomy)

-- as many ticks as there is room for
counts_same : {t : Table} {cs c₁ c₂ : List Activity} {s z₁ z₂ : State} {n : ℕ} {out out₁ out₂ : List ℕ} {from k₁ k₂ : ℕ} (p : NotedTo t cs s n out from out₁ k₁ c₁ z₁)
    (q : NotedTo t cs s n out from out₂ k₂ c₂ z₂) → p.count < q.count → ⊥
counts_same p q h = omega (arith, p.ended (omega (arith, q.noted.most)), p.noted.tells.put.next, q.noted.roomy p.count h)

noted_same : {t : Table} {cs c₁ c₂ : List Activity} {s z₁ z₂ : State} {n : ℕ} {out out₁ out₂ : List ℕ} {from k₁ k₂ : ℕ} → NotedTo t cs s n out from out₁ k₁ c₁ z₁
    → NotedTo t cs s n out from out₂ k₂ c₂ z₂ → (k₁ ≡ k₂) × (c₁ ≡ c₂) × (z₁ ≡ z₂) × (out₁ ≡ out₂)
noted_same {t} {cs} {s = s} {out = out} {out₂ = out₂} {from = from} {k₂ = k₂} p q =
    let e = tells_same p.noted.tells (subst (λ (k : ℕ). Tells t cs (ticks_of k s) out from out₂ k₂ _) (sym same) q.noted.tells) in
    (e.0, e.1, p.noted.state ∙ ap (λ (k : ℕ). state_after k s) same ∙ sym q.noted.state, e.2)
  where
    same : p.count ≡ q.count
    same = omega (arith, counts_same p q, counts_same q p)

pub ticks_one : (κs : _) (a : _) (r r' : _) (s s' : _) → ticks.Learnt κs a r s → ticks.Learnt κs a r' s' → (r ≡ r') × (s.1.1.1.0.now ≡ s'.1.1.1.0.now) × (s.1.1.1.1.0.now ≡ s'.1.1.1.1.0.now) × (s.0.now ≡ s'.0.now)
ticks_one κs a r r' s s' p q = noted_same p q

pub ticks_asks : (κs : _) (out : MutBor (List ℕ)) (from : ℕ) (t : Bor Table) (cs : MutBor (List Activity)) (s : MutBor State) (p : Tally) (n : ℕ)
    → Running p → t.now ≡ p.reading.table → cs.now ≡ p.activities → s.now ≡ p.reading.state → p.reading.state.clock.0 + n ≤ clock_end → from ≤ length out.now
    → ticks.Asked κs (out, (from, (t, (cs, (s, (n, tt))))))
ticks_asks κs out from t cs s p n g te ce se early within = rw (te, ce, se) (given g, kept g, early, within)

pub report_begin_one : (κs : _) (a : _) (r r' : _) (s s' : _) → report-begin.Learnt κs a r s → report-begin.Learnt κs a r' s' → r ≡ r'
report_begin_one κs a r r' s s' p q = one p q

pub report_begin_asks : (κs : _) (a : _) → report-begin.Asked κs a
report_begin_asks κs a = tt

-- what a call wrote and what is still to be written from where it stands, `more` being what comes behind the window
abbrev whole_of : {last : Bool} {w out out' : List ℕ} {p : Tally} {t : TallyTurn} → Went last w out p out' t → List ℕ → List ℕ
whole_of {w = w} {t = t} c more = c.text ++ rest_of t.tally (drop t.taken w ++ more)

went_same : {last : Bool} {w out o₁ o₂ : List ℕ} {p : Tally} {t₁ t₂ : TallyTurn} (c : Went last w out p o₁ t₁) (d : Went last w out p o₂ t₂) (more : List ℕ) → (last ≡ true → more ≡ []) → whole_of c more ≡ whole_of d more
went_same c d more e = sym (c.brings more e) ∙ d.brings more e

-- nothing comes behind the last window
abbrev Behind : {last : Bool} {w out out' : List ℕ} {p : Tally} {t : TallyTurn} → Went last w out p out' t → List ℕ → Type 0
Behind {last} c more = last ≡ true → more ≡ []

pub advance_one_report : (κs : _) (a : _) (r r' : _) (s s' : _) (c : advance.Learnt κs a r s) (d : advance.Learnt κs a r' s') (more : List ℕ) → Behind c more → whole_of c more ≡ whole_of d more
advance_one_report κs a r r' s s' c d more e = went_same c d more e

pub advance_asks : (κs : _) (w : _) (last : _) (p : Tally) (b : _) → GivenTally p → advance.Asked κs (w, (last, (p, b)))
advance_asks κs w last p b g = g
