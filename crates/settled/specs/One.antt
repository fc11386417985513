-- Document 01, "What each contract has to say": "Any two outcomes it allows are proved to be one", and "A state passed in is one that
-- these calls gave; a contract may assume that of it and nothing more". Stated of each public function's own contract, as the proof of
-- the code reads it, so that a contract weakened later fails here: `-one` where its `ensures` says less, `-asks` where its `requires`
-- says more. This file: the tables and the schedule.
-- κs: lifetimes; a: what is passed; r: the answer; s: what is lent, at the end, or in `-asks` a state.
use Rattle.std.specs.Prelude.{◌≡◌, refl}
use Rattle.std.proofs.Common.{sym, ◌∙◌}
use Rattle.std.specs.Borrow.{MutBor}
use Rattle.rules.specs.Threads.{State}
use Rattle.rules.specs.Table.{no_schedule}
use Rattle.rules.specs.Calls.{Given}
use Rattle.promises.specs.Numbers.{answer_settles, answered_settles}
use Rattle.tables.proofs.head.Reads as head
use Rattle.tables.proofs.row.Reads as row
use Rattle.tables.proofs.no_schedule.Reads as none
use Rattle.tables.proofs.begin.Reads as begin
use Rattle.events.proofs.complete.Reads as complete
use Rattle.events.proofs.arrive.Reads as arrive
use Rattle.events.proofs.drop_waiting.Reads as drop_waiting
use Rattle.schedule.proofs.step.step.Reads as step
use Rattle.schedule.proofs.step.next.Reads as next
use Rattle.schedule.proofs.step.lead_on.Reads as lead
use Rattle.schedule.proofs.step.run.Reads as run
use Rattle.schedule.proofs.step.pass.Reads as pass
use Rattle.schedule.proofs.look.free_share.Reads as free_share

-- what equals a rule's answer is one
pub one : {A : Type 0} {x y f : A} → x ≡ f → y ≡ f → x ≡ y
one p q = p ∙ sym q

pub head_one : (κs : _) (a : _) (r r' : _) (s s' : _) → head.Learnt κs a r s → head.Learnt κs a r' s' → r ≡ r'
head_one κs a r r' s s' p q = answer_settles r r' (one p q)

pub head_asks : (κs : _) (a : _) → head.Asked κs a
head_asks κs a = tt

pub row_one : (κs : _) (a : _) (r r' : _) (s s' : _) → row.Learnt κs a r s → row.Learnt κs a r' s' → r ≡ r'
row_one κs a r r' s s' p q = answer_settles r r' (one p q)

pub row_asks : (κs : _) (a : _) → row.Asked κs a
row_asks κs a = tt

pub none_one : (κs : _) (a : _) (r r' : _) (s s' : _) → none.Learnt κs a r s → none.Learnt κs a r' s' → r ≡ r'
none_one κs a r r' s s' p q = one p q

pub none_asks : (κs : _) (a : _) → none.Asked κs a
none_asks κs a = tt

pub begin_one : (κs : _) (a : _) (r r' : _) (s s' : _) → begin.Learnt κs a r s → begin.Learnt κs a r' s' → r ≡ r'
begin_one κs a r r' s s' p q = answered_settles no_schedule r r' (one p q)

pub begin_asks : (κs : _) (a : _) → begin.Asked κs a
begin_asks κs a = tt

pub complete_one : (κs : _) (a : _) (r r' : _) (s s' : _) → complete.Learnt κs a r s → complete.Learnt κs a r' s' → r ≡ r'
complete_one κs a r r' s s' p q = answered_settles a.0 r r' (one p q)

pub complete_asks : (κs : _) (s : State) (b : _) → Given s → complete.Asked κs (s, b)
complete_asks κs s b g = g

pub arrive_one : (κs : _) (a : _) (r r' : _) (s s' : _) → arrive.Learnt κs a r s → arrive.Learnt κs a r' s' → r ≡ r'
arrive_one κs a r r' s s' p q = answered_settles a.0 r r' (one p q)

pub arrive_asks : (κs : _) (s : State) (b : _) → Given s → arrive.Asked κs (s, b)
arrive_asks κs s b g = g

pub drop_one : (κs : _) (a : _) (r r' : _) (s s' : _) → drop_waiting.Learnt κs a r s → drop_waiting.Learnt κs a r' s' → r ≡ r'
drop_one κs a r r' s s' p q = answered_settles a.0 r r' (one p q)

pub drop_asks : (κs : _) (s : State) (b : _) → Given s → drop_waiting.Asked κs (s, b)
drop_asks κs s b g = g

pub step_one : (κs : _) (a : _) (r r' : _) (s s' : _) → step.Learnt κs a r s → step.Learnt κs a r' s' → r ≡ r'
step_one κs a r r' s s' p q = one p q

pub step_asks : (κs : _) (s : State) (b : _) → Given s → step.Asked κs (s, b)
step_asks κs s b g = g

pub next_one : (κs : _) (a : _) (r r' : _) (s s' : _) → next.Learnt κs a r s → next.Learnt κs a r' s' → r ≡ r'
next_one κs a r r' s s' p q = one p q

pub next_asks : (κs : _) (s : State) (b : _) → Given s → next.Asked κs (s, b)
next_asks κs s b g = g

-- the state that is lent
pub lead_one : (κs : _) (a : _) (r r' : _) (s s' : _) → lead.Learnt κs a r s → lead.Learnt κs a r' s' → (r ≡ r') × (s.0.now ≡ s'.0.now)
lead_one κs a r r' s s' p q = (refl, one p q)

pub lead_asks : (κs : _) (s : MutBor State) → Given s.now → lead.Asked κs (s, tt)
lead_asks κs s g = g

-- the answer and the lent row
pub run_one : (κs : _) (a : _) (r r' : _) (s s' : _) → run.Learnt κs a r s → run.Learnt κs a r' s' → (r ≡ r') × (s.1.1.0.now ≡ s'.1.1.0.now)
run_one κs a r r' s s' p q = (answered_settles a.0 r r' (one p.0 q.0), one p.1 q.1)

pub run_asks : (κs : _) (s : State) (b : _) → Given s → run.Asked κs (s, b)
run_asks κs s b g = g

pub pass_one : (κs : _) (a : _) (r r' : _) (s s' : _) → pass.Learnt κs a r s → pass.Learnt κs a r' s' → r ≡ r'
pass_one κs a r r' s s' p q = answered_settles a.0 r r' (one p q)

pub pass_asks : (κs : _) (s : State) (b : _) → Given s → pass.Asked κs (s, b)
pass_asks κs s b g = g

pub free_share_one : (κs : _) (a : _) (r r' : _) (s s' : _) → free_share.Learnt κs a r s → free_share.Learnt κs a r' s' → r ≡ r'
free_share_one κs a r r' s s' p q = one p q

pub free_share_asks : (κs : _) (s : State) (b : _) → Given s → free_share.Asked κs (s, b)
free_share_asks κs s b g = g
