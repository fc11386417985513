-- "Any two outcomes it allows are proved to be one", and what it asks, of the calls for C and Rust.
-- κs: lifetimes; a: what is passed; r: the answer; s: what is lent, at the end, or in `-asks` a state outside.
use Rattle.std.specs.Prelude.{◌≡◌}
use Rattle.rules.specs.Calls.{Given}
use Rattle.capi.specs.declared.OutState.{OutState}
use Rattle.capi.specs.Crossing.{inside_state}
use Rattle.settled.specs.One.{one}
use Rattle.capi.proofs.bollardine_begin.Reads as begin
use Rattle.capi.proofs.bollardine_complete.Reads as complete
use Rattle.capi.proofs.bollardine_arrive.Reads as arrive
use Rattle.capi.proofs.bollardine_drop.Reads as drop
use Rattle.capi.proofs.bollardine_step.Reads as step
use Rattle.capi.proofs.bollardine_run.Reads as run
use Rattle.capi.proofs.bollardine_free_share.Reads as free_share

pub begin_one : (κs : _) (a : _) (r r' : _) (s s' : _) → begin.Learnt κs a r s → begin.Learnt κs a r' s' → r ≡ r'
begin_one κs a r r' s s' p q = one p q

pub begin_asks : (κs : _) (a : _) → begin.Asked κs a
begin_asks κs a = tt

pub complete_one : (κs : _) (a : _) (r r' : _) (s s' : _) → complete.Learnt κs a r s → complete.Learnt κs a r' s' → r ≡ r'
complete_one κs a r r' s s' p q = one p q

pub complete_asks : (κs : _) (s : OutState) (b : _) → Given (inside_state s) → complete.Asked κs (s, b)
complete_asks κs s b g = g

pub arrive_one : (κs : _) (a : _) (r r' : _) (s s' : _) → arrive.Learnt κs a r s → arrive.Learnt κs a r' s' → r ≡ r'
arrive_one κs a r r' s s' p q = one p q

pub arrive_asks : (κs : _) (s : OutState) (b : _) → Given (inside_state s) → arrive.Asked κs (s, b)
arrive_asks κs s b g = g

pub drop_one : (κs : _) (a : _) (r r' : _) (s s' : _) → drop.Learnt κs a r s → drop.Learnt κs a r' s' → r ≡ r'
drop_one κs a r r' s s' p q = one p q

pub drop_asks : (κs : _) (s : OutState) (b : _) → Given (inside_state s) → drop.Asked κs (s, b)
drop_asks κs s b g = g

pub step_one : (κs : _) (a : _) (r r' : _) (s s' : _) → step.Learnt κs a r s → step.Learnt κs a r' s' → r ≡ r'
step_one κs a r r' s s' p q = one p q

pub step_asks : (κs : _) (s : OutState) (b : _) → Given (inside_state s) → step.Asked κs (s, b)
step_asks κs s b g = g

-- the answer and the lent row
pub run_one : (κs : _) (a : _) (r r' : _) (s s' : _) → run.Learnt κs a r s → run.Learnt κs a r' s' → (r ≡ r') × (s.1.1.0.now ≡ s'.1.1.0.now)
run_one κs a r r' s s' p q = (one p.0 q.0, one p.1 q.1)

pub run_asks : (κs : _) (s : OutState) (b : _) → Given (inside_state s) → run.Asked κs (s, b)
run_asks κs s b g = g

pub free_share_one : (κs : _) (a : _) (r r' : _) (s s' : _) → free_share.Learnt κs a r s → free_share.Learnt κs a r' s' → r ≡ r'
free_share_one κs a r r' s s' p q = one p q

pub free_share_asks : (κs : _) (s : OutState) (b : _) → Given (inside_state s) → free_share.Asked κs (s, b)
free_share_asks κs s b g = g
