-- "Any two outcomes it allows are proved to be one", of the functions that put lines: the answer and the lent slice; and they ask nothing.
-- κs: lifetimes; a: what is passed; r: the answer; s: what is lent, at the end.
use Rattle.std.specs.Prelude.{◌≡◌}
use Rattle.settled.specs.One.{one}
use Rattle.text.proofs.heading.Reads as heading
use Rattle.text.proofs.granted.Reads as granted
use Rattle.text.proofs.idle.Reads as idle
use Rattle.text.proofs.refusal.Reads as refusal
use Rattle.text.proofs.end.Reads as end
use Rattle.text.proofs.report.report_heading.Reads as report_heading
use Rattle.text.proofs.report.stretch.Reads as stretch

pub heading_one : (κs : _) (a : _) (r r' : _) (s s' : _) → heading.Learnt κs a r s → heading.Learnt κs a r' s' → (r ≡ r') × (s.0.now ≡ s'.0.now)
heading_one κs a r r' s s' p q = (one p.0 q.0, one p.1 q.1)

pub heading_asks : (κs : _) (a : _) → heading.Asked κs a
heading_asks κs a = tt

pub granted_one : (κs : _) (a : _) (r r' : _) (s s' : _) → granted.Learnt κs a r s → granted.Learnt κs a r' s' → (r ≡ r') × (s.0.now ≡ s'.0.now)
granted_one κs a r r' s s' p q = (one p.0 q.0, one p.1 q.1)

pub granted_asks : (κs : _) (a : _) → granted.Asked κs a
granted_asks κs a = tt

pub idle_one : (κs : _) (a : _) (r r' : _) (s s' : _) → idle.Learnt κs a r s → idle.Learnt κs a r' s' → (r ≡ r') × (s.0.now ≡ s'.0.now)
idle_one κs a r r' s s' p q = (one p.0 q.0, one p.1 q.1)

pub idle_asks : (κs : _) (a : _) → idle.Asked κs a
idle_asks κs a = tt

pub refusal_one : (κs : _) (a : _) (r r' : _) (s s' : _) → refusal.Learnt κs a r s → refusal.Learnt κs a r' s' → (r ≡ r') × (s.0.now ≡ s'.0.now)
refusal_one κs a r r' s s' p q = (one p.0 q.0, one p.1 q.1)

pub refusal_asks : (κs : _) (a : _) → refusal.Asked κs a
refusal_asks κs a = tt

pub end_one : (κs : _) (a : _) (r r' : _) (s s' : _) → end.Learnt κs a r s → end.Learnt κs a r' s' → (r ≡ r') × (s.0.now ≡ s'.0.now)
end_one κs a r r' s s' p q = (one p.0 q.0, one p.1 q.1)

pub end_asks : (κs : _) (a : _) → end.Asked κs a
end_asks κs a = tt

pub report_heading_one : (κs : _) (a : _) (r r' : _) (s s' : _) → report_heading.Learnt κs a r s → report_heading.Learnt κs a r' s' → (r ≡ r') × (s.0.now ≡ s'.0.now)
report_heading_one κs a r r' s s' p q = (one p.0 q.0, one p.1 q.1)

pub report_heading_asks : (κs : _) (a : _) → report_heading.Asked κs a
report_heading_asks κs a = tt

pub stretch_one : (κs : _) (a : _) (r r' : _) (s s' : _) → stretch.Learnt κs a r s → stretch.Learnt κs a r' s' → (r ≡ r') × (s.0.now ≡ s'.0.now)
stretch_one κs a r r' s s' p q = (one p.0 q.0, one p.1 q.1)

pub stretch_asks : (κs : _) (a : _) → stretch.Asked κs a
stretch_asks κs a = tt
