-- "Any two outcomes it allows are proved to be one", and what it asks, of the calls of the listing.
-- κs: lifetimes; a: what is passed; r: the answer; s: what is lent, at the end.
use Rattle.std.specs.Prelude.{◌≡◌}
use Rattle.windows.specs.Advance.{Progress, GivenProgress}
use Rattle.settled.specs.One.{one}
use Rattle.listing.proofs.begin.Reads as begin
use Rattle.listing.proofs.advance.Reads as advance

pub begin_one : (κs : _) (a : _) (r r' : _) (s s' : _) → begin.Learnt κs a r s → begin.Learnt κs a r' s' → r ≡ r'
begin_one κs a r r' s s' p q = one p q

pub begin_asks : (κs : _) (a : _) → begin.Asked κs a
begin_asks κs a = tt

-- the answer and the lent output
pub advance_one : (κs : _) (a : _) (r r' : _) (s s' : _) → advance.Learnt κs a r s → advance.Learnt κs a r' s' → (r ≡ r') × (s.1.1.1.0.now ≡ s'.1.1.1.0.now)
advance_one κs a r r' s s' p q = (one p.0 q.0, one p.1.0 q.1.0)

pub advance_asks : (κs : _) (w : _) (last : _) (p : Progress) (b : _) → GivenProgress p → advance.Asked κs (w, (last, (p, b)))
advance_asks κs w last p b g = g
