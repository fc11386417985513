-- "Any two outcomes it allows are proved to be one", and what it asks, of the public functions that read a trace.
-- κs: lifetimes; a: what is passed; r: the answer, or in `-asks` a reading; s: what is lent, at the end.
use Rattle.std.specs.Prelude.{◌≡◌}
use Rattle.std.proofs.Common.{ap}
use Rattle.rules.specs.Reading.{Reading}
use Rattle.rules.specs.Input.{GivenReading, InputRead}
use Rattle.promises.specs.Numbers.{answer_settles, said_settles, reading_settles, input_settles}
use Rattle.trace.proofs.frame.Reads as frame
use Rattle.trace.proofs.decode.Reads as decode
use Rattle.reader.proofs.begin.Reads as begin
use Rattle.reader.proofs.due.Reads as due
use Rattle.reader.proofs.record.Reads as reads-record
use Rattle.reader.proofs.read.Reads as read
use Rattle.reader.proofs.ended.Reads as ended
use Rattle.reader.proofs.input.Reads as input
use Rattle.settled.specs.One.{one}

pub frame_one : (κs : _) (a : _) (r r' : _) (s s' : _) → frame.Learnt κs a r s → frame.Learnt κs a r' s' → r ≡ r'
frame_one κs a r r' s s' p q = one p.0 q.0

pub frame_asks : (κs : _) (a : _) → frame.Asked κs a
frame_asks κs a = tt

pub decode_one : (κs : _) (a : _) (r r' : _) (s s' : _) → decode.Learnt κs a r s → decode.Learnt κs a r' s' → r ≡ r'
decode_one κs a r r' s s' p q = said_settles r r' (one p q)

pub decode_asks : (κs : _) (a : _) → decode.Asked κs a
decode_asks κs a = tt

pub begin_one : (κs : _) (a : _) (r r' : _) (s s' : _) → begin.Learnt κs a r s → begin.Learnt κs a r' s' → r ≡ r'
begin_one κs a r r' s s' p q = one p q

pub begin_asks : (κs : _) (a : _) → begin.Asked κs a
begin_asks κs a = tt

pub due_one : (κs : _) (a : _) (r r' : _) (s s' : _) → due.Learnt κs a r s → due.Learnt κs a r' s' → r ≡ r'
due_one κs a r r' s s' p q = one p q

pub due_asks : (κs : _) (r : Reading) (b : _) → GivenReading r → due.Asked κs (r, b)
due_asks κs r b g = g

pub record_one : (κs : _) (a : _) (r r' : _) (s s' : _) → reads-record.Learnt κs a r s → reads-record.Learnt κs a r' s' → r ≡ r'
record_one κs a r r' s s' p q = reading_settles a.0 r r' (one p q)

pub record_asks : (κs : _) (r : Reading) (b : _) → GivenReading r → reads-record.Asked κs (r, b)
record_asks κs r b g = g

pub read_one : (κs : _) (a : _) (r r' : _) (s s' : _) → read.Learnt κs a r s → read.Learnt κs a r' s' → r ≡ r'
read_one κs a r r' s s' p q = reading_settles a.0 r r' (one p q)

pub read_asks : (κs : _) (r : Reading) (b : _) → GivenReading r → read.Asked κs (r, b)
read_asks κs r b g = g

pub ended_one : (κs : _) (a : _) (r r' : _) (s s' : _) → ended.Learnt κs a r s → ended.Learnt κs a r' s' → r ≡ r'
ended_one κs a r r' s s' p q = answer_settles r r' (ap (λ (x : InputRead). x.answer) (one (p 0) (q 0)))

pub ended_asks : (κs : _) (a : _) → ended.Asked κs a
ended_asks κs a = tt

pub input_one : (κs : _) (a : _) (r r' : _) (s s' : _) → input.Learnt κs a r s → input.Learnt κs a r' s' → r ≡ r'
input_one κs a r r' s s' p q = input_settles r r' (one p q)

pub input_asks : (κs : _) (a : _) → input.Asked κs a
input_asks κs a = tt
