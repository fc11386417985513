-- The kinds of records by their numbers, and what a body of each says.
use Rattle.std.specs.Prelude.{List, ℕ, cond, eqb, Result, Ok, Err}
use Rattle.rules.specs.Records.{Decoded, sized, le16, le32, moment}
use Rattle.rules.specs.Records as records
use Rattle.rules.specs.Refusals.{Refusal, UnknownKind}
use Rattle.trace.specs.declared.Kind.{Kind}
use Rattle.trace.specs.declared.Kind.TheVariants.{Head, Row, Arrival, Completion, RunTo, Drop}

abbrev pub kind_of : ℕ → Result Kind Refusal
kind_of n =
    cond (eqb n 1) (Ok Head)
    (cond (eqb n 2) (Ok Row)
    (cond (eqb n 3) (Ok Arrival)
    (cond (eqb n 4) (Ok Completion)
    (cond (eqb n 5) (Ok RunTo)
    (cond (eqb n 6) (Ok Drop)
    (Err UnknownKind))))))

abbrev pub body_said : Kind → List ℕ → Decoded
body_said Head b = sized 6 b (records.Head (le16 b 0) (le16 b 2))
body_said Row b = sized 10 b (records.Row (record { app = le16 b 0; share = le16 b 2; period = le32 b 4 }))
body_said Arrival b = sized 8 b (records.Arrival (moment (le32 b 0)) (le16 b 4))
body_said Completion b = sized 8 b (records.Completion (moment (le32 b 0)) (le16 b 4))
body_said RunTo b = sized 6 b (records.RunTo (moment (le32 b 0)))
body_said Drop b = sized 8 b (records.Drop (moment (le32 b 0)) (le16 b 4))
