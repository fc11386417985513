use Rattle.std.proofs.Common.{sym, subst}
use Rattle.rules.specs.Table.{Answered}
use Rattle.rules.specs.Calls as calls
use Rattle.rules.specs.Calls.{Given}
use Rattle.promises.specs.Always.{given_by}
use Rattle.limits.proofs.calls.completion.Goals as goal

pub event-requires-clause-given : goal.event-requires-clause-given
event-requires-clause-given g c = λ r h. subst (λ (a : Answered). Given a.state) (sym h.1) (given_by c.requires (calls.complete _))
