use Rattle.rules.specs.Completion.{takes}
use Rattle.promises.specs.Tables.{Lead}
use Rattle.threads.proofs.receiving.find_receiver.Given as goal

-- best is the earliest of the first i threads that may receive
abbrev pub invariant-loop-i : goal.invariant-loop-i
invariant-loop-i l = Lead (takes l.x) l.s.threads l.i l.best
