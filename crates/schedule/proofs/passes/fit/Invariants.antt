use Rattle.rules.specs.Threads.{contends}
use Rattle.rules.specs.Fitting.{fit_in, fitted}
use Rattle.promises.specs.Tables.{Changed, Lead, Leads}
use Rattle.schedule.proofs.passes.fit.Given as goal

-- the first i threads fit, and chosen and best are the earliest of them
abbrev pub invariant-loop-i : goal.invariant-loop-i
invariant-loop-i l = record {
  fit : Changed (fit_in l.initial.s) l.initial.s l.i l.s;
  first : Lead contends (fitted l.initial.s).threads l.i l.chosen;
  led : Leads (fitted l.initial.s).threads l.i l.best;
}
