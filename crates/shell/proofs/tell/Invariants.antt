use Rattle.std.proofs.Common.{length}
use Rattle.shell.specs.Shell.{Good}
use Rattle.shell.specs.Reached.{Fed}
use Rattle.shell.proofs.tell.Given as goal

abbrev pub invariant-loop : goal.invariant-loop
invariant-loop g l = record { good : Good g.T.Telling (length l.buf) l.s; fed : Fed g.T.Telling l.buf l.s }
