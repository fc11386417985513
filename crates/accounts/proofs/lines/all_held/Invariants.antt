use Rattle.std.proofs.Common.{◌+◌, ◌*◌, ◌≤◌}
use Rattle.text.specs.Put.{Put}
use Rattle.text.specs.Wide.{wide}
use Rattle.accounts.specs.Lines.{held_lines}
use Rattle.accounts.proofs.lines.all_held.Given as goal

-- the lines of the applications below a are put
abbrev pub invariant-loop-a : goal.invariant-loop-a
invariant-loop-a l = record {
  short : l.used ≤ l.from + l.a * wide;
  put : Put l.initial.out l.from (held_lines l.t l.how l.until.0 l.cs l.a) l.out l.used;
}
