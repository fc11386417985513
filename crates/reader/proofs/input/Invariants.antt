use Rattle.std.proofs.Common.{◌≡◌, ◌-◌, ◌≤◌, length, drop}
use Rattle.rules.specs.Input.{GivenReading, read_input}
use Rattle.windows.specs.Inputs.{read_rest}
use Rattle.reader.proofs.input.Given as goal

-- what the rest gives after the reading so far is what the whole input gives
abbrev pub invariant-loop-reading : goal.invariant-loop-reading
invariant-loop-reading l = (l.at ≤ length l.s) × GivenReading l.reading × (read_rest l.reading l.at (drop l.at l.s) ≡ read_input l.s)

abbrev pub decreases-loop-reading : goal.decreases-loop-reading
decreases-loop-reading l = length l.s - l.at
