use Rattle.std.proofs.Common.{◌≤◌, ◌+◌}
use Rattle.histories.proofs.compare.line_of.Given as goal

abbrev pub invariant-loop-i : goal.invariant-loop-i
invariant-loop-i l = (l.start ≤ l.i) × (l.number ≤ l.i + 1)
