use Rattle.std.proofs.Common.{◌≤◌}
use Rattle.histories.proofs.spoilt.shelved.Given as goal

abbrev pub invariant-loop-i : goal.invariant-loop-i
invariant-loop-i l = l.count ≤ l.i
