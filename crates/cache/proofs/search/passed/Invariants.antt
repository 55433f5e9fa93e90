use Rattle.std.proofs.Common.{◌-◌, ◌≤◌}
use Rattle.cache.specs.Among.{Clear}
use Rattle.cache.specs.View.{page_numbers}
use Rattle.cache.proofs.search.passed.Given as goal

-- no slot from i on, before at, has one of the numbers looked for
abbrev pub invariant-loop-at : goal.invariant-loop-at
invariant-loop-at l = (l.i ≤ l.at) × Clear l.x l.k (page_numbers l.slots) l.i l.at

abbrev pub decreases-loop-at : goal.decreases-loop-at
decreases-loop-at l = l.end - l.at
