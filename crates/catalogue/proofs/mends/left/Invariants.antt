use Rattle.std.proofs.Common.{◌≡◌}
use Rattle.catalogue.specs.Kinds.{left_mends}
use Rattle.catalogue.proofs.mends.left.Given as goal

-- the sheets below i are counted
abbrev pub invariant-loop-i : goal.invariant-loop-i
invariant-loop-i l = l.sum ≡ left_mends l.i l.k l.b.0 l.at l.m
