use Rattle.ecc.proofs.Mending.{Mending}
use Rattle.ecc.proofs.mend.Given as goal

-- The chunks below i are mended, the others as they were, so that chunk i differs from its code as it did at first.
abbrev pub invariant-loop-i : goal.invariant-loop-i
invariant-loop-i l = Mending l.m l.initial.page l.codes l.i l.page
