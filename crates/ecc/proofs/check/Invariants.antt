use Rattle.ecc.proofs.Checking.{Checking}
use Rattle.ecc.proofs.check.Given as goal

-- The chunks below i can be read, and n counts those that differ; the first that cannot ends the loop.
abbrev pub invariant-loop-i : goal.invariant-loop-i
invariant-loop-i l = Checking l.m l.page l.codes l.i l.n
