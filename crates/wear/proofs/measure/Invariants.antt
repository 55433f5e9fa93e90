use Rattle.wear.proofs.Pass.{Passed}
use Rattle.wear.proofs.measure.Given as goal

-- the figures of the entries so far, the sum of squares modulo 2^64
abbrev pub invariant-loop-x : goal.invariant-loop-x
invariant-loop-x l = Passed l.wear l.total l.squares l.largest l.x-index
