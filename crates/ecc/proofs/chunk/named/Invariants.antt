use Rattle.ecc.proofs.Marks.{Naming}
use Rattle.ecc.proofs.chunk.named.Given as goal

-- a has the address bits below i, and p is the weight of the next.
abbrev pub invariant-loop-i : goal.invariant-loop-i
invariant-loop-i l = Naming l.x l.i l.p l.a
