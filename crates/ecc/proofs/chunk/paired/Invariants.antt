use mathlib.Core.Path.{◌≡◌}
use Rattle.prelude.specs.Scan.{all}
use Rattle.ecc.proofs.Marks.{pair_at}
use Rattle.ecc.proofs.chunk.paired.Given as goal

-- ok says that one bit of each pair below i differs.
abbrev pub invariant-loop-i : goal.invariant-loop-i
invariant-loop-i l = l.ok ≡ all l.i (pair_at l.x)
