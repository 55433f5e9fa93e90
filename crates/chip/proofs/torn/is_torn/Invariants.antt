use mathlib.Core.Path.{◌≡◌}
use Prim.Native.Nat.{◌+◌}
use lib.Dec.{eqb}
use lib.ListN.{get_or}
use Rattle.prelude.specs.Scan.{all}
use Rattle.chip.proofs.torn.is_torn.Given as goal

-- the marks looked at so far are all 0, or not
abbrev pub invariant-loop-o : goal.invariant-loop-o
invariant-loop-o l = l.whole ≡ all l.o (λ i. eqb (get_or l.marks (l.at + i) 0) 0)
