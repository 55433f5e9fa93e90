use mathlib.Core.Path.{◌≡◌}
use lib.Dec.{leb}
use lib.ListN.{get_or}
use Rattle.prelude.specs.Scan.{all}
use Rattle.lent.proofs.wear_ok.Given as goal

abbrev pub invariant-loop-w : goal.invariant-loop-w
invariant-loop-w l = l.ok ≡ all l.w-index (λ i. leb (get_or l.wear i 0) l.limit)
