use mathlib.Core.Path.{◌≡◌}
use lib.Dec.{eqb}
use lib.ListN.{get_or}
use Rattle.prelude.specs.Scan.{all}
use Rattle.model.specs.Sizes.{vacant}
use Rattle.shelf.proofs.none_used.Given as goal

-- so far each entry is vacant, or one is not
abbrev pub invariant-loop-e : goal.invariant-loop-e
invariant-loop-e l = l.ok ≡ all l.e-index (λ j. eqb (get_or l.entries j 0) vacant)
