use mathlib.Core.Path.{◌≡◌}
use mathlib.Core.Bool.{cond}
use lib.Dec.{ltb, eqb}
use lib.ListN.{get_or}
use Rattle.prelude.specs.Scan.{all}
use Rattle.model.specs.Sizes.{vacant}
use Rattle.shelf.proofs.run_ok.Given as goal

abbrev pub invariant-loop-i : goal.invariant-loop-i
invariant-loop-i l = l.ok ≡ all l.i (λ j. cond (ltb j l.k) (ltb (get_or l.entries j 0) l.pages) (eqb (get_or l.entries j 0) vacant))
