use lib.Dec.{eqb}
use lib.ListN.{get_or}
use Rattle.prelude.proofs.Scan.{Missed}
use Rattle.model.specs.Sizes.{vacant}
use Rattle.shelf.proofs.used.Given as goal

abbrev pub invariant-loop-i : goal.invariant-loop-i
invariant-loop-i l = Missed (λ j. eqb (get_or l.entries j vacant) vacant) l.i
