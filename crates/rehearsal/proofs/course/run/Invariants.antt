use mathlib.Core.Path.{◌≡◌}
use Rattle.store.specs.View.{plain_lent, store_of}
use Rattle.rehearsal.specs.Class.{scene, blank_class, rehearsed}
use Rattle.rehearsal.proofs.Seats.{Same}
use Rattle.rehearsal.proofs.course.run.Given as goal

-- class and store are those after the turns so far, by the definition
abbrev pub invariant-loop-t : goal.invariant-loop-t
invariant-loop-t l = Same l.flash l.wear l.pspace l.bspace l.page l.initial.flash l.initial.wear l.initial.pspace l.initial.bspace
    l.initial.page
    × (scene l.class (store_of l.cache (plain_lent l.flash l.wear l.pspace l.bspace)) ≡ rehearsed l.z l.t
    (scene (blank_class l.z.state) (store_of l.initial.cache (plain_lent l.initial.flash l.initial.wear l.initial.pspace
    l.initial.bspace))))
