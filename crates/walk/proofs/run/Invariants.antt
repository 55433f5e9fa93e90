use mathlib.Core.Path.{◌≡◌}
use mathlib.Core.Logic.{◌⊎◌}
use Prim.Native.Nat.{◌-◌, ◌<◌}
use lib.ListN.{length}
use Rattle.store.specs.View.{plain_lent}
use Rattle.interpret.specs.View.{Memory}
use Rattle.walk.specs.Walk.{More, Onward}
use Rattle.walk.proofs.run.Given as goal

-- what is printed and what is left to print are together what they were at the start, and a line was walked if one could be
abbrev pub invariant-loop-r : goal.invariant-loop-r
invariant-loop-r l =
    Memory (plain_lent l.flash l.wear l.pspace l.bspace) l.page × ((length l.out ≡ length l.initial.out)
    × (Onward l.script l.initial.r (plain_lent l.initial.flash l.initial.wear l.initial.pspace l.initial.bspace) l.initial.out l.r
    (plain_lent l.flash l.wear l.pspace l.bspace) l.out
    × (More l.script l.initial.r l.initial.out → (l.initial.r.at < l.r.at) ⊎ More l.script l.r l.out)))

abbrev pub decreases-loop-r : goal.decreases-loop-r
decreases-loop-r l = length l.script - l.r.at
