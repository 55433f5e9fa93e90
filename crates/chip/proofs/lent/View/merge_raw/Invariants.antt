use Prim.Native.Nat.{◌-◌}
use Rattle.cache.specs.View.{sizes_of}
use Rattle.chip.specs.Chip.{Facing}
use Rattle.chip.proofs.Merging.{MergedTo}
use Rattle.chip.proofs.lent.View.merge_raw.Given as goal

abbrev pub invariant-loop-o : goal.invariant-loop-o
invariant-loop-o l =
    Facing (sizes_of l.self.sizes) l.b.0 l.self.flash.now l.stretch
    × MergedTo (sizes_of l.self.sizes) l.b.0 l.self.flash.now l.initial.stretch l.v l.o l.stretch

abbrev pub decreases-loop-o : goal.decreases-loop-o
decreases-loop-o l = l.k - l.o
