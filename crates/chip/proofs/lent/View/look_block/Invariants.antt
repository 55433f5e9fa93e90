use Rattle.cache.specs.View.{sizes_of}
use Rattle.chip.proofs.Looking.{LookedTo}
use Rattle.chip.proofs.lent.View.look_block.Given as goal

abbrev pub invariant-loop-o : goal.invariant-loop-o
invariant-loop-o l = LookedTo (sizes_of l.self.sizes) l.self.flash.now l.self.codes.now l.self.marks.now l.b.0 l.v l.o l.seen
