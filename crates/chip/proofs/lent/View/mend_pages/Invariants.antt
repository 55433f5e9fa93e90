use Rattle.cache.specs.View.{sizes_of}
use Rattle.chip.specs.Chip.{CodesFacing}
use Rattle.chip.proofs.Merging.{MendedTo}
use Rattle.chip.proofs.lent.View.mend_pages.Given as goal

abbrev pub invariant-loop-o : goal.invariant-loop-o
invariant-loop-o l =
    CodesFacing (sizes_of l.self.sizes) l.b.0 l.self.flash.now l.self.codes.now l.stretch
    × MendedTo (sizes_of l.self.sizes) l.b.0 l.self.flash.now l.self.codes.now l.initial.stretch l.w l.o l.stretch
