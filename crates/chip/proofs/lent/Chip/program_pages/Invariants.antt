use mathlib.Core.Path.{◌≡◌}
use Rattle.cache.specs.View.{sizes_of}
use Rattle.chip.specs.Loan.{IsSameLoan}
use Rattle.chip.proofs.Operations.{ProgrammedOn}
use Rattle.chip.proofs.lent.Chip.program_pages.Given as goal

abbrev pub invariant-loop-o : goal.invariant-loop-o
invariant-loop-o l = let old = l.initial.self in
    IsSameLoan old l.self × (l.self.wear.now ≡ old.wear.now)
    × ProgrammedOn (sizes_of old.sizes) l.b.0 l.stretch old.flash.now old.codes.now old.marks.now l.o l.self.flash.now l.self.codes.now
    l.self.marks.now
