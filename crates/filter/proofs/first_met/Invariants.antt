use Rattle.cache.specs.View.{directory_of}
use Rattle.filter.specs.Passed.{Passed}
use Rattle.filter.proofs.first_met.Given as goal

-- the slots from i on, before j, are passed: none was met, and the filter has their page numbers
abbrev pub invariant-loop-j : goal.invariant-loop-j
invariant-loop-j l = Passed l.end (directory_of l.directory).slots l.i l.j l.fn.seen l.seen
