use Rattle.prelude.proofs.Scan.{Missed}
use Rattle.runs.specs.Ranges.{claims}
use Rattle.sheets.specs.View.{sheets_of}
use Rattle.sheets.proofs.ranges.taken.Given as goal

-- no sheet before i claims one of the pages
abbrev pub invariant-loop-i : goal.invariant-loop-i
invariant-loop-i l = Missed (claims (sheets_of l.t) l.f l.n) l.i
