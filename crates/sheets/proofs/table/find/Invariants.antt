use Rattle.std.proofs.Common.{◌&&◌, eqb}
use Rattle.prelude.proofs.Scan.{Missed}
use Rattle.runs.specs.Sheet.{inUse}
use Rattle.runs.specs.Runs.{sheet_at, run_at}
use Rattle.sheets.specs.View.{sheets_of}
use Rattle.sheets.proofs.table.find.Given as goal

-- no sheet before i is in use with this run number
abbrev pub invariant-loop-i : goal.invariant-loop-i
invariant-loop-i l = Missed (λ j. inUse (sheet_at (sheets_of l.t) j) && eqb (run_at (sheets_of l.t) j) l.run) l.i
