use Rattle.prelude.proofs.Scan.{Missed}
use Rattle.runs.specs.Sheet.{is_empty}
use Rattle.runs.specs.Runs.{sheet_at}
use Rattle.sheets.specs.View.{sheets_of}
use Rattle.sheets.proofs.table.first_empty.Given as goal

-- no sheet before i is empty
abbrev pub invariant-loop-i : goal.invariant-loop-i
invariant-loop-i l = Missed (λ j. is_empty (sheet_at (sheets_of l.t) j)) l.i
