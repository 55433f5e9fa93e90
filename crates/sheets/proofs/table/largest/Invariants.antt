use Rattle.std.proofs.Common.{◌≡◌, ◌<◌, cond}
use Rattle.prelude.specs.Scan.{greatest}
use Rattle.runs.specs.Sheet.{inUse}
use Rattle.runs.specs.Runs.{sheet_at, run_at}
use Rattle.sheets.specs.View.{sheets_of}
use Rattle.sheets.proofs.table.largest.Given as goal

-- the greatest number so far of those in use, which the number of an erased page is not
abbrev pub invariant-loop-s : goal.invariant-loop-s
invariant-loop-s l =
    (l.best < 4294967295) × (l.best ≡ greatest l.s-index (λ j. cond (inUse (sheet_at (sheets_of l.t) j)) (run_at (sheets_of l.t) j) 0))
