use Rattle.std.proofs.Common.{◌≡◌, ◌≤◌, ◌&&◌, eqb}
use Rattle.prelude.specs.Scan.{count}
use Rattle.prelude.proofs.Scan.{Missed}
use Rattle.runs.specs.Runs.{counts}
use Rattle.sheets.specs.View.{sheets_of}
use Rattle.sheets.proofs.table.position.Given as goal

-- so many sheets before i count, and none of them has n that count before it
abbrev pub invariant-loop-i : goal.invariant-loop-i
invariant-loop-i l =
    (l.seen ≤ l.i) × (l.seen ≡ count l.i (counts (sheets_of l.t)))
    × Missed (λ j. counts (sheets_of l.t) j && eqb (count j (counts (sheets_of l.t))) l.n) l.i
