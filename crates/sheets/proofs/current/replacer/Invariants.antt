use Rattle.std.proofs.Common.{◌≡◌, cond}
use Rattle.prelude.specs.Scan.{greatest}
use Rattle.runs.specs.Runs.{run_at}
use Rattle.runs.specs.Current.{replaces}
use Rattle.sheets.specs.View.{sheets_of}
use Rattle.sheets.proofs.current.replacer.Given as goal

-- the highest run so far of those that replace this one
abbrev pub invariant-loop-i : goal.invariant-loop-i
invariant-loop-i l = l.best ≡ greatest l.i (λ j. cond (replaces (sheets_of l.t) l.run j) (run_at (sheets_of l.t) j) 0)
