use Rattle.std.proofs.Common.{◌≡◌, ℕ, ◌<◌, get_or}
use Rattle.sheets.proofs.Reading.{blank}
use Rattle.sheets.proofs.table.counts.Given as goal

-- no sheet so far has the run number
abbrev pub invariant-loop-before : goal.invariant-loop-before
invariant-loop-before l = (j : ℕ) → j < l.before-index → (get_or l.t j blank).run ≡ l.s.run → ⊥
