use mathlib.Core.Path.{◌≡◌}
use mathlib.Core.Bool.{Bool, not}
use mathlib.Core.List.{List}
use Prim.Native.Nat.{ℕ, ◌+◌, ◌*◌, ◌≤◌}
use lib.Dec.{eqb}
use lib.ListN.{get_or}
use Rattle.prelude.specs.Scan.{count, all}
use Rattle.chip.proofs.torn.count_marks.Given as goal

-- a mark of block b, of k pages, is not 0
abbrev pub block_torn : ℕ → List ℕ → ℕ → Bool
block_torn k marks b = not (all k (λ o. eqb (get_or marks (b * k + o) 0) 0))

-- so many of the blocks before b are torn
abbrev pub invariant-loop-b : goal.invariant-loop-b
invariant-loop-b l = (l.torn ≤ l.b) × (l.torn ≡ count l.b (block_torn l.z.pages_per_block l.marks))
