use mathlib.Core.Path.{◌≡◌}
use Prim.Native.Nat.{◌≤◌, ◌-◌}
use lib.ListN.{length}
use Rattle.script.specs.Parts.{words_after}
use Rattle.script.proofs.Args.{ReadTo}
use Rattle.script.proofs.read_numbers.Given as goal

-- the words before at are count numbers, which stand in values, and the words after at are still to be read
abbrev pub invariant-loop-at : goal.invariant-loop-at
invariant-loop-at l = (l.at ≤ length l.s)
    × ((l.count ≤ 11) × ((length l.values ≡ 11) × ReadTo (words_after l.s l.from) (words_after l.s l.at) l.count l.values))

abbrev pub decreases-loop-at : goal.decreases-loop-at
decreases-loop-at l = length l.s - l.at
