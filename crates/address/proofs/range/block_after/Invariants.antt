use mathlib.Core.Path.{◌≡◌}
use Prim.Native.Nat.{◌+◌, ◌-◌, ◌*◌, ◌≤◌}
use Rattle.address.proofs.range.block_after.Given as goal

-- so far: b is a block that begins at n or before it, and last is its last page
abbrev pub invariant-loop-last : goal.invariant-loop-last
invariant-loop-last l = (l.last ≡ l.b * l.k + (l.k - 1)) × (l.b * l.k ≤ l.n.0)

abbrev pub decreases-loop-last : goal.decreases-loop-last
decreases-loop-last l = l.n.0 - l.last
