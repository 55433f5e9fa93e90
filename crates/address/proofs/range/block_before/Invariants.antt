use mathlib.Core.Path.{◌≡◌}
use Prim.Native.Nat.{◌+◌, ◌-◌, ◌*◌, ◌<◌}
use Rattle.address.proofs.range.block_before.Given as goal

-- so far: first is the first page of block b, and n lies before the block's end
abbrev pub invariant-loop-first : goal.invariant-loop-first
invariant-loop-first l = (l.first ≡ l.b * l.k) × (l.b < 262144) × (l.n.0 < l.first + l.k)

abbrev pub decreases-loop-first : goal.decreases-loop-first
decreases-loop-first l = l.first - l.n.0
