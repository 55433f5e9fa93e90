use Rattle.std.proofs.Common.{◌≡◌, take, replicate}
use Rattle.perform.proofs.memory.fill.Given as goal

-- the items so far are the value
abbrev pub invariant-loop-item : goal.invariant-loop-item
invariant-loop-item g l = take l.item-index l.items ≡ replicate l.item-index l.value
