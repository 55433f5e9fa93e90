use Rattle.std.proofs.Common.{◌-◌}
use Rattle.moves.proofs.Recency.{Shifted}
use Rattle.moves.proofs.numbers.touch.Given as goal

-- the frames after f in the order, before j, have moved down by one
abbrev pub invariant-loop-j : goal.invariant-loop-j
invariant-loop-j l = Shifted l.initial.order l.at (l.j - 1) l.order
