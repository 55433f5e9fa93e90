use Rattle.std.proofs.Common.{◌-◌, ◌≤◌}
use Rattle.cache.specs.View.{sizes_of, directory_of}
use Rattle.moves.proofs.Offset.{Gathered}
use Rattle.moves.proofs.join.offsets.Given as goal

-- v has old's offsets and those of block b's pages in the slots before at
abbrev pub invariant-loop-i : goal.invariant-loop-i
invariant-loop-i l = (l.at ≤ l.z.slots) × Gathered (sizes_of l.z) (directory_of l.directory) l.b.0 l.old l.at l.v

abbrev pub decreases-loop-i : goal.decreases-loop-i
decreases-loop-i l = l.z.slots - l.at
