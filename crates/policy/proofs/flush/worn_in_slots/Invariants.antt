use Rattle.std.proofs.Common.{◌≡◌}
use Rattle.prelude.specs.Scan.{least}
use Rattle.cache.specs.View.{sizes_of, directory_of}
use Rattle.policy.proofs.Lowest.{slot_worn}
use Rattle.policy.proofs.flush.worn_in_slots.Given as goal

-- low is the lowest worn block with a page in a slot before the one at hand, or the number of blocks
abbrev pub invariant-loop-n : goal.invariant-loop-n
invariant-loop-n l = l.low ≡ least l.n-index (slot_worn (sizes_of l.z) (directory_of l.directory) l.wear) l.z.blocks
