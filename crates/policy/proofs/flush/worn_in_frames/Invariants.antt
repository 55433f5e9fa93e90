use Rattle.std.proofs.Common.{◌≡◌}
use Rattle.prelude.specs.Scan.{least}
use Rattle.cache.specs.View.{sizes_of, directory_of}
use Rattle.policy.proofs.Lowest.{frame_worn}
use Rattle.policy.proofs.flush.worn_in_frames.Given as goal

-- low is the lowest worn block of the frames before the one at hand, or the number of blocks
abbrev pub invariant-loop-b : goal.invariant-loop-b
invariant-loop-b l = l.low ≡ least l.b-index (frame_worn (sizes_of l.z) (directory_of l.directory) l.wear) l.z.blocks
