use Rattle.std.proofs.Common.{◌≡◌}
use Rattle.prelude.specs.Scan.{least}
use Rattle.model.specs.Sizes.{vacant}
use Rattle.model.specs.Directory.{slot_at}
use Rattle.cache.specs.View.{directory_of}
use Rattle.policy.proofs.flush.lowest_in_slots.Given as goal

-- low is the least entry of the slots before i
abbrev pub invariant-loop-n : goal.invariant-loop-n
invariant-loop-n l = l.low ≡ least l.n-index (slot_at (directory_of l.directory)) vacant
