use Rattle.std.proofs.Common.{◌≡◌, ◌-◌, ◌≤◌, length}
use Rattle.cache.specs.View.{sizes_of, directory_of}
use Rattle.moves.proofs.Swap.{Swapping}
use Rattle.moves.proofs.exchange.swap.Given as goal

-- the slots before at have changed places with the frame's pages as the model says, and the search for old pages goes on at from; of the
-- directory nothing but slots has changed
abbrev pub invariant-loop-i : goal.invariant-loop-i
invariant-loop-i l =
    (l.at ≤ l.z.slots) × (length l.pspace ≡ length l.initial.pspace) × (length l.frame ≡ length l.initial.frame)
    × Swapping (sizes_of l.z) (directory_of l.initial.directory) l.initial.pspace l.initial.frame l.b.0 l.f l.at l.pspace l.frame l.from
    (directory_of l.directory).slots
    × (l.directory ≡ record l.initial.directory { slots = l.directory.slots })

abbrev pub decreases-loop-i : goal.decreases-loop-i
decreases-loop-i l = l.z.slots - l.at
