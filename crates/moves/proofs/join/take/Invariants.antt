use Rattle.std.proofs.Common.{◌≡◌, ◌-◌, ◌≤◌, length}
use Rattle.cache.specs.View.{sizes_of, directory_of}
use Rattle.moves.proofs.Taking.{Taking}
use Rattle.moves.proofs.join.take.Given as goal

-- the slots before at are done: block b's pages among them are in the stretch, their offsets in v, and their slots vacant; and of the
-- directory nothing else has changed
abbrev pub invariant-loop-i : goal.invariant-loop-i
invariant-loop-i l =
    (l.at ≤ l.z.slots) × (length l.frame ≡ length l.initial.frame)
    × Taking (sizes_of l.z) (directory_of l.initial.directory) l.pspace l.initial.frame l.b.0 l.initial.v l.at l.frame l.v
    (directory_of l.directory).slots
    × (l.directory ≡ record l.initial.directory { slots = l.directory.slots })

abbrev pub decreases-loop-i : goal.decreases-loop-i
decreases-loop-i l = l.z.slots - l.at
