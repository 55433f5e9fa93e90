use Rattle.std.proofs.Common.{◌≡◌, ◌-◌, ◌≤◌}
use Rattle.model.specs.Sizes.{vacant}
use Rattle.cache.specs.View.{sizes_of, directory_of}
use Rattle.moves.proofs.Regiven.{Regiven}
use Rattle.moves.proofs.join.vacate.Given as goal

-- the slots before at are done, and nothing else has changed
abbrev pub invariant-loop-i : goal.invariant-loop-i
invariant-loop-i l = (l.at ≤ l.z.slots)
    × Regiven (sizes_of l.z) (directory_of l.initial.directory) l.b.0 (λ j. vacant) l.at (directory_of l.directory).slots
    × (l.directory ≡ record l.initial.directory { slots = l.directory.slots })

abbrev pub decreases-loop-i : goal.decreases-loop-i
decreases-loop-i l = l.z.slots - l.at
