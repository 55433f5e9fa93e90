use Rattle.cache.specs.View.{sizes_of, directory_of}
use Prim.Native.Nat.{◌-◌, ◌≤◌}
use Rattle.sound.proofs.Parts.{Tested}
use Rattle.sound.proofs.slots_ok.Given as goal

-- the slots before i are as they should be, and the filter has their pages beside the frames' valid pages
abbrev pub invariant-loop-j : goal.invariant-loop-j
invariant-loop-j l = record {
  within : l.i ≤ l.fn.sizes.slots;
  tested : Tested (sizes_of l.fn.sizes) (directory_of l.directory) l.i l.seen;
}

abbrev pub decreases-loop-j : goal.decreases-loop-j
decreases-loop-j l = l.fn.sizes.slots - l.i
