use mathlib.Core.Path.{◌≡◌}
use Prim.Native.Nat.{◌-◌}
use Rattle.cache.specs.View.{sizes_of, directory_of}
use Rattle.chip.specs.Loan.{IsSameLoan, buffers_of}
use Rattle.flushes.proofs.Flushing.{Underway}
use Rattle.flushes.proofs.clean_all.Given as goal

-- the steps done and those still due are together the whole flush, in numbers and in pages; no cached block is worn, and what is still to
-- be merged meets no refusal
abbrev pub invariant-loop-due : goal.invariant-loop-due
invariant-loop-due l = let old = l.initial.chip in
    IsSameLoan old l.chip × Underway (sizes_of old.sizes) (directory_of l.initial.directory) (buffers_of old l.pspace l.initial.bspace)
    l.mends l.ops (directory_of l.directory) (buffers_of l.chip l.pspace l.bspace) l.done.rewrites l.done.merged l.left
    × (l.done.mends ≡ l.mends) × (l.directory.recency ≡ l.initial.directory.recency)

abbrev pub decreases-loop-due : goal.decreases-loop-due
decreases-loop-due l = l.z.blocks - l.done.rewrites
