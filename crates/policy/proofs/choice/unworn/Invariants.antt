use Rattle.std.proofs.Common.{◌≡◌}
use Rattle.prelude.specs.Bits.{mask}
use Rattle.model.specs.Policy.{evictable}
use Rattle.cache.specs.View.{sizes_of, directory_of}
use Rattle.policy.proofs.choice.unworn.Given as goal

-- the frames before f whose block has wear below W
abbrev pub invariant-loop-f : goal.invariant-loop-f
invariant-loop-f l = l.among ≡ mask l.f (evictable (sizes_of l.fn.z) (directory_of l.directory) l.wear)
