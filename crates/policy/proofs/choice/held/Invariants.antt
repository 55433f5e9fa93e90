use Rattle.std.proofs.Common.{◌≡◌}
use Rattle.prelude.specs.Bits.{mask}
use Rattle.model.specs.Policy.{occupied}
use Rattle.cache.specs.View.{directory_of}
use Rattle.policy.proofs.choice.held.Given as goal

-- the occupied frames before f
abbrev pub invariant-loop-f : goal.invariant-loop-f
invariant-loop-f l = l.among ≡ mask l.f (occupied (directory_of l.directory))
