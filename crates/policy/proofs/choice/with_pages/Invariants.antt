use Rattle.std.proofs.Common.{◌≡◌, eqb}
use Rattle.prelude.specs.Bits.{mask}
use Rattle.model.specs.Policy.{valid_count}
use Rattle.cache.specs.View.{sizes_of, directory_of}
use Rattle.policy.proofs.choice.with_pages.Given as goal

-- the frames before f with v valid pages
abbrev pub invariant-loop-f : goal.invariant-loop-f
invariant-loop-f l = l.among ≡ mask l.f (λ f. eqb (valid_count (sizes_of l.fn.z) (directory_of l.directory) f) l.v)
