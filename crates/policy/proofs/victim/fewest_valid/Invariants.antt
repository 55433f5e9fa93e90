use Rattle.std.proofs.Common.{◌≡◌, suc}
use Rattle.prelude.specs.Scan.{least}
use Rattle.model.specs.Policy.{valid_count}
use Rattle.cache.specs.View.{sizes_of, directory_of}
use Rattle.policy.proofs.victim.fewest_valid.Given as goal

-- fewest is the least number of valid pages among the frames before f
abbrev pub invariant-loop-pages : goal.invariant-loop-pages
invariant-loop-pages l =
    l.fewest ≡ least l.pages-index (valid_count (sizes_of l.fn.z) (directory_of l.directory)) (suc l.fn.z.pages_per_block)
