use Rattle.std.proofs.Common.{arith}
use Rattle.cache.specs.View.{sizes_of, directory_of}
use Rattle.policy.proofs.Lowest.{lowest_lt}
use Rattle.policy.proofs.flush.lowest_in_slots.Goals as goal

pub returns-clause-within : goal.returns-clause-within
returns-clause-within c =
    let low = lowest_lt (sizes_of c.args.z) (directory_of c.args.directory.now) c.requires in
    grind (arith, low)
