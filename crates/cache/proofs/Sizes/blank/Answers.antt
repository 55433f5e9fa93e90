use Rattle.std.proofs.Common.{refl}
use Rattle.model.specs.Directory.{blank_cache}
use Rattle.cache.proofs.Sizes.blank.Goals as goal

pub returns : goal.returns
unfolding blank_cache
returns c = refl
