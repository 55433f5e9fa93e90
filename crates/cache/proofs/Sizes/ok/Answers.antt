use Rattle.prelude.proofs.Tests.{chain-every}
use Rattle.model.specs.Sizes.{sizes_ok}
use Rattle.cache.proofs.Sizes.ok.Goals as goal

pub returns : goal.returns
unfolding sizes_ok
returns c = chain-every _
