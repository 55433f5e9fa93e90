use Rattle.std.proofs.Common.{refl}
use Rattle.prelude.specs.Scan.{tab, tab_from}
use Rattle.model.specs.Directory.{vacant_directory}
use Rattle.cache.specs.View.{directory_of}
use Rattle.cache.proofs.Directory.vacant.Goals as goal

pub returns : goal.returns
unfolding directory_of vacant_directory tab tab_from
returns c = refl
