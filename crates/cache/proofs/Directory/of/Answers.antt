use Rattle.cache.specs.View.{directory_of, numbers}
use Rattle.cache.proofs.Directory.of.Goals as goal

pub returns : goal.returns
unfolding directory_of
returns c =
    let a = c.args in
    λ i. numbers (c.page_entries.ensures i) (c.block_entries.ensures i) a.valid a.recency a.uses
