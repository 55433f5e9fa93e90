use Rattle.chip.proofs.Merging.{codes-facing_on, mendable, merged-mended, merged-none}
use Rattle.chip.proofs.lent.View.merge.Goals as goal

pub mend_pages-requires : goal.mend_pages-requires
mend_pages-requires c = (codes-facing_on c.requires.0 _ c.merge_raw.auto.stretch, mendable _ _ _ _ _ c.requires.0 _ _ c.requires.1)

pub returns-then-w-ne0 : goal.returns-then-w-ne0
returns-then-w-ne0 c = merged-mended _ _ _ _ _ c.requires.0 _ _ c.requires.1 _ c.merge_raw.ensures _ c.mend_pages.ensures

pub returns-else-w-ne0 : goal.returns-else-w-ne0
returns-else-w-ne0 c = merged-none _ _ _ _ _ c.requires.0 _ _ c.requires.1 _ c.merge_raw.ensures c.if-w-ne0.false
