use Rattle.writes.proofs.Over.{frame_page_is}
use Rattle.writes.proofs.put.over_frame_page.Goals as goal

pub returns : goal.returns
returns c =
    frame_page_is _ _ _ _ c.requires _ _ _ c.offset_of-o.ensures c.copy_in_block.ensures
