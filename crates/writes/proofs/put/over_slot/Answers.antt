use Rattle.writes.proofs.Over.{slot_is}
use Rattle.writes.proofs.put.over_slot.Goals as goal

pub returns : goal.returns
returns c =
    slot_is _ _ _ _ c.requires _ c.copy_page.ensures
