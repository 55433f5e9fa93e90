use Rattle.checked.proofs.Carrying.{passed-at}
use Rattle.checked.proofs.write.write.Goals as goal

pub carry-requires : goal.carry-requires
carry-requires c = passed-at _ _ c.view.ensures _ _ c.in_ok-page_ready.ensures
