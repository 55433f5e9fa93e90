use Rattle.catalogue.proofs.Ending.{few_left, look_done}
use Rattle.catalogue.proofs.look.look.Goals as goal

pub left-requires : goal.left-requires
left-requires c = few_left _ _ _ _ _ _ _ _ _ c.in_ok-sheet.ensures

pub returns : goal.returns
returns c = look_done _ _ _ _ _ _ _ _ _ _ (rw c.in-Show.is at c.in_ok-sheet.ensures) _ c.left.ensures.0
