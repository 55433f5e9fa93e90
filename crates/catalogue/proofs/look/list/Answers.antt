use Rattle.catalogue.proofs.Ending.{few_left, list_done}
use Rattle.catalogue.proofs.look.list.Goals as goal

pub left-requires : goal.left-requires
left-requires c = few_left _ _ _ _ _ _ _ _ _ c.in_ok-run.ensures

pub returns : goal.returns
returns c = list_done _ _ _ _ _ _ _ _ _ (rw c.in-Tell.is at c.in_ok-run.ensures) _ c.left.ensures.0
