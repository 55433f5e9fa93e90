use Rattle.address.proofs.Reciprocals.{table, reciprocal_is}
use Rattle.address.proofs.range.reciprocal.Goals as goal

pub returns : goal.returns
unfolding table
returns c = reciprocal_is _ c.requires.0 c.requires.1
