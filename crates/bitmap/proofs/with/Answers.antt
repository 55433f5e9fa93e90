use Rattle.prelude.proofs.Bits.{shl_one, or_with}
use Rattle.bitmap.proofs.with.Goals as goal

pub returns : goal.returns
returns c = rw (shl_one c.args.i c.requires) (or_with c.args.v c.args.i)
