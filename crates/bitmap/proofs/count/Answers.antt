use Rattle.prelude.proofs.Bits.{ones-count}
use Rattle.bitmap.proofs.count.Goals as goal

pub returns : goal.returns
returns c = ones-count 64 c.args.v c.ranges.v.fits
