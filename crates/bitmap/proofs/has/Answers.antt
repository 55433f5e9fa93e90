use mathlib.Core.Path.{refl}
use Rattle.prelude.specs.Bits.{bit}
use Rattle.bitmap.proofs.has.Goals as goal

pub returns : goal.returns
unfolding bit
returns c = refl
