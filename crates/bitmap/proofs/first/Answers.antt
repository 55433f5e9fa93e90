use native.Mathlib.Omega.{arith}
use Rattle.prelude.specs.Bits.{first_bits}
use Rattle.prelude.proofs.Bits.{shl_one}
use Rattle.bitmap.proofs.first.Goals as goal

pub returns-then-k-eq64 : goal.returns-then-k-eq64
unfolding first_bits
returns-then-k-eq64 c = rw c.if-k-eq64.true

pub returns-else-k-eq64 : goal.returns-else-k-eq64
unfolding first_bits
returns-else-k-eq64 c =
    rw (shl_one c.args.k (omega arith))
