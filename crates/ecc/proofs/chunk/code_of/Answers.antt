use Rattle.ecc.proofs.Fold.{when_odd, when_even}
use Rattle.ecc.proofs.chunk.code_of.Goals as goal

pub returns-then-w-eq1 : goal.returns-then-w-eq1
returns-then-w-eq1 c =
    when_odd c.totals-sums.ensures c.within-w.ensures c.parity-six.ensures.0
    c.parity-seven.ensures.0
    c.parity-eight.ensures.0 c.parity-nine.ensures.0 c.parity-ten.ensures.0 c.if-w-eq1.true

pub returns-else-w-eq1 : goal.returns-else-w-eq1
returns-else-w-eq1 c =
    when_even c.totals-sums.ensures c.within-w.ensures c.parity-six.ensures.0
    c.parity-seven.ensures.0
    c.parity-eight.ensures.0 c.parity-nine.ensures.0 c.parity-ten.ensures.0 c.if-w-eq1.false
