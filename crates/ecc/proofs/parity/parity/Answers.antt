use mathlib.Core.Path.{ap, ◌∙◌}
use Rattle.ecc.specs.Words.{num}
use Rattle.ecc.proofs.Fold.{parity-is}
use Rattle.ecc.proofs.parity.parity.Goals as goal

pub returns : goal.returns
returns c =
    (c.low.ensures.0 ∙ ap num (parity-is c.args.x), c.low.ensures.1)
