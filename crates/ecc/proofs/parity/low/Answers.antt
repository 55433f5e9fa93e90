use native.Mathlib.Omega.{arith}
use mathlib.Core.Path.{ap, ◌∙◌}
use Prim.Native.Nat.{ℕ, ◌/◌}
use Rattle.ecc.proofs.Fold.{byte-parity}
use Rattle.ecc.proofs.parity.low.Goals as goal

pub returns : goal.returns
returns c =
    let h = c.entry.ensures.1 in
    (ap (λ (x : ℕ). x / 8) c.entry.ensures.0 ∙ byte-parity c.args.x, omega arith)
