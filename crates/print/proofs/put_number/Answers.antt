use mathlib.Core.Path.{refl}
use Prim.Native.Nat.{◌≤◌}
use native.Mathlib.Omega.{arith}
use lib.ListN.{length}
use Rattle.print.proofs.Put.{printed-then, printed-as}
use Rattle.print.proofs.Decimal.{decimal-word}
use Rattle.print.proofs.put_number.Goals as goal

pub put_decimal-requires : goal.put_decimal-requires
put_decimal-requires c =
    let d = decimal-word c.args.n c.ranges.n.fits in
    omega arith

pub returns : goal.returns
returns c =
    let d = decimal-word c.args.n c.ranges.n.fits in
    let h : c.args.at ≤ length c.args.out.now = omega (arith, c.requires) in
    printed-as (omega arith) refl (printed-then h c.put_bytes-next.ensures c.put_decimal.ensures)
