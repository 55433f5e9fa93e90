use Prim.Native.Nat.{◌≤◌}
use native.Mathlib.Omega.{arith}
use lib.ListN.{length}
use Rattle.print.proofs.Lines.{wear-line}
use Rattle.print.proofs.Put.{printed-then, printed-as}
use Rattle.print.proofs.put_wear.Goals as goal

pub returns : goal.returns
returns c =
    let h : c.args.at ≤ length c.args.out.now = omega (arith, c.requires) in
    printed-as (omega arith) (wear-line c.args.wear.now) (printed-then h
    (printed-then h c.put_bytes-next.ensures c.put_numbers-end.ensures)
    c.put_bytes.ensures)
