use Prim.Native.Nat.{◌≤◌}
use native.Mathlib.Omega.{arith}
use lib.ListN.{length}
use Rattle.print.specs.Text.{form, items}
use Rattle.print.proofs.Lines.{bad-line}
use Rattle.print.proofs.Put.{printed-then, printed-as}
use Rattle.print.proofs.put_bad.Goals as goal

pub returns : goal.returns
unfolding form items
returns c =
    let h : c.args.at ≤ length c.args.out.now = omega (arith, c.requires) in
    printed-as (omega arith) (bad-line c.args.n) (printed-then h c.put_field-next.ensures
    c.put_bytes.ensures)
