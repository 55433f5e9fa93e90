use Prim.Native.Nat.{◌≤◌}
use native.Mathlib.Omega.{arith}
use lib.ListN.{length}
use Rattle.print.specs.Text.{form, items}
use Rattle.print.proofs.Lines.{read-line}
use Rattle.print.proofs.Put.{printed-then, printed-as}
use Rattle.print.proofs.put_read.Goals as goal

pub returns : goal.returns
unfolding form items
returns c =
    let h : c.args.at ≤ length c.args.out.now = omega (arith, c.requires) in
    printed-as (omega arith) (read-line c.args.n.0 c.args.way c.args.byte)
    (printed-then h (printed-then h (printed-then h c.put_number-after_call.ensures c.put_field-after_way.ensures)
    c.put_field-after_byte.ensures) c.put_bytes.ensures)
