use Prim.Native.Nat.{◌≤◌}
use native.Mathlib.Omega.{arith}
use lib.ListN.{length}
use Rattle.print.specs.Text.{form, items}
use Rattle.print.proofs.Lines.{write-line}
use Rattle.print.proofs.Put.{printed-then, printed-as}
use Rattle.print.proofs.put_write.Goals as goal

pub returns : goal.returns
unfolding form items
returns c =
    let h : c.args.at ≤ length c.args.out.now = omega (arith, c.requires) in
    printed-as (omega arith) (write-line c.args.n.0 c.args.way c.args.erased c.args.merged)
    (printed-then h
    (printed-then h (printed-then h (printed-then h c.put_number-after_call.ensures c.put_field-after_way.ensures)
    c.put_erased-after_erased.ensures) c.put_field-after_merged.ensures) c.put_bytes.ensures)
