use Prim.Native.Nat.{◌≤◌}
use native.Mathlib.Omega.{arith}
use lib.ListN.{length}
use Rattle.print.specs.Text.{form, items}
use Rattle.print.proofs.Lines.{step_line_lem}
use Rattle.print.proofs.Put.{printed-then, printed-as}
use Rattle.print.proofs.put_step.Goals as goal

pub returns : goal.returns
unfolding form items
returns c =
    let h : c.args.at ≤ length c.args.out.now = omega (arith, c.requires) in
    printed-as (omega arith) (step_line_lem c.args.block.0 c.args.merged)
    (printed-then h (printed-then h c.put_field-after_block.ensures c.put_field-after_merged.ensures)
    c.put_bytes.ensures)
