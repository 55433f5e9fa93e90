use native.Mathlib.Omega.{arith}
use Prim.Native.Nat.{◌≤◌}
use lib.ListN.{length}
use Rattle.print.proofs.Put.{printed-then}
use Rattle.rehearsals.proofs.put_sums.Goals as goal

pub returns : goal.returns
returns c =
    let h : c.args.at ≤ length c.args.out.now = omega (arith, c.requires) in
    printed-then h (printed-then h (printed-then h c.put_field-after_erased.ensures c.put_field-after_merged.ensures)
    c.put_field-after_refused.ensures) c.put_bytes.ensures
