use Prim.Native.Nat.{◌≤◌}
use native.Mathlib.Omega.{arith}
use lib.ListN.{length}
use Rattle.print.specs.Print.{said}
use Rattle.print.proofs.Lines.{refused-number}
use Rattle.print.proofs.Put.{printed-then, printed-as}
use Rattle.print.proofs.put_write_refused.Goals as goal

pub returns : goal.returns
unfolding said
returns c =
    let h : c.args.at ≤ length c.args.out.now = omega (arith, c.requires) in
    printed-as (omega arith) (refused-number "write" c.args.n.0 c.args.number)
    (printed-then h c.put_number-next.ensures c.put_refused.ensures)
