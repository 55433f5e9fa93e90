use Prim.Native.Nat.{◌≤◌}
use native.Mathlib.Omega.{arith}
use lib.ListN.{length}
use Rattle.print.specs.Print.{said}
use Rattle.print.proofs.Lines.{refused-line}
use Rattle.print.proofs.Put.{printed-then, printed-as}
use Rattle.print.proofs.put_flush_refused.Goals as goal

pub returns : goal.returns
unfolding said
returns c =
    let h : c.args.at ≤ length c.args.out.now = omega (arith, c.requires) in
    printed-as (omega arith) (refused-line "flush" c.args.number)
    (printed-then h c.put_bytes-next.ensures c.put_refused.ensures)
