use Prim.Native.Nat.{◌≤◌}
use native.Mathlib.Omega.{arith}
use lib.ListN.{length}
use mathlib.Core.List.{append_assoc}
use Prim.Native.Nat.{◌<◌}
use Rattle.print.specs.Text.{decimal}
use Rattle.print.proofs.Put.{printed-one, printed-then, printed-as}
use Rattle.print.proofs.put_field.Goals as goal

pub returns : goal.returns
returns c =
    let p = c.put_number-next.ensures in
    let h : c.args.at ≤ length c.args.out.now = omega (arith, c.requires) in
    let k : c.put_number-next.result < length c.put_number-next.new.out =
    omega (arith, p.within, c.put_number-next.auto.out, c.requires) in
    printed-as (omega arith) (append_assoc c.args.lead.now (decimal c.args.n) _) (printed-then h p (printed-one _ _ 41 k))
