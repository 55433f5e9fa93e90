use native.Mathlib.Omega.{arith}
use mathlib.Core.Path.{refl}
use Prim.Native.Nat.{◌≤◌}
use lib.ListN.{length}
use Rattle.print.proofs.Put.{printed-then, printed-as}
use Rattle.rehearsals.proofs.put_ways.Goals as goal

pub returns : goal.returns
returns c =
    let h : 0 ≤ length c.args.out.now = omega arith in
    let l = c.requires.1 in
    let m = c.requires.2 in
    printed-as (omega arith) refl
    (printed-then h (printed-then h (printed-then h c.put_bytes-after_word.ensures c.put_numbers-after_reads.ensures)
    c.put_bytes-before_writes.ensures) c.put_numbers.ensures)
