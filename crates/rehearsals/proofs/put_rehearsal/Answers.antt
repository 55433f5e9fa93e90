use native.Mathlib.Omega.{arith}
use mathlib.Core.Path.{◌∙◌}
use Prim.Native.Nat.{◌≤◌}
use lib.ListN.{length}
use Rattle.print.proofs.Put.{printed-then, printed-as}
use Rattle.print.proofs.Lines as print-lines
use Rattle.rehearsals.proofs.Putting.{done-line, refused-line}
use Rattle.rehearsals.proofs.put_rehearsal.Goals as goal

pub returns-in-Ok : goal.returns-in-Ok
returns-in-Ok c =
    printed-as (omega arith) (done-line c.args.z c.rehearse-r.result _ c.rehearse-r.ensures
    c.in-Ok.is) c.put_tallies.ensures

pub returns-in-Err : goal.returns-in-Err
returns-in-Err c =
    let h : 0 ≤ length c.args.out.now = omega arith in
    printed-as (omega arith) (print-lines.refused-line "rehearse" 1 ∙ refused-line c.args.z c.rehearse-r.result
    c.in-Err.field-0 c.rehearse-r.ensures c.in-Err.is)
    (printed-then h c.put_bytes-next.ensures c.put_refused.ensures)
