use Rattle.std.proofs.Common.{sym, ◌∙◌, eq-eqb, arith}
use Rattle.prelude.specs.Scan.{nth}
use Rattle.prelude.proofs.Tests.{and_i}
use Rattle.prelude.proofs.Scan.{first-is}
use Rattle.runs.specs.Runs.{position}
use Rattle.sheets.proofs.table.position.Goals as goal

pub returns-then-seen-n-clause-is : goal.returns-then-seen-n-clause-is
unfolding position nth
returns-then-seen-n-clause-is c =
    let l = c.loop-i in
    first-is _ _ l.i (omega arith) l.invariant.2 (λ k. and_i (sym c.if-counts.ensures) (eq-eqb _ _ (sym l.invariant.1 ∙ c.if-seen-n.true)))
