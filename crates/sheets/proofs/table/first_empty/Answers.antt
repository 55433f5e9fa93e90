use Rattle.std.proofs.Common.{ap, sym, ◌∙◌, arith}
use Rattle.prelude.proofs.Scan.{first-is}
use Rattle.runs.specs.Sheet.{is_empty}
use Rattle.runs.specs.Runs.{first_empty}
use Rattle.sheets.proofs.Reading.{sheet_is}
use Rattle.sheets.proofs.table.first_empty.Goals as goal

pub returns-then-is_empty-clause-is : goal.returns-then-is_empty-clause-is
unfolding first_empty
returns-then-is_empty-clause-is c =
    let i = c.loop-i.i in
    first-is _ _ i (omega arith) c.loop-i.invariant (λ k. ap is_empty (sheet_is c.args.t.now i) ∙ sym c.if-is_empty.ensures)
