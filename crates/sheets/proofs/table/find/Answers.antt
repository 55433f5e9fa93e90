use Rattle.std.proofs.Common.{ap, sym, ◌∙◌, Bool, not, ◌&&◌, eqb, get_or, arith}
use Rattle.prelude.proofs.Scan.{first-is}
use Rattle.runs.specs.Sheet.{Sheet, inUse}
use Rattle.runs.specs.Runs.{find}
use Rattle.sheets.proofs.Reading.{blank, sheet_is}
use Rattle.sheets.proofs.table.find.Goals as goal

pub returns-then-is_empty-s-clause-is : goal.returns-then-is_empty-s-clause-is
unfolding find
returns-then-is_empty-s-clause-is c =
    let t = c.args.t.now in
    let i = c.loop-i.i in
    let e = ap (λ (s : Sheet). inUse s && eqb s.run c.args.run) (sheet_is t i) in
    let f = ap (λ (b : Bool). not b && eqb (get_or t i blank).run c.args.run) c.is_empty.ensures in
    first-is _ _ i (omega arith) c.loop-i.invariant (λ k. e ∙ sym f ∙ c.if-is_empty-s.true)
