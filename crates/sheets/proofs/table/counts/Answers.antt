use Rattle.std.proofs.Common.{sym, ap, ◌∙◌, not, get_or-take, length-take-le, arith}
use Rattle.runs.specs.Sheet.{inUse}
use Rattle.sheets.specs.View.{sheets_of}
use Rattle.sheets.specs.declared.Sheet.{Sheet}
use Rattle.sheets.proofs.Reading.{sheet_is, run_is, blank, counts_later, counts_first}
use Rattle.sheets.proofs.table.counts.Goals as goal

pub returns-then-before-s : goal.returns-then-before-s
returns-then-before-s c =
    let t = c.args.t.now in
    let i = c.args.i in
    let j = c.loop-before.before-index in
    let long = length-take-le i t (omega arith) in
    let here = ap (λ (s : Sheet). s.run) (get_or-take i t j blank (omega arith)) in
    counts_later (sheets_of t) i j (omega arith) (run_is t j ∙ sym here ∙ c.if-before-s.true ∙ sym (run_is t i))

pub returns : goal.returns
returns c =
    let t = c.args.t.now in
    let i = c.args.i in
    let long = length-take-le i t (omega arith) in
    counts_first (sheets_of t) i (ap inUse (sheet_is t i) ∙ ap not (sym c.if-is_empty.ensures))
    (λ j b e. c.loop-before.invariant j (omega arith) (sym (run_is t j) ∙ e ∙ run_is t i))
