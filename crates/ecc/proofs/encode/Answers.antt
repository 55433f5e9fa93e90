use native.Mathlib.Omega.{arith}
use mathlib.Core.Path.{ap, ◌∙◌}
use Rattle.page.proofs.Part.{got}
use Rattle.codes.specs.Code.{code_of}
use Rattle.ecc.proofs.Writing.{three-put, codes-done}
use Rattle.ecc.proofs.encode.Goals as goal

pub loop-i-preserved : goal.loop-i-preserved
loop-i-preserved c = let a = c.args in let b = c.to_le_bytes.ensures in
    three-put a.m a.page.now a.codes.now c.loop-i.i c.loop-i.codes c.code_of.result _ _ _ c.loop-i-test.true
    (c.code_of.ensures ∙ ap code_of (got 256 a.page.now c.loop-i.i)) (rw b (omega arith)) (rw b (omega arith)) (rw b (omega arith))
    c.loop-i.invariant

pub returns : goal.returns
returns c = codes-done c.args.m c.args.page.now c.args.codes.now c.loop-i.i c.loop-i.codes c.loop-i.invariant (omega arith)
