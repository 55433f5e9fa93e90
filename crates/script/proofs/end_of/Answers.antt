use mathlib.Core.Path.{◌≡◌, sym, ◌∙◌}
use native.Mathlib.Omega.{arith}
use lib.ListN.{length}
use borrow.Author.Tests.{eq-eqb, ne_eqb}
use Rattle.script.proofs.Words.{end-hit, end-miss, end-end}
use Rattle.script.proofs.end_of.Goals as goal

pub returns-then-s-i : goal.returns-then-s-i
returns-then-s-i c =
    let a = c.args in
    sym (c.loop-i.invariant ∙ end-hit a.b a.s.now c.loop-i.i (omega arith) (eq-eqb _ _ c.if-s-i.true))

pub loop-i-preserved : goal.loop-i-preserved
loop-i-preserved c =
    let a = c.args in
    c.loop-i.invariant ∙ end-miss a.b a.s.now c.loop-i.i (omega arith) (ne_eqb _ _ c.if-s-i.false)

pub returns : goal.returns
returns c =
    let a = c.args in
    let e : length a.s.now ≡ c.loop-i.i = omega arith in
    e ∙ sym (c.loop-i.invariant ∙ end-end a.b a.s.now c.loop-i.i (omega arith))
