use native.Mathlib.Omega.{arith}
use mathlib.Core.Path.{sym, ◌∙◌}
use Rattle.ecc.proofs.Marks.{name_start, name_bound, name_hit, name_miss, name_end}
use Rattle.ecc.proofs.chunk.named.Goals as goal
use Rattle.ecc.proofs.chunk.named.Goals.{then-has, else-has}

pub loop-i-init : goal.loop-i-init
loop-i-init c = name_start c.args.x

pub overflow_add-a : goal.overflow_add-a
overflow_add-a c =
    let bound = name_bound c.args.x c.loop-i-test.true c.loop-i.invariant in
    omega arith

pub loop-i-preserved : goal.loop-i-preserved
loop-i-preserved c =
    let l = c.loop-i in
    let x = c.args.x in
    elim c.if-has.branch [
      | then-has w ↦ rw w.a-is (name_hit x c.loop-i-test.true l.invariant (sym c.has.ensures ∙ w.if-has.true))
      | else-has w ↦ rw w.a-is (name_miss x c.loop-i-test.true l.invariant (sym c.has.ensures ∙ w.if-has.false))
    ]

pub returns : goal.returns
returns c =
    name_end c.args.x (omega arith) c.loop-i.invariant
