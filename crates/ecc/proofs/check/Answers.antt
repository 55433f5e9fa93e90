use native.Mathlib.Omega.{arith}
use Rattle.ecc.proofs.Checking.{check-start, check-equal, check-mended, check-fails, check-end}
use Rattle.ecc.proofs.check.Goals as goal
use Rattle.ecc.proofs.check.Goals.{then-x-ne0+else-not-f-p, else-x-ne0}

pub loop-i-init : goal.loop-i-init
loop-i-init c =
    check-start c.args.m c.args.page.now c.args.codes.now

pub returns-then-not-f-p : goal.returns-then-not-f-p
returns-then-not-f-p c =
    let a = c.args in
    let l = c.loop-i in
    check-fails a.m a.page.now a.codes.now l.i _ c.loop-i-test.true c.differing-x.ensures.0
    c.few-f.ensures c.paired-p.ensures c.if-not-f-p.true

pub loop-i-preserved : goal.loop-i-preserved
loop-i-preserved c =
    let a = c.args in
    let l = c.loop-i in
    let e = c.differing-x.ensures.0 in
    elim c.if-x-ne0.branch [
      | then-x-ne0+else-not-f-p w ↦ rw w.n-is (check-mended a.m a.page.now a.codes.now l.i _ c.loop-i-test.true e
          w.few-f.ensures w.paired-p.ensures l.n l.invariant w.if-x-ne0.true w.if-not-f-p.false)
      | else-x-ne0 w ↦ rw w.n-is (check-equal a.m a.page.now a.codes.now l.i _ c.loop-i-test.true e
          l.n l.invariant (let z = w.if-x-ne0.false in omega arith))
    ]

pub returns : goal.returns
returns c =
    let a = c.args in
    let l = c.loop-i in
    check-end a.m a.page.now a.codes.now l.i l.n (omega arith) l.invariant
