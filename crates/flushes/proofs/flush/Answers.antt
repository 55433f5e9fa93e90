use native.Mathlib.Omega.{arith}
use Rattle.flushes.proofs.Flushing.{flush-worn, flush-late}
use Rattle.flushes.proofs.flush.Goals as goal

pub returns-in-Some-clause-carried : goal.returns-in-Some-clause-carried
returns-in-Some-clause-carried c = flush-worn _ _ _ _ _ c.in-Some.ensures.found c.in-Some.ensures.within

pub returns-in-Some-fault-clause-carried : goal.returns-in-Some-fault-clause-carried
returns-in-Some-fault-clause-carried c =
    let v = c.view.ensures in
    rw c.into.ensures (flush-late _ _ _ _ (omega (arith, c.in_default.ensures.found))
    (rw (v.sizes, v.flash, v.codes, v.marks) at c.look_all-seen.ensures) _ c.in-Some-fault.is)
