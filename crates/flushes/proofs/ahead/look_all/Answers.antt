use native.Mathlib.Omega.{arith}
use mathlib.Core.Path.{sym, ◌∙◌}
use Rattle.flushes.proofs.Checking.{plain-all, ahead_none, ahead_all, ahead_lookable, ahead_less, ahead_few, ahead_more}
use Rattle.flushes.proofs.ahead.look_all.Goals as goal

pub returns-then-not-has_marks : goal.returns-then-not-has_marks
returns-then-not-has_marks c =
    plain-all _ _ _ _ _ (sym c.has_codes.ensures ∙ c.if-not-has_codes.true) (sym c.has_marks.ensures ∙ c.if-not-has_marks.true)

pub loop-due-init : goal.loop-due-init
loop-due-init c = ahead_none c.requires

pub look-seen-requires : goal.look-seen-requires
look-seen-requires c = ahead_lookable c.requires c.loop-due.invariant _ _ c.in-Some.ensures

pub overflow_add-mends : goal.overflow_add-mends
overflow_add-mends c =
    let h = ahead_few c.requires c.loop-due.invariant _ _ c.in-Some.ensures _ c.look-seen.ensures in
    record { fits = omega arith }

pub forget-requires : goal.forget-requires
forget-requires c = ahead_lookable c.requires c.loop-due.invariant _ _ c.in-Some.ensures

pub loop-due-smaller : goal.loop-due-smaller
loop-due-smaller c =
    let h = ahead_less c.requires c.loop-due.invariant _ _ c.in-Some.ensures in
    rw c.forget.ensures (omega arith)

pub loop-due-preserved : goal.loop-due-preserved
loop-due-preserved c =
    ahead_more c.requires c.loop-due.invariant _ _ c.in-Some.ensures _ c.look-seen.ensures _ c.forget.ensures
    _ c.worse-fault.ensures

pub returns : goal.returns
returns c = ahead_all c.requires c.loop-due.invariant c.in_default.ensures
