use native.Mathlib.Omega.{arith}
use borrow.Author.Rules.{rules}
use mathlib.Core.Path.{refl, ◌∙◌}
use Rattle.flushes.proofs.Stepping.{order-kept}
use Rattle.flushes.proofs.Flushing.{fits_kept, begins, flush-done, flush-cut, lookable, mends-due, cleanable, left, turns}
use Rattle.flushes.proofs.clean_all.Goals as goal

pub loop-due-init : goal.loop-due-init
loop-due-init c = (search rules, begins c.args.ops c.requires, refl, refl)

pub mend_due-mend-requires : goal.mend_due-mend-requires
mend_due-mend-requires c =
    let b = c.in-Some.ensures in
    let k = c.loop-due.invariant in
    let v = c.view.ensures in
    rw (v.sizes, k.0.sizes, v.flash, v.codes, v.marks) (lookable k.1 _ _ b, mends-due k.1 _ _ b)

pub clean_block-rewrote-requires : goal.clean_block-rewrote-requires
clean_block-rewrote-requires c =
    let k = c.loop-due.invariant in
    let v = c.view.ensures in
    rw k.0.sizes (cleanable k.1 _ _ c.in-Some.ensures _
    (rw (v.sizes, k.0.sizes, v.flash, v.codes) at c.mend_due-mend.ensures))

pub returns-then-left-z-clause-order : goal.returns-then-left-z-clause-order
returns-then-left-z-clause-order c = order-kept _ _ _ _ _ c.clean_block-rewrote.ensures.cleaned.directory-is ∙ c.loop-due.invariant.3

pub returns-then-left-z-clause-carried : goal.returns-then-left-z-clause-carried
returns-then-left-z-clause-carried c =
    let k = c.loop-due.invariant in
    rw k.2 (flush-cut k.1 _ _ c.in-Some.ensures
    (rw k.0.sizes at c.clean_block-rewrote.ensures.cleaned) c.requires c.if-left-z.true _ _)

pub loop-due-smaller : goal.loop-due-smaller
loop-due-smaller c =
    let l = left c.loop-due.invariant.1 _ _ c.in-Some.ensures in
    omega arith

pub loop-due-preserved : goal.loop-due-preserved
loop-due-preserved c =
    let k = c.loop-due.invariant in
    let w = c.clean_block-rewrote in
    let e = w.ensures.loan.sizes ∙ k.0.sizes in
    let fits = fits_kept k.1.ready.fits (rw e at w.new.chip.lent) (rw e at w.new.chip.wear_length) w.auto.bspace in (
      search rules,
      turns k.1 _ _ c.in-Some.ensures (rw k.0.sizes at w.ensures.cleaned) c.if-left-z.false fits _ _
          (omega arith) (omega arith),
      k.2,
      order-kept _ _ _ _ _ w.ensures.cleaned.directory-is ∙ k.3,
    )

pub returns-clause-carried : goal.returns-clause-carried
returns-clause-carried c =
    let k = c.loop-due.invariant in
    rw k.2 (flush-done k.1 c.requires c.in_default.ensures)
