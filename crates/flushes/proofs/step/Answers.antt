use mathlib.Core.Path.{sym, ◌∙◌}
use Rattle.cache.specs.View.{sizes_of, directory_of}
use Rattle.clean.specs.Clean.{MergesLooked}
use Rattle.flushes.proofs.Stepping.{due-lookable, step-clean, has-wear, step-worn, step-late, cleanable, step-done, order-kept}
use Rattle.flushes.proofs.step.Goals as goal
use Rattle.flushes.proofs.step.Goals.{After-look-seen}

looked : (c : After-look-seen) → MergesLooked (sizes_of c.args.chip.now.sizes) (directory_of c.args.directory.now) c.args.chip.now.flash.now
    c.args.chip.now.codes.now c.args.chip.now.marks.now c.in-Some.due.block.0 c.in-Some.due.frame c.look-seen.result
looked c = let v = c.view.ensures in rw (v.sizes, v.flash, v.codes, v.marks) at c.look-seen.ensures

pub returns-in_default-clause-carried : goal.returns-in_default-clause-carried
returns-in_default-clause-carried c = step-clean c.requires _ c.in_default.ensures

pub is_worn-requires : goal.is_worn-requires
is_worn-requires c = has-wear c.requires 0 _ _ c.in-Some.ensures

pub returns-then-is_worn-clause-carried : goal.returns-then-is_worn-clause-carried
returns-then-is_worn-clause-carried c =
    step-worn c.requires _ _ _ c.in-Some.ensures (sym c.is_worn.ensures ∙ c.if-is_worn.true)

pub look-seen-requires : goal.look-seen-requires
look-seen-requires c = rw c.view.ensures.sizes (due-lookable c.requires _ _ c.in-Some.ensures)

pub returns-in-Some-fault-clause-carried : goal.returns-in-Some-fault-clause-carried
returns-in-Some-fault-clause-carried c =
    let at = goal.at.returns-in-Some-fault-clause-carried c in
    rw c.into.ensures (step-late c.requires _ _ _ c.in-Some.ensures (sym c.is_worn.ensures ∙ c.if-is_worn.false) _
    (looked at.After-look-seen) _ c.in-Some-fault.is)

pub clean_block-done-requires : goal.clean_block-done-requires
clean_block-done-requires c =
    let at = goal.at.clean_block-done-requires c in
    cleanable c.requires 0 _ _ c.in-Some.ensures (sym c.is_worn.ensures ∙ c.if-is_worn.false) _ (looked at.After-look-seen)
    c.in_default-fault.is

pub returns-clause-carried : goal.returns-clause-carried
returns-clause-carried c =
    let at = goal.at.returns-clause-carried c in
    step-done c.requires _ _ _ c.in-Some.ensures (sym c.is_worn.ensures ∙ c.if-is_worn.false) _ (looked at.After-look-seen)
    c.in_default-fault.is c.clean_block-done.ensures.cleaned

pub returns-clause-order : goal.returns-clause-order
returns-clause-order c = order-kept _ _ _ _ _ c.clean_block-done.ensures.cleaned.directory-is
