use native.Mathlib.Omega.{arith}
use mathlib.Core.Path.{refl, sym, ap, ◌∙◌}
use lib.ListN.{get_or}
use Rattle.model.specs.Policy.{policy_choice, plan}
use Rattle.model.proofs.Plan.{policy_choice-picks}
use Rattle.cache.specs.View.{sizes_of, directory_of, block_no}
use Rattle.clean.specs.Clean.{MergesLooked}
use Rattle.writes.specs.Ahead.{erased_frame}
use Rattle.writes.proofs.Ways.{plan-holds}
use Rattle.writes.proofs.Deciding.{beside-late, still-foreseen, Erases, erases-block, frame-small, lookable, turned-worn, looked-late}
use Rattle.writes.proofs.Deciding.{few-mends, looked-foreseen}
use Rattle.writes.proofs.ahead.look.Goals as goal
use Rattle.writes.proofs.ahead.look.Goals.{In-Some, After-look-seen}

pub returns-in-Some-fault-clause-refused : goal.returns-in-Some-fault-clause-refused
returns-in-Some-fault-clause-refused c =
    rw c.into.ensures (beside-late _ _ _ _ _ _ _ _ _ (ap erased_frame (sym c.plan-plan.ensures) ∙ sym c.in_default.ensures) _
    c.in-Some-fault.is)

pub returns-in_default-clause-foreseen : goal.returns-in_default-clause-foreseen
returns-in_default-clause-foreseen c =
    still-foreseen _ _ _ _ _ _ _ _ _ (ap erased_frame (sym c.plan-plan.ensures) ∙ sym c.in_default.ensures) c.requires.sound
    c.requires.page-lt _ c.plan-plan.ensures c.in_default-fault.is

-- ---- a block is erased

erases : (c : In-Some) → let sz = sizes_of c.args.chip.now.sizes in let d = directory_of c.args.directory.now in
    Erases sz d (plan policy_choice sz d c.args.chip.now.wear.now c.args.n.0)
    (get_or c.args.directory.now.frames c.in-Some.f (block_no 0)).0
    c.in-Some.f
erases c = erases-block _ _ _ _ c.requires.sound (plan-holds policy_choice policy_choice-picks _ _ c.requires.sound _ _)
    (ap erased_frame (sym c.plan-plan.ensures) ∙ sym c.in-Some.ensures)

pub offset_bounds-directory-f : goal.offset_bounds-directory-f
offset_bounds-directory-f c = let l = frame-small (erases c) in record { fits = omega arith }

pub bounds-directory-f : goal.bounds-directory-f
bounds-directory-f c = frame-small (erases (goal.at.bounds-directory-f c).In-Some)

pub is_worn-requires : goal.is_worn-requires
is_worn-requires c = let l = (erases (goal.at.is_worn-requires c).In-Some).block-lt in let w = c.args.chip.now.wear_length in omega arith

pub returns-then-is_worn-clause-refused : goal.returns-then-is_worn-clause-refused
returns-then-is_worn-clause-refused c =
    turned-worn (erases (goal.at.returns-then-is_worn-clause-refused c).In-Some) _ _ _ _ _ _ _ refl
    (sym c.is_worn.ensures ∙ c.if-is_worn.true)

pub look-seen-requires : goal.look-seen-requires
look-seen-requires c = rw c.view.ensures.sizes (lookable (erases (goal.at.look-seen-requires c).In-Some))

looked : (c : After-look-seen) → MergesLooked (sizes_of c.args.chip.now.sizes) (directory_of c.args.directory.now) c.args.chip.now.flash.now
    c.args.chip.now.codes.now c.args.chip.now.marks.now (get_or c.args.directory.now.frames c.in-Some.f (block_no 0)).0 c.in-Some.f
    c.look-seen.result
looked c = let v = c.view.ensures in rw (v.sizes, v.flash, v.codes, v.marks) at c.look-seen.ensures

pub returns-in-Some-worse-clause-refused : goal.returns-in-Some-worse-clause-refused
returns-in-Some-worse-clause-refused c =
    let at = goal.at.returns-in-Some-worse-clause-refused c in
    rw c.into-in-Some-worse.ensures (looked-late (erases at.In-Some) _ _ _ _ _ _ (sym c.is_worn.ensures ∙ c.if-is_worn.false) _
    (looked at.After-look-seen) _ c.in-Some-worse.ensures)

pub mends_once-mends-requires : goal.mends_once-mends-requires
mends_once-mends-requires c =
    let at = goal.at.mends_once-mends-requires c in (
      c.requires.sound.limits,
      few-mends (erases at.In-Some) _ _ _ _ c.args.n.0 c.args.beside (sym c.is_worn.ensures ∙ c.if-is_worn.false) _
          (looked at.After-look-seen) c.requires.few,
    )

pub returns-clause-foreseen : goal.returns-clause-foreseen
returns-clause-foreseen c =
    let at = goal.at.returns-clause-foreseen c in
    looked-foreseen (erases at.In-Some) _ _ _ _ _ _ (sym c.is_worn.ensures ∙ c.if-is_worn.false) _ (looked at.After-look-seen) _
    c.plan-plan.ensures c.in_default-worse.ensures _ c.mends_once-mends.ensures
