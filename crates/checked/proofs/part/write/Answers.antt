use native.Mathlib.Omega.{arith}
use mathlib.Core.Path.{sym, ◌∙◌}
use Rattle.std.proofs.Common.{rules}
use Rattle.model.specs.Formats.{store_format}
use Rattle.model.specs.Calls.{Store}
use Rattle.model.proofs.Buffers.{fits-of}
use Rattle.cache.specs.View.{directory_of}
use Rattle.lent.specs.Loan.{buffers_of}
use Rattle.chip.specs.Loan as loan
use Rattle.answer.specs.declared.Refusal.TheVariants as refusals
use Rattle.checked.specs.Called.{store_with}
use Rattle.checked.proofs.Carrying.{turned-to, passed-at, chip-fits, fits-after, called-as}
use Rattle.checked.proofs.Carrying.{reading-reach, nothing-to, part-ready, part-done}
use Rattle.checked.proofs.part.write.Goals as goal
use Rattle.checked.proofs.part.write.Goals.{Start}

-- as the call began
abbrev store : Start → Store
store s = let a = s.args in store_with a.z (directory_of a.directory.now) (buffers_of a.lent.now a.pspace.now)

pub returns-then-not-reach_ok-clause-called : goal.returns-then-not-reach_ok-clause-called
returns-then-not-reach_ok-clause-called c =
    let start : Start = search in let a = c.args in
    let p = passed-at _ _ c.view.ensures _ _ c.in_ok-page_ready.ensures in
    turned-to _ _ _ _ refusals.Buffer (λ besides. reading-reach (store start) a.n.0 a.first a.bytes.now a.page.now p
    (sym c.reach_ok.ensures ∙ c.if-not-reach_ok.true) besides)

pub returns-then-is_empty-clause-called : goal.returns-then-is_empty-clause-called
returns-then-is_empty-clause-called c =
    let start : Start = search in let a = c.args in
    let p = passed-at _ _ c.view.ensures _ _ c.in_ok-page_ready.ensures in
    nothing-to (store start) a.n.0 a.first a.bytes.now a.page.now p (sym c.reach_ok.ensures ∙ c.if-not-reach_ok.false) _
    (sym c.is_empty.ensures ∙ c.if-is_empty.true)

pub invariant_of-chip : goal.invariant_of-chip
invariant_of-chip c =
    let start : Start = search in
    let p = passed-at _ _ c.view.ensures _ _ c.in_ok-page_ready.ensures in
    let f = chip-fits (store start) p.0 p.1 in record { lent = f.0; wear_length = f.1 }

pub write-requires : goal.write-requires
write-requires c =
    let start : Start = search in let a = c.args in
    let p = passed-at _ _ c.view.ensures _ _ c.in_ok-page_ready.ensures in
    part-ready (store start) a.n.0 a.first a.bytes.now a.page.now p (sym c.reach_ok.ensures ∙ c.if-not-reach_ok.false)

pub returns-clause-called : goal.returns-clause-called
returns-clause-called c =
    let start : Start = search in let a = c.args in
    let p = passed-at _ _ c.view.ensures _ _ c.in_ok-page_ready.ensures in let w = c.write in
    let f = fits-of store_format _ _ p.1 in
    called-as (search rules) (part-done (store start) a.n.0 a.first a.bytes.now a.page.now p
    (sym c.reach_ok.ensures ∙ c.if-not-reach_ok.false) (sym c.is_empty.ensures ∙ c.if-is_empty.false)
    (loan.buffers_of w.new.chip w.new.pspace w.new.bspace)
    (fits-after a.z w.new.chip _ _ w.ensures.loan.sizes (omega (arith, w.auto, f)) (omega (arith, w.auto, f))) _ _ _ _ _ w.ensures.wrote)
