use native.Mathlib.Omega.{arith}
use mathlib.Core.Path.{sym, ◌∙◌}
use lib.ListN.{length-take}
use lib.Seq.{length-take-le}
use borrow.Author.Tests.{ne_eqb}
use Rattle.std.proofs.Common.{rules}
use Rattle.model.specs.Formats.{store_format}
use Rattle.model.specs.Calls.{Store, part}
use Rattle.model.proofs.Soundness.{sound-facts}
use Rattle.model.proofs.Buffers.{fits-of}
use Rattle.cache.specs.View.{directory_of}
use Rattle.lent.specs.Loan.{buffers_of}
use Rattle.chip.specs.Loan as loan
use Rattle.answer.specs.declared.Refusal.TheVariants as refusals
use Rattle.checked.specs.Called.{store_with}
use Rattle.checked.proofs.Carrying.{passed-at, chip-fits, fits-after, reading-reach, part-ready}
use Rattle.checked.proofs.Keeping.{front-page, refused-keeps, keeping-as, part-keeps}
use Rattle.checked.proofs.keep.part.Goals as goal
use Rattle.checked.proofs.keep.part.Goals.{Start}

-- as the call began
abbrev store : Start → Store
store s = let a = s.args in store_with a.z (directory_of a.directory.now) (buffers_of a.lent.now a.pspace.now)

pub returns-then-not-reach_ok-clause-called : goal.returns-then-not-reach_ok-clause-called
returns-then-not-reach_ok-clause-called c =
    let start : Start = search in let a = c.args in
    let p = passed-at _ _ c.view.ensures _ _ c.in_ok-page_ready.ensures in
    refused-keeps a.z _ _ a.n.0 _ (part a.n.0 a.first a.bytes.now a.page.now) refusals.Buffer _ (λ besides.
    reading-reach (store start) a.n.0 a.first a.bytes.now a.page.now p
    (sym c.reach_ok.ensures ∙ c.if-not-reach_ok.true) besides)

pub invariant_of-chip : goal.invariant_of-chip
invariant_of-chip c =
    let start : Start = search in
    let p = passed-at _ _ c.view.ensures _ _ c.in_ok-page_ready.ensures in
    let f = chip-fits (store start) p.0 p.1 in record { lent = f.0; wear_length = f.1 }

pub part-requires : goal.part-requires
part-requires c =
    let start : Start = search in let a = c.args in
    let p = passed-at _ _ c.view.ensures _ _ c.in_ok-page_ready.ensures in
    let h = (sound-facts _ _ p.0).limits.S_high in (
      part-ready (store start) a.n.0 a.first a.bytes.now a.page.now p (sym c.reach_ok.ensures ∙ c.if-not-reach_ok.false),
      simp length-take (omega arith),
    )

pub returns-clause-called : goal.returns-clause-called
returns-clause-called c =
    let start : Start = search in let a = c.args in
    let p = passed-at _ _ c.view.ensures _ _ c.in_ok-page_ready.ensures in let w = c.part in
    let f = fits-of store_format _ _ p.1 in
    let h = (sound-facts _ _ p.0).limits.S_high in
    let g = length-take-le a.z.page_size a.kept.now (omega arith) in
    keeping-as a.z _ _ a.n.0 (search rules) (part-keeps a.z _ _ a.n.0 (loan.buffers_of w.new.chip w.new.pspace w.new.bspace)
    (fits-after a.z w.new.chip _ _ w.ensures.loan.sizes (omega (arith, w.auto, f)) (omega (arith, w.auto, f)))
    _ _ _ _ _ _ (front-page _ _ _ (omega (arith, w.auto, g))) a.first a.bytes.now a.page.now _ p
    (sym c.reach_ok.ensures ∙ c.if-not-reach_ok.false) (ne_eqb _ 0 c.requires) w.ensures.wrote)
