use mathlib.Core.Path.{◌≡◌, ◌∙◌}
use Rattle.prelude.specs.Pages.{page_at, put_page}
use Rattle.prelude.proofs.Pages.{length-page_at}
use Rattle.chip.proofs.Cells.{in_flash, programmed-is}
use Rattle.chip.proofs.lent.Chip.program_page.Goals as goal

pub copy_page-requires : goal.copy_page-requires
copy_page-requires c =
    let q = c.args.self.now.lent in
    (in_flash _ _ _ _ q _ c.requires.0, c.requires.1)

pub returns-clause-programmed : goal.returns-clause-programmed
returns-clause-programmed c = let a = c.args in let d = a.self.now in
    let fe : c.write_mark.new.self.flash.now ≡ put_page d.sizes.page_size d.flash.now a.n.0 (page_at d.sizes.page_size a.src.now a.si) =
    c.write_mark.ensures.flash ∙ c.write_code.ensures.flash ∙ c.copy_page.ensures in
    programmed-is _ _ _ _ d.lent _ c.requires.0 _ _ _ _ (length-page_at _ _ _ c.requires.1) fe
    (rw (c.write_mark.ensures.flash, c.write_code.ensures.flash) (c.write_mark.ensures.codes ∙ c.write_code.ensures.codes))
    (rw (c.write_code.ensures.loan.sizes, c.write_code.ensures.marks) at c.write_mark.ensures.marks)
