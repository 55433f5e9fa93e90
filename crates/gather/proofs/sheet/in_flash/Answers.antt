use Rattle.std.proofs.Common.{sym, ap, ◌∙◌, List, ℕ}
use Rattle.prelude.specs.Pages.{page_at}
use Rattle.prelude.proofs.Pages.{page-put_same}
use Rattle.chip.proofs.Cells.{in_flash, read-long}
use Rattle.runs.specs.Sheet.{sheet_of}
use Rattle.gather.proofs.Decoding.{to_mend, as_it_lies, found}
use Rattle.gather.proofs.sheet.in_flash.Goals as goal

pub mend_page-requires : goal.mend_page-requires
mend_page-requires c =
    (to_mend _ _ _ _ _ c.args.view.lent c.requires.0 _ c.look_page-seen.ensures c.in_default.is c.if-mended.true, c.requires.1)

pub returns-then-mended : goal.returns-then-mended
returns-then-mended c =
    let v = c.args.view in
    found _ _ _ _ _ v.lent c.requires.0 _ c.look_page-seen.ensures c.in_default.is _ (c.sheet_at-sheet.ensures
    ∙ ap (λ (x : List ℕ). sheet_of (page_at v.sizes.page_size x 0)) c.mend_page.ensures
    ∙ ap sheet_of (page-put_same _ _ 0 _ c.requires.1 (read-long _ _ _ _ v.lent.codes-lent c.requires.0)))

pub sheet_at-sheet-requires-else-mended : goal.sheet_at-sheet-requires-else-mended
sheet_at-sheet-requires-else-mended c = (in_flash _ _ _ _ c.args.view.lent _ c.requires.0, c.requires.2)

pub returns-else-mended : goal.returns-else-mended
returns-else-mended c =
    let v = c.args.view in
    found _ _ _ _ _ v.lent c.requires.0 _ c.look_page-seen.ensures c.in_default.is _ (c.sheet_at-sheet-else-mended.ensures
    ∙ ap sheet_of (sym (as_it_lies _ _ _ _ _ v.lent c.requires.0 _ c.look_page-seen.ensures c.in_default.is c.if-mended.false)))
