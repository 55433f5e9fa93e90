use mathlib.Core.Path.{sym, ◌∙◌}
use Rattle.chip.proofs.Cells.{in_flash, page-lent, read_whole, read-raw, legible, number-none}
use Rattle.chip.proofs.lent.View.read_page.Goals as goal

pub mend_page-requires : goal.mend_page-requires
mend_page-requires c = (
  legible _ _ _ _ _ (page-lent c.args.self.lent c.requires.0) _ c.look_page-seen.ensures c.args.dst.now c.args.di
      (number-none _ (sym c.is_some.ensures ∙ c.if-is_some.false)) c.if-seen-ne0.true,
  c.requires.1,
)

pub returns-then-seen-ne0 : goal.returns-then-seen-ne0
returns-then-seen-ne0 c =
    read_whole _ _ _ _ _ (page-lent c.args.self.lent c.requires.0) _ c.look_page-seen.ensures _ _
    (number-none _ (sym c.is_some.ensures ∙ c.if-is_some.false)) _ c.mend_page.ensures

pub copy_page-requires : goal.copy_page-requires
copy_page-requires c = let q = c.args.self.lent in
    (c.requires.1, in_flash _ _ _ _ q _ c.requires.0)

pub returns : goal.returns
returns c =
    read-raw _ _ _ _ _ (page-lent c.args.self.lent c.requires.0) _ c.look_page-seen.ensures _ _
    (number-none _ (sym c.is_some.ensures ∙ c.if-is_some.false)) c.if-seen-ne0.false _ c.copy_page.ensures
