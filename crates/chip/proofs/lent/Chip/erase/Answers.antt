use native.Mathlib.Numerals.{add-one}
use Rattle.prelude.proofs.Pages.{block-fits}
use Rattle.model.specs.Moves.{worn}
use Rattle.chip.proofs.Operations.{erased-by, codes-fit}
use Rattle.chip.proofs.lent.Chip.erase.Goals as goal

pub fill_page-requires : goal.fill_page-requires
fill_page-requires c =
    let q = c.args.self.now in
    rw c.mark_size.ensures (block-fits _ _ _ q.marks.now q.lent.marks-length _ c.requires.0)

pub fill_page-requires-2 : goal.fill_page-requires-2
fill_page-requires-2 c =
    let q = c.args.self.now in
    rw c.block_size.ensures (block-fits _ _ _ q.flash.now q.lent.codes-lent.flash-length _ c.requires.0)

pub overflow_mul-code : goal.overflow_mul-code
overflow_mul-code c =
    record { fits = codes-fit _ c.args.self.now.lent.codes-lent.limits _ c.code_size.ensures }

pub fill_page-requires-3 : goal.fill_page-requires-3
fill_page-requires-3 c =
    let q = c.args.self.now in
    rw c.code_size.ensures (block-fits _ _ _ q.codes.now q.lent.codes-lent.codes-length _ c.requires.0)

pub returns-clause-erased : goal.returns-clause-erased
unfolding worn
returns-clause-erased c =
    record {
      cells_are = erased-by _ _ _ _ _ c.args.self.now.lent c.requires.0 _ _ _ c.block_size.ensures c.code_size.ensures
          c.mark_size.ensures _ _ _ c.fill_page-2.ensures c.fill_page-3.ensures c.fill_page.ensures;
      wear-is = rw add-one;
    }
