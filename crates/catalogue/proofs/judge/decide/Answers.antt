use Rattle.std.proofs.Common.{arith}
use Rattle.std.proofs.lemmas.Result.{err_from_is_err_and}
use lib.ListN.{length-take}
use Rattle.catalogue.specs.View.{lent_seen}
use Rattle.catalogue.proofs.Judging.{refused_sheet, passed_sheets, decided_sheets, mended_sheets, ready-limits, ready_chip, gatherable}
use Rattle.catalogue.proofs.judge.decide.Goals as goal

pub slice_bounds-whole-end : goal.slice_bounds-whole-end
slice_bounds-whole-end c =
    let a = c.args in
    (ready-limits a.cache (lent_seen a.lent a.shelf.now) a.sheets c.requires).S_high

pub slice_bounds-gather-end : goal.slice_bounds-gather-end
slice_bounds-gather-end c =
    let a = c.args in
    let h = (ready-limits a.cache (lent_seen a.lent a.shelf.now) a.sheets c.requires).S_high in
    simp length-take (omega arith)

pub invariant_of-view : goal.invariant_of-view
invariant_of-view c =
    let a = c.args in
    record { lent = ready_chip a.cache (lent_seen a.lent a.shelf.now) a.sheets c.requires }

pub gather-requires : goal.gather-requires
gather-requires c =
    let a = c.args in
    let h = (ready-limits a.cache (lent_seen a.lent a.shelf.now) a.sheets c.requires).S_high in
    gatherable a.cache (lent_seen a.lent a.shelf.now) a.sheets c.requires _ (simp length-take (omega arith))

pub returns-in_err-gather : goal.returns-in_err-gather
returns-in_err-gather c =
    let a = c.args in
    let p = err_from_is_err_and c.from_residual.result c.from_residual.ensures.1 in
    rw (p.1, p.2) (refused_sheet a.cache (lent_seen a.lent a.shelf.now) a.sheets _ _ _ c.in_err-gather.ensures)

pub returns-in_err-v : goal.returns-in_err-v
returns-in_err-v c =
    let a = c.args in
    let p = err_from_is_err_and c.from_residual-in_err-v.result c.from_residual-in_err-v.ensures.1 in
    let g = c.in_ok-gather.ensures in
    rw (p.1, p.2) (
      passed_sheets a.cache (lent_seen a.lent a.shelf.now) a.sheets _ _ g,
      decided_sheets a.cache (lent_seen a.lent a.shelf.now) a.sheets _ _ g a.caller _ _ c.in_err-v.ensures,
    )

pub returns : goal.returns
returns c =
    let a = c.args in
    let g = c.in_ok-gather.ensures in (
      passed_sheets a.cache (lent_seen a.lent a.shelf.now) a.sheets _ _ g,
      decided_sheets a.cache (lent_seen a.lent a.shelf.now) a.sheets _ _ g a.caller _ _ c.in_ok-v.ensures,
      mended_sheets a.cache (lent_seen a.lent a.shelf.now) a.sheets _ _ g,
    )
