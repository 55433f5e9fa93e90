use Rattle.std.proofs.Common.{arith}
use lib.ListN.{length-take}
use Rattle.catalogue.specs.View.{lent_to}
use Rattle.catalogue.proofs.Judging.{ready-limits}
use Rattle.catalogue.proofs.write.put_apart.Goals as goal

pub slice_bounds-whole-end : goal.slice_bounds-whole-end
slice_bounds-whole-end c =
    let a = c.args in
    (ready-limits a.cache (lent_to a.lent.now a.pspace.now a.shelf.now) a.sheets c.requires.1.ready).S_high

pub slice_bounds-put_sheet-end : goal.slice_bounds-put_sheet-end
slice_bounds-put_sheet-end c =
    let a = c.args in
    let h = (ready-limits a.cache (lent_to a.lent.now a.pspace.now a.shelf.now) a.sheets c.requires.1.ready).S_high in
    simp length-take (omega arith)

pub put_sheet-requires : goal.put_sheet-requires
put_sheet-requires c =
    let a = c.args in
    let h = (ready-limits a.cache (lent_to a.lent.now a.pspace.now a.shelf.now) a.sheets c.requires.1.ready).S_high in
    (c.requires.0, (c.requires.1, simp length-take (omega arith)))
