use Rattle.runs.specs.Roles as roles
use Rattle.store.specs.View.{lent}
use Rattle.cut_c.proofs.Laws.{cut-away, cut_on}
use Rattle.cut_c.proofs.clash_cut_run_replace.Goals as goal

pub returns-then-role-gt2 : goal.returns-then-role-gt2
returns-then-role-gt2 c =
    let a = c.args in
    let u = lent a.flash.now a.codes.now a.marks.now a.wear.now a.pspace.now a.bspace.now a.shelf.now in
    cut-away a.c u a.sheets a.role a.trainee (roles.replace a.run a.sample a.first a.count) a.page.now a.ops _ c.if-role-gt2.true c.blank.ensures

pub returns : goal.returns
returns c =
    let a = c.args in
    let u = lent a.flash.now a.codes.now a.marks.now a.wear.now a.pspace.now a.bspace.now a.shelf.now in
    cut_on a.c u a.sheets a.role a.trainee (roles.replace a.run a.sample a.first a.count) a.page.now a.ops _ c.if-role-gt2.false c.caller-w.result
    c.caller-w.ensures _ c.cut_replace.ensures
