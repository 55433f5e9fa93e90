use Rattle.runs.specs.Roles as roles
use Rattle.store.specs.View.{lent}
use Rattle.catalogue_c.proofs.Laws.{went-away, went_on}
use Rattle.catalogue_c.proofs.clash_run_read.Goals as goal

pub returns-then-role-gt2 : goal.returns-then-role-gt2
returns-then-role-gt2 c =
    let a = c.args in
    let u = lent a.flash.now a.codes.now a.marks.now a.wear.now a.pspace.now a.bspace.now a.shelf.now in
    went-away a.c u a.sheets a.role a.trainee (roles.read a.run a.index) a.page.now c.if-role-gt2.true _ c.from-answer.ensures

pub returns : goal.returns
returns c =
    let a = c.args in
    let u = lent a.flash.now a.codes.now a.marks.now a.wear.now a.pspace.now a.bspace.now a.shelf.now in
    went_on a.c u a.sheets a.role a.trainee (roles.read a.run a.index) a.page.now c.if-role-gt2.false c.caller-w.result c.caller-w.ensures _
    c.read-out.ensures _ c.from-answer-2.ensures
