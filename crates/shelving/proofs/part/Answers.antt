use Rattle.std.proofs.lemmas.Result.{err_from_is_err_and}
use Rattle.model.specs.Calls as calls
use Rattle.model.specs.Shelf.{plainly}
use Rattle.shelving.proofs.OnLists.{part-quiet, turned_down_lem, plainly-on}
use Rattle.shelving.proofs.part.Goals as goal

pub returns-in_err-fitting-clause-shelved : goal.returns-in_err-fitting-clause-shelved
returns-in_err-fitting-clause-shelved c =
    let p = err_from_is_err_and c.from_residual.result c.from_residual.ensures.1 in let e = c.in_err-fitting.ensures in
    rw (p.1, p.2) (turned_down_lem _ _ _ _ _ _ (plainly (calls.part c.args.n.0 c.args.first c.args.bytes.now c.args.page.now)) e.0 _ e.1)

pub returns-clause-shelved : goal.returns-clause-shelved
returns-clause-shelved c =
    let a = c.args in
    plainly-on _ _ _ _ _ c.in_ok-fitting.ensures _ (calls.part a.n.0 a.first a.bytes.now a.page.now)
    (part-quiet a.z.shelf_pages a.n.0 a.bytes.now (rw (← c.is_empty.ensures) c.if-z-is_empty.false)) _ _ _ _ _ c.write.ensures.called
