use mathlib.Core.Path.{refl}
use Rattle.std.proofs.lemmas.Result.{err_from_is_err_and}
use Rattle.model.specs.Calls as calls
use Rattle.model.specs.Sizes.{vacant}
use Rattle.model.specs.Shelf.{plainly}
use Rattle.shelving.proofs.OnLists.{quiet, turned_down_lem, plainly-on}
use Rattle.shelving.proofs.step.Goals as goal

pub returns-in_err-fitting-clause-shelved : goal.returns-in_err-fitting-clause-shelved
returns-in_err-fitting-clause-shelved c =
    let p = err_from_is_err_and c.from_residual.result c.from_residual.ensures.1 in let e = c.in_err-fitting.ensures in
    rw (p.1, p.2) (turned_down_lem _ _ _ _ _ _ (plainly (calls.step)) e.0 _ e.1)

pub returns-clause-shelved : goal.returns-clause-shelved
returns-clause-shelved c = plainly-on _ _ _ _ _ c.in_ok-fitting.ensures _ (calls.step)
    (quiet c.args.z.shelf_pages vacant refl) _ _ _ _ _ c.step.ensures.called
