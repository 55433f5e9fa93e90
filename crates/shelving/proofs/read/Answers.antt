use mathlib.Core.Path.{refl}
use Rattle.std.proofs.lemmas.Result.{err_from_is_err_and}
use Rattle.model.specs.Calls as calls
use Rattle.model.specs.Sizes.{vacant}
use Rattle.model.specs.Shelf.{plainly}
use Rattle.shelving.proofs.OnLists.{quiet, turned_down-is, plainly-is}
use Rattle.shelving.proofs.read.Goals as goal

pub returns-in_err-fitting : goal.returns-in_err-fitting
returns-in_err-fitting c =
    let p = err_from_is_err_and c.from_residual.result c.from_residual.ensures.1 in let e = c.in_err-fitting.ensures in
    rw (p.1, p.2) (turned_down-is _ _ _ _ _ (plainly (calls.read c.args.n.0 c.args.page.now)) e.0 _ e.1)

pub returns : goal.returns
returns c = plainly-is _ _ _ _ _ c.in_ok-fitting.ensures (calls.read c.args.n.0 c.args.page.now)
    (quiet c.args.z.shelf_pages vacant refl) _ _ _ _ _ _ refl c.read.ensures
