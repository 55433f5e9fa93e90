use native.Mathlib.Omega.{arith}
use mathlib.Core.Path.{refl, sym, ap, ◌∙◌}
use mathlib.Core.Bool.{not}
use Rattle.model.specs.Calls as calls
use Rattle.answer.proofs.Refusals.{write_refused}
use Rattle.shelving.proofs.OnLists.{room-on, kept_on}
use Rattle.shelving.proofs.keep.write.Goals as goal

pub keep-requires : goal.keep-requires
keep-requires c accepted =
    let a = c.args in
    let p = c.requires in
    room-on _ _ _ _ _ p.0 p.1 a.n.0 (calls.write a.n.0 a.page.now) refl _ _ _ _ _ _ _ c.write-answer.ensures.called
    (omega (arith, c.write-answer.auto)) (write_refused c.write-answer.result ∙ ap not accepted)

pub returns-clause-shelved : goal.returns-clause-shelved
returns-clause-shelved c =
    let a = c.args in
    let p = c.requires in
    kept_on _ _ _ _ _ p.0 p.1 a.n.0 (calls.write a.n.0 a.page.now) refl _ _ _ _ _ _ _ _ _ c.write-answer.ensures.called
    (rw (sym (write_refused c.write-answer.result)) at c.keep.ensures) (omega (arith, c.keep.auto))
