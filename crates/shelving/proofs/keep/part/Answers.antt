use borrow.Author.Tests.{ne_eqb}
use mathlib.Core.Path.{sym, ap, ◌∙◌}
use mathlib.Core.Bool.{not}
use native.Mathlib.Omega.{arith}
use Rattle.model.specs.Calls as calls
use Rattle.answer.proofs.Refusals.{write_refused}
use Rattle.shelving.proofs.OnLists.{room-on, kept_on}
use Rattle.shelving.proofs.keep.part.Goals as goal

pub keep-requires : goal.keep-requires
keep-requires c accepted =
    let a = c.args in
    let p = c.requires in
    room-on _ _ _ _ _ p.0 p.1 a.n.0 (calls.part a.n.0 a.first a.bytes.now a.page.now) (rw (ne_eqb _ 0 p.2)) _ _ _ _ _ _ _
    c.part-answer.ensures.called (omega (arith, c.part-answer.auto)) (write_refused c.part-answer.result ∙ ap not accepted)

pub returns-clause-shelved : goal.returns-clause-shelved
returns-clause-shelved c =
    let a = c.args in
    let p = c.requires in
    kept_on _ _ _ _ _ p.0 p.1 a.n.0 (calls.part a.n.0 a.first a.bytes.now a.page.now) (rw (ne_eqb _ 0 p.2)) _ _ _ _ _ _ _ _ _
    c.part-answer.ensures.called (rw (sym (write_refused c.part-answer.result)) at c.keep.ensures) (omega (arith, c.keep.auto))
