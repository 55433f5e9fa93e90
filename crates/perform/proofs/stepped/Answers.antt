use borrow.Author.Rules.{rules}
use mathlib.Core.Path.{refl}
use Rattle.perform.proofs.Carrying.{none_left, step-carries}
use Rattle.perform.proofs.stepped.Goals as goal

pub returns : goal.returns
returns c =
    rw c.printed.ensures (step-carries _ _ _ (none_left _ _ _ _ _ _ _ (search rules) (search rules) refl) _ _ _
    c.flush_step-r.result c.flush_step-r.ensures c.step.ensures)
