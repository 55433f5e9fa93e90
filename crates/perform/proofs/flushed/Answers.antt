use borrow.Author.Rules.{rules}
use mathlib.Core.Path.{refl}
use Rattle.perform.proofs.Carrying.{none_left, flush-carries}
use Rattle.perform.proofs.flushed.Goals as goal

pub returns : goal.returns
returns c =
    rw c.printed.ensures (flush-carries _ _ _ (none_left _ _ _ _ _ _ _ (search rules) (search rules) refl) _ _ _ c.flush-r.result
    c.flush-r.ensures c.flush.ensures)
