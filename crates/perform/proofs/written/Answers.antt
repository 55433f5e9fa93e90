use borrow.Author.Rules.{rules}
use mathlib.Core.Path.{ap, ◌∙◌}
use Prim.Native.Nat.{ℕ}
use lib.ListN.{replicate}
use Rattle.perform.proofs.Carrying.{none_left, write-carries}
use Rattle.perform.proofs.written.Goals as goal

pub returns : goal.returns
returns c =
    rw c.printed.ensures (write-carries _ _ _ (none_left _ _ _ _ _ _ _ (search rules) (search rules) (search rules)) _ _ _
    c.args.n.0 c.args.b _ (c.fill.ensures
    ∙ ap (λ (m : ℕ). replicate m c.args.b) c.requires.0) c.write-r.result c.write-r.ensures
    c.write.ensures)
