use mathlib.Core.Path.{refl, ap, ◌∙◌}
use Prim.Native.Nat.{ℕ}
use lib.ListN.{replicate}
use Rattle.perform.proofs.Carrying.{read-carries}
use Rattle.perform.proofs.was_read.Goals as goal

pub returns : goal.returns
returns c =
    rw c.printed.ensures (read-carries _ _ _ refl _ _ _ c.args.n.0 _ _ _ (c.fill.ensures ∙ ap (λ (m : ℕ). replicate {A = ℕ} m 0)
    c.requires.0)
    c.read-r.result c.read-r.ensures c.first.ensures c.read.ensures)
