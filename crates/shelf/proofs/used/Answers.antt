use native.Mathlib.Omega.{arith}
use mathlib.Core.Path.{◌∙◌}
use borrow.Author.Tests.{eq-eqb}
use Rattle.prelude.proofs.Scan.{first-is}
use Rattle.model.specs.Sizes.{vacant}
use Rattle.model.specs.Shelf.{shelved}
use Rattle.model.proofs.Demand3.{get_d_any}
use Rattle.shelf.proofs.used.Goals as goal

pub returns-then-e : goal.returns-then-e
unfolding shelved
returns-then-e c =
    first-is 8 _ c.loop-i.i (omega arith) c.loop-i.invariant
    (λ l. eq-eqb _ vacant (get_d_any c.args.entries.now c.loop-i.i vacant 0 (omega arith) ∙ c.if-e.true))

pub returns : goal.returns
unfolding shelved
returns c = first-is 8 _ 8 (omega arith) (λ j l. c.loop-i.invariant j (omega arith)) (λ l. absurd (omega arith))
