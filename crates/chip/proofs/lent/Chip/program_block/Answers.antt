use native.Mathlib.Omega.{arith}
use mathlib.Core.Path.{refl}
use Rattle.chip.proofs.Operations.{block_none, block-all}
use Rattle.chip.proofs.lent.Chip.program_block.Goals as goal

pub returns-then-ops-eq0-clause-programmed : goal.returns-then-ops-eq0-clause-programmed
returns-then-ops-eq0-clause-programmed c = block_none _ _ _ _ _ _ _ _ c.args.self.now.lent.codes-lent.limits c.if-ops-eq0.true

pub returns-clause-programmed : goal.returns-clause-programmed
returns-clause-programmed c = let p = c.if-ops-eq0.false in let e = c.erase.ensures in let q = c.program_pages.ensures in
    rw q.wear (block-all _ _ _ _ _ _ _ _ _ _ c.args.self.now.lent.codes-lent.limits (omega arith) c.min-many.ensures refl _ _ _ _ _ _
    _ e.erased (rw e.loan.sizes at q.programmed))
