use native.Mathlib.Omega.{arith}
use mathlib.Core.Path.{◌∙◌}
use Rattle.cache.specs.View.{sizes_of}
use Rattle.lent.specs.Lengths.{lengths_ok}
use Rattle.lent.proofs.Lengths.{codes-small, lengths-lent}
use Rattle.lent.proofs.LentView.fits.Goals as goal

pub overflow_mul-result-2 : goal.overflow_mul-result-2
overflow_mul-result-2 c =
    let h = codes-small (sizes_of c.args.z) c.requires in
    rw c.code_size-code.ensures (omega arith)

pub returns-clause-lengths : goal.returns-clause-lengths
unfolding lengths_ok
returns-clause-lengths c = rw (c.code_size-code.ensures, c.mark_size-mark.ensures)

pub returns-clause-lent : goal.returns-clause-lent
returns-clause-lent c = returns-clause-lengths c ∙ lengths-lent _ _ _ _ _ _ _
