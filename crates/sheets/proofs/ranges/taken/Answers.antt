use Rattle.std.proofs.Common.{sym, ap, not, arith}
use Rattle.prelude.proofs.Tests.{not-i}
use Rattle.prelude.proofs.Scan.{all_of, all-fails}
use Rattle.runs.specs.Ranges.{taken}
use Rattle.sheets.proofs.ranges.taken.Goals as goal

pub returns-then-claims : goal.returns-then-claims
unfolding taken
returns-then-claims c = sym (ap not (all-fails _ _ c.loop-i.i (omega arith) (ap not (sym c.if-claims.ensures))))

pub returns : goal.returns
unfolding taken
returns c = sym (ap not (all_of _ _ (λ j l. not-i (c.loop-i.invariant j (omega arith)))))
