use mathlib.Core.Bool.{xor}
use Rattle.prelude.proofs.Scan.{all_more}
use Rattle.ecc.proofs.Marks.{pair_at}
use Rattle.ecc.proofs.chunk.paired.Goals as goal

pub loop-i-preserved : goal.loop-i-preserved
unfolding xor
loop-i-preserved c = all_more (pair_at c.args.x) c.loop-i.i c.loop-i.invariant (rw (c.has-a.ensures, c.has-b.ensures))
