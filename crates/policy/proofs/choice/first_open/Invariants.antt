use Rattle.prelude.specs.Bits.{bit}
use Rattle.prelude.proofs.Scan.{Missed}
use Rattle.model.specs.Directory.{recency_at}
use Rattle.cache.specs.View.{directory_of}
use Rattle.policy.proofs.choice.first_open.Given as goal

-- the frames at the first i places are not open
abbrev pub invariant-loop-i : goal.invariant-loop-i
invariant-loop-i l = Missed (λ j. bit l.among (recency_at (directory_of l.directory) j)) l.i
