use Rattle.prelude.specs.Bits.{bit}
use Rattle.model.proofs.Plan.{Fewest}
use Rattle.cache.specs.View.{directory_of}
use Rattle.policy.proofs.choice.least_used.Given as goal

-- of the open frames at the first i places the one at place best has the fewest uses, and fewer than any before it
abbrev pub invariant-loop-i : goal.invariant-loop-i
invariant-loop-i l = Fewest (directory_of l.directory) (bit l.among) l.i l.best
