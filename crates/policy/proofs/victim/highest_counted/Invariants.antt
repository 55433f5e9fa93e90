use Rattle.cache.specs.View.{sizes_of, directory_of}
use Rattle.policy.proofs.Counts.{Counted}
use Rattle.policy.proofs.victim.highest_counted.Given as goal

-- the table counts the pages of each block in the slots before i, and lead is the highest rank met
abbrev pub invariant-loop-n : goal.invariant-loop-n
invariant-loop-n l = Counted (sizes_of l.fn.z) (directory_of l.directory) l.n-index l.counts l.lead
