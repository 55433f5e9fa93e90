use Rattle.std.proofs.Common.{arith}
use Rattle.policy.proofs.Counts.{cleared_zeros}
use Rattle.policy.proofs.victim.highest_rank.Goals as goal

pub highest_counted-requires : goal.highest_counted-requires
highest_counted-requires c = (c.requires, cleared_zeros _ 256 (omega arith))

pub highest_counted-requires-2 : goal.highest_counted-requires-2
highest_counted-requires-2 c = (c.requires, cleared_zeros _ 4096 c.requires.sound.limits.N_high)
