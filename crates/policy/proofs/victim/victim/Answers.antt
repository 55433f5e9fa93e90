use Rattle.std.proofs.Common.{◌≤◌, arith}
use Rattle.policy.proofs.Counts.{rank-low, rank-apart}
use Rattle.policy.proofs.victim.victim.Goals as goal
use Rattle.policy.proofs.victim.victim.Goals.{After-highest_rank-lead}

small : (c : After-highest_rank-lead) → c.highest_rank-lead.result ≤ 524288
small c = rank-low _ _ c.requires.sound.limits _ c.highest_rank-lead.ensures

pub overflow_add-pages : goal.overflow_add-pages
overflow_add-pages c = let l = small c in record { fits = omega arith }

pub overflow_mul-block : goal.overflow_mul-block
overflow_mul-block c = let l = small c in record { fits = omega arith }

pub returns : goal.returns
returns c = rank-apart _ _ c.requires.sound.limits _ c.highest_rank-lead.ensures
