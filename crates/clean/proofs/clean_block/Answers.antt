use Rattle.std.proofs.Common.{arith}
use Rattle.cache.specs.View.{directory_of}
use Rattle.clean.proofs.Cleaning.{rewritable, cleaned}
use Rattle.clean.proofs.clean_block.Goals as goal

pub rewrite-requires : goal.rewrite-requires
unfolding directory_of
rewrite-requires c = let q = c.args.chip.now in
    rewritable c.requires q.lent q.wear_length _ _ c.join.ensures.directory (omega (arith, c.join.auto))

pub returns-clause-cleaned : goal.returns-clause-cleaned
unfolding directory_of
returns-clause-cleaned c = rw c.vacate_frame.ensures (cleaned c.requires _ _ c.join.ensures _ _ _ _ _ _ _ c.rewrite.ensures.rewritten)
