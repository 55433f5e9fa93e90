use Rattle.std.proofs.Common.{sym, ◌∙◌, arith}
use Rattle.model.proofs.Plan.{valid-low}
use Rattle.cache.specs.View.{sizes_of, directory_of}
use Rattle.chip.proofs.Leaves.{no-option}
use Rattle.chip.proofs.Looking.{looked-plain}
use Rattle.moves.proofs.Offset.{block_in}
use Rattle.clean.proofs.Cleaning.{merges-looked, joined-set}
use Rattle.clean.proofs.look.Goals as goal

pub returns-then-view : goal.returns-then-view
returns-then-view c = let q = c.args.view in let none = no-option (sizes_of q.sizes) c.if-view.true in
    merges-looked _ _ _ _ _ _ _ _ (looked-plain _ _ _ _ _ _ q.lent c.requires.block.b_lt none.0 none.1)

pub offsets-v-requires : goal.offsets-v-requires
unfolding directory_of
offsets-v-requires c = let q = c.requires in (block_in _ _ _ q.sound q.block.b_lt, valid-low _ _ q.sound c.args.f q.block.f_lt)

pub returns : goal.returns
unfolding directory_of
returns c = let q = c.requires in let l = q.block.f_lt in let h = q.sound.limits.B_high in let k = q.sound.shape.valid-length in
    let e = joined-set _ (directory_of c.args.directory.now) _ c.args.f (omega arith) in
    merges-looked _ _ _ _ _ _ _ _ (rw (c.offsets-v.ensures ∙ sym e) at c.look_block.ensures)
