use Rattle.std.proofs.Common.{ap, ◌∙◌}
use Rattle.cache.specs.View.{directory_of}
use Rattle.moves.proofs.Offset.{block_in}
use Rattle.model.specs.Directory.{Directory}
use Rattle.model.specs.Moves.{vacated}
use Rattle.clean.proofs.Cleaning.{forgotten}
use Rattle.clean.proofs.forget.Goals as goal

pub vacate-requires : goal.vacate-requires
vacate-requires c = block_in _ _ _ c.requires.sound c.requires.block.b_lt

pub returns : goal.returns
returns c = c.vacate_frame.ensures ∙ ap (λ (x : Directory). vacated x c.args.f) c.vacate.ensures
    ∙ forgotten _ (directory_of c.args.directory.now) _ _
