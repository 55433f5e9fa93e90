use Rattle.std.proofs.Common.{◌∙◌, ap, eqb, arith}
use Rattle.std.specs.Option.{unwrap_or}
use Rattle.cache.specs.View.{directory_of}
use Rattle.moves.proofs.Position.{position_take, position_low}
use Rattle.moves.proofs.numbers.position.Goals as goal

pub returns-clause-at : goal.returns-clause-at
unfolding directory_of
returns-clause-at c = let b = c.requires.B_high in
    ap (λ r. unwrap_or r c.args.z.frames) c.place_of.ensures
    ∙ position_take (λ g. eqb g c.args.f) c.args.directory.now.recency c.args.z.frames (omega arith)

pub returns-clause-low : goal.returns-clause-low
returns-clause-low c = let b = c.requires.B_high in
    position_low (λ g. eqb g c.args.f) c.args.directory.now.recency c.args.z.frames (omega arith) _ c.place_of.ensures
