use Rattle.std.proofs.Common.{◌<◌, ◌^◌, get_or, rules, ne_eqb}
use Rattle.model.specs.Moves.{touched, recency_after}
use Rattle.cache.specs.View.{directory_of}
use Rattle.moves.proofs.Recency.{one_more}
use Rattle.moves.proofs.numbers.used.Goals as goal

pub returns-then-z-ne1 : goal.returns-then-z-ne1
unfolding directory_of touched recency_after
returns-then-z-ne1 c =
    let h : get_or c.args.directory.now.uses c.args.f 0 < 2 ^ 32 = search rules in
    rw (c.if-filling.false, ne_eqb _ 1 c.if-z-ne1.true, c.touch-then-z-ne1.ensures, c.saturating_add.ensures, one_more _ h)
