use Rattle.std.proofs.Common.{sym, ◌∙◌, arith}
use Rattle.cache.proofs.Among.{clear_more}
use Rattle.cache.proofs.search.passed.Goals as goal

pub loop-at-preserved : goal.loop-at-preserved
loop-at-preserved c =
    let l = c.loop-at in
    (omega arith, clear_more _ _ _ _ l.at 16 l.invariant.1 (sym c.without.ensures ∙ c.if-not-without.false))
