use Rattle.std.proofs.Common.{sym, arith}
use Rattle.prelude.proofs.Tests.{clash}
use Rattle.prelude.proofs.Scan.{first-is}
use Rattle.cache.specs.View.{directory_of}
use Rattle.policy.proofs.choice.first_open.Goals as goal

pub returns-then-has-clause-found : goal.returns-then-has-clause-found
unfolding directory_of
returns-then-has-clause-found c = let l = c.loop-i in first-is _ _ l.i (omega arith) l.invariant (λ k. sym c.if-has.ensures)

pub unreachable-requires : goal.unreachable-requires
unreachable-requires c =
    let p = c.requires in
    let at = p.listed.recency-has p.frame p.frame-lt in
    let l = at.1 in
    clash (rw at.2 p.frame-open) (c.loop-i.invariant at.0 (omega arith))
