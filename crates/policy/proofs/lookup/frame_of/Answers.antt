use Rattle.std.proofs.Common.{sym, arith, below_more}
use Rattle.prelude.proofs.Scan.{first-is}
use Rattle.model.specs.Policy.{frame_of}
use Rattle.cache.proofs.View.{frame-of}
use Rattle.policy.proofs.lookup.frame_of.Goals as goal

pub returns-then-eq-clause-found : goal.returns-then-eq-clause-found
unfolding frame_of
returns-then-eq-clause-found c = let l = c.loop-f in first-is _ _ l.f (omega arith) l.invariant (λ k. rw frame-of (sym c.if-eq.ensures))

pub loop-f-preserved : goal.loop-f-preserved
loop-f-preserved c = below_more _ _ c.loop-f.invariant (rw frame-of (sym c.if-eq.ensures))

pub returns-clause-found : goal.returns-clause-found
unfolding frame_of
returns-clause-found c = first-is _ _ _ (omega arith) (λ j b. c.loop-f.invariant j (omega arith)) (λ k. absurd (omega arith))
