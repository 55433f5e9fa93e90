use Rattle.std.proofs.Common.{sym, arith, below_more}
use Rattle.prelude.proofs.Scan.{first-is}
use Rattle.model.specs.Policy.{slot_of}
use Rattle.cache.specs.View.{directory_of}
use Rattle.cache.proofs.View.{slot-of}
use Rattle.cache.proofs.Among.{among_one}
use Rattle.policy.proofs.lookup.slot_of.Goals as goal

pub loop-i-init : goal.loop-i-init
unfolding directory_of
loop-i-init c j l = among_one _ _ (c.passed-from.ensures.1 j (omega arith) l)

pub returns-then-eq-clause-found : goal.returns-then-eq-clause-found
unfolding slot_of
returns-then-eq-clause-found c = let l = c.loop-i in first-is _ _ l.i (omega arith) l.invariant (λ k. rw slot-of (sym c.if-eq.ensures))

pub loop-i-preserved : goal.loop-i-preserved
loop-i-preserved c = below_more _ _ c.loop-i.invariant (rw slot-of (sym c.if-eq.ensures))

pub returns-clause-found : goal.returns-clause-found
unfolding slot_of
returns-clause-found c = first-is _ _ _ (omega arith) (λ j b. c.loop-i.invariant j (omega arith)) (λ k. absurd (omega arith))
