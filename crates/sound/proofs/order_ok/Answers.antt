use native.Mathlib.Omega.{arith}
use mathlib.Core.Path.{sym}
use Rattle.model.specs.Soundness.{listed_once}
use Rattle.cache.specs.View.{directory_of}
use Rattle.sound.proofs.Order.{entered-none, entered-more, order-over, order-full}
use Rattle.sound.proofs.order_ok.Goals as goal

pub loop-i-init : goal.loop-i-init
loop-i-init c = entered-none _ _

pub returns-then-sizes-f : goal.returns-then-sizes-f
unfolding listed_once directory_of
returns-then-sizes-f c = sym (order-over _ _ c.loop-i.i (omega arith) c.if-sizes-f.true)

pub loop-i-preserved : goal.loop-i-preserved
loop-i-preserved c =
    rw c.with-listed.ensures (entered-more _ _ c.loop-i.i c.loop-i.listed c.if-sizes-f.false c.loop-i.invariant)

pub returns : goal.returns
unfolding listed_once directory_of
returns c = rw c.first.ensures (order-full _ _ c.loop-i.i c.loop-i.listed (omega arith) c.loop-i.invariant)
