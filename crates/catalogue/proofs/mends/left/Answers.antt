use Rattle.std.proofs.Common.{◌≡◌, ℕ, ap, ◌∙◌, arith}
use Rattle.catalogue.specs.Kinds.{left_mends}
use Rattle.catalogue.proofs.Totals.{kept_low, left-none, left-next, left-low}
use Rattle.catalogue.proofs.mends.left.Goals as goal

pub loop-i-init : goal.loop-i-init
loop-i-init c = left-none _ _ _ _ _ c.requires.0

pub overflow_add-sum : goal.overflow_add-sum
overflow_add-sum c =
    let a = c.args in
    let l = c.loop-i-test.true in
    let f = c.requires.0.few in
    let e = c.loop-i.invariant in
    let low = left-low a.c a.k a.b.0 a.at a.m.now c.requires.0 c.loop-i.i (omega arith) in
    let more = kept_low a.c a.k a.b.0 a.at a.m.now c.requires.0 c.loop-i.i l in
    let o = c.one-sum.ensures in
    record { fits = omega arith }

pub loop-i-preserved : goal.loop-i-preserved
loop-i-preserved c =
    let a = c.args in
    let n = left-next a.c a.k a.b.0 a.at a.m.now c.requires.0 c.loop-i.i in
    let e = c.loop-i.invariant in
    let o = c.one-sum.ensures in
    omega arith

pub returns : goal.returns
returns c =
    let a = c.args in
    let f = c.requires.0.few in
    let low = left-low a.c a.k a.b.0 a.at a.m.now c.requires.0 c.loop-i.i (omega arith) in
    let e = c.loop-i.invariant in
    let same : c.loop-i.i ≡ a.c = omega arith in
    (e ∙ ap (λ (n : ℕ). left_mends n a.k a.b.0 a.at a.m.now) same, omega arith)
