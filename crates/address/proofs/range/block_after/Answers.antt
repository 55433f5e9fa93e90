use mathlib.Core.Path.{sym, ap}
use Prim.Native.Nat.{ℕ}
use native.Mathlib.Omega.{arith}
use Rattle.address.proofs.Steps.{in_range}
use Rattle.address.proofs.range.block_after.Goals as goal

pub returns : goal.returns
returns c =
    let a = c.args in
    let l = c.loop-last in
    let e = l.invariant.0 in
    let t = c.loop-last-test.false in
    let k = c.requires.0 in
    ap (λ (x : ℕ). record { 0 = x }) (sym (in_range a.k l.b a.n.0 l.invariant.1 (omega arith)))
