use mathlib.Core.Path.{sym, ap}
use Prim.Native.Nat.{ℕ, ◌*◌, ◌/◌}
use native.Mathlib.Omega.{arith}
use Rattle.address.proofs.Steps.{in_range}
use Rattle.address.proofs.range.block_by.Goals as goal

pub returns-then-n-first : goal.returns-then-n-first
returns-then-n-first c = c.block_before.ensures

pub returns : goal.returns
returns c =
    let k = c.requires.0 in
    let t = c.if-last-n.false in
    ap (λ (x : ℕ). record { 0 = x }) (sym (in_range c.args.k (c.args.n.0 * c.args.m / 4294967296) c.args.n.0
    c.if-n-first.false (omega arith)))
