use mathlib.Core.Path.{refl, ◌∙◌}
use Prim.Native.Nat.{◌≤◌, ◌<◌, ◌^◌}
use native.Mathlib.Omega.{arith}
use lib.ListN.{length, get_or, length-set}
use Rattle.print.specs.Print.{spaced}
use Rattle.print.proofs.Decimal.{decimal-word}
use Rattle.print.proofs.Lines.{spaced-more}
use Rattle.print.proofs.Put.{printed-none, printed-one, printed-then, printed-as}
use Rattle.print.proofs.put_numbers.Goals as goal

pub loop-n-init : goal.loop-n-init
unfolding spaced
loop-n-init c = (refl, printed-none _ _)

pub put_decimal-next-requires : goal.put_decimal-next-requires
put_decimal-next-requires c =
    let n = get_or c.args.numbers.now c.loop-n.n-index 0 in
    let f : n < 2 ^ 32 = omega arith in
    let d = decimal-word n f in
    simp length-set (omega arith)

pub loop-n-preserved : goal.loop-n-preserved
loop-n-preserved c =
    let a = c.args in
    let n = get_or a.numbers.now c.loop-n.n-index 0 in
    let f : n < 2 ^ 32 = omega arith in
    let d = decimal-word n f in
    let p = c.loop-n.invariant.1 in
    let q = c.put_decimal-next.ensures in
    let h : a.at ≤ length a.out.now = omega (arith, c.requires) in
    let k : c.loop-n.next < length c.loop-n.out = omega (arith, c.loop-n.invariant.0, p.within, c.requires, c.loop-n-test.true) in (
      c.put_decimal-next.auto.out ∙ simp length-set c.loop-n.invariant.0,
      printed-as (omega arith) (spaced-more a.numbers.now c.loop-n.n-index c.loop-n-test.true)
          (printed-then h p (printed-then (omega arith) (printed-one c.loop-n.out c.loop-n.next 32 k) q)),
    )
