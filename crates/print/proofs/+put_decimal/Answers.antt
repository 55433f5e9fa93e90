use native.Mathlib.Omega.{arith}
use mathlib.Core.Path.{sym, ap, ◌∙◌}
use mathlib.Core.List.{[], ◌∷◌, ◌++◌}
use Prim.Native.Nat.{ℕ, ◌≤◌, ◌<◌, ◌/◌}
use Rattle.print.specs.Text.{decimal}
use Rattle.print.proofs.Decimal.{decimal-one, decimal-more, length-one, length_more}
use Rattle.print.proofs.Put.{printed-one, printed-then, printed-as}
use Rattle.print.proofs.+put_decimal.Goals as goal

pub bounds-out-at : goal.bounds-out-at
bounds-out-at t c =
    let d = length-one c.args.n (omega arith) in
    omega arith

pub returns-then-n-lt10 : goal.returns-then-n-lt10
returns-then-n-lt10 t c =
    let h : c.args.n < 10 = omega arith in
    let d = length-one c.args.n h in
    printed-as (omega arith) (ap (λ (x : ℕ). x ∷ []) c.digit.ensures ∙ sym (decimal-one c.args.n h))
    (printed-one c.args.out.now c.args.at c.digit.result (omega arith))

pub put_decimal-next-requires : goal.put_decimal-next-requires
put_decimal-next-requires t c =
    let d = length_more c.args.n (omega arith) in
    omega arith

pub bounds-out-next : goal.bounds-out-next
bounds-out-next t c =
    let d = length_more c.args.n (omega arith) in
    omega arith

pub overflow_add-result-2 : goal.overflow_add-result-2
overflow_add-result-2 t c =
    let d = length_more c.args.n (omega arith) in
    omega arith

pub returns : goal.returns
returns t c =
    let h : 10 ≤ c.args.n = omega arith in
    let d = length_more c.args.n h in
    let p = c.put_decimal-next.ensures in
    printed-as (omega arith) (ap (λ (x : ℕ). decimal (c.args.n / 10) ++ (x ∷ [])) c.digit-2.ensures ∙ sym (decimal-more c.args.n h))
    (printed-then (omega arith) p (printed-one c.put_decimal-next.new.out c.put_decimal-next.result c.digit-2.result (omega arith)))
