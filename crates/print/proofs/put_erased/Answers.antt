use native.Mathlib.Omega.{arith}
use mathlib.Core.Path.{sym, ap}
use mathlib.Core.Bool.{Bool, cond}
use mathlib.Core.List.{[], ◌∷◌, ◌++◌}
use borrow.Author.Tests.{eq-eqb, ne_eqb}
use Rattle.print.specs.Text.{bytes, form, items, decimal}
use Rattle.print.proofs.Put.{printed-as}
use Rattle.print.proofs.put_erased.Goals as goal

pub returns-then-block-eq-VACANT : goal.returns-then-block-eq-VACANT
unfolding form items
returns-then-block-eq-VACANT c =
    printed-as (omega arith)
    (ap (λ (x : Bool). 32 ∷ (40 ∷ (bytes "erased" ++ (32 ∷ (cond x (bytes "none") (decimal c.args.block) ++ (41 ∷ []))))))
    (sym (eq-eqb _ _ c.if-block-eq-VACANT.true))) c.put_bytes.ensures

pub returns : goal.returns
unfolding form items
returns c =
    printed-as (omega arith)
    (ap (λ (x : Bool). 32 ∷ (40 ∷ (bytes "erased" ++ (32 ∷ (cond x (bytes "none") (decimal c.args.block) ++ (41 ∷ []))))))
    (sym (ne_eqb _ _ c.if-block-eq-VACANT.false))) c.put_field.ensures
