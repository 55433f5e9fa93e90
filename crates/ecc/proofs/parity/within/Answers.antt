use native.Mathlib.Omega.{arith}
use mathlib.Core.Path.{◌≡◌, ap, ◌∙◌}
use Prim.Native.Nat.{ℕ, ◌/◌, ◌%◌}
use Rattle.ecc.specs.Words.{num, odd_at}
use Rattle.ecc.proofs.Fold.{fold3, fold_one, fold_two, fold_four, parity-is, low-is, high_is, byte-parity, byte-place}
use Rattle.ecc.proofs.parity.within.Goals as goal

pub returns : goal.returns
returns c =
    let x = c.args.x in
    let e = c.entry-e.ensures.0 in
    let d0 : c.entry-e.result % 2 ≡ num (odd_at x 0) = (let z : c.entry-e.result % 2
    ≡ c.entry-e.result / 1 % 2 = omega arith in z) ∙ ap (λ (y : ℕ). y / 1 % 2) e ∙ byte-place (fold3 x) 0 (omega arith)
    ∙ ap num (low-is x 0 (omega arith)) in
    let d1 : c.entry-e.result / 2 % 2 ≡ num (odd_at x 1) = ap (λ (y : ℕ). y / 2 % 2) e ∙ byte-place (fold3 x) 1 (omega arith)
    ∙ ap num (low-is x 1 (omega arith)) in
    let d2 : c.entry-e.result / 4 % 2 ≡ num (odd_at x 2) = ap (λ (y : ℕ). y / 4 % 2) e ∙ byte-place (fold3 x) 2 (omega arith)
    ∙ ap num (low-is x 2 (omega arith)) in
    let d3 : c.low-three.result ≡ num (odd_at x 3) = c.low-three.ensures.0 ∙ ap num (high_is x 0 _ (fold_one x)) in
    let d4 : c.low-four.result ≡ num (odd_at x 4) = c.low-four.ensures.0 ∙ ap num (high_is x 1 _ (fold_two x)) in
    let d5 : c.low-five.result ≡ num (odd_at x 5) = c.low-five.ensures.0 ∙ ap num (high_is x 2 _ (fold_four x)) in
    let h3 = c.low-three.ensures.1 in
    let h4 = c.low-four.ensures.1 in
    let h5 = c.low-five.ensures.1 in
    record {
      parity = ap (λ (y : ℕ). y / 8) e ∙ byte-parity (fold3 x) ∙ ap num (parity-is x);
      digits = rw (d0, d1, d2, d3, d4, d5);
      digits-high = omega arith;
    }
