use borrow.Author.Rules.{rules}
use mathlib.Core.Path.{◌≡◌, subst, sym, ap, ◌∙◌}
use mathlib.Core.Logic.{inl, inr}
use mathlib.Core.List.{◌∷◌}
use Prim.Native.Nat.{ℕ, ◌<◌, ◌+◌, ◌-◌}
use native.Mathlib.Omega.{arith}
use lib.ListN.{length, take, drop, length-set}
use Rattle.script.specs.Parts.{up_to, number_of, words_after, NumbersOf}
use Rattle.script.proofs.Words.{end-le, piece_is, next_word}
use Rattle.script.proofs.Value.{number-some, number-other}
use Rattle.script.proofs.Args.{ReadTo, read_none, read_more, read-stop}
use Rattle.script.proofs.read_numbers.Goals as goal

pub loop-at-init : goal.loop-at-init
loop-at-init c = (search rules, (search rules, (search rules, read_none _ _)))

pub returns-then-count-eq11 : goal.returns-then-count-eq11
returns-then-count-eq11 c =
    let s = c.args.s.now in
    let r = rw (next_word s c.loop-at.at c.loop-at-test.true) at c.loop-at.invariant.1.1.1 in
    read-stop r (inr c.if-count-eq11.true)

pub slice_bounds-number-end : goal.slice_bounds-number-end
slice_bounds-number-end c =
    let k = end-le 32 c.args.s.now (c.loop-at.at + 1) (omega arith) in
    let e = c.end_of-e.ensures in
    omega arith

pub returns-in_err-values : goal.returns-in_err-values
returns-in_err-values c =
    let s = c.args.s.now in
    let a = c.loop-at.at + 1 in
    let e = c.end_of-e.ensures in
    let w = up_to 32 (drop a s) in
    let v : c.number.result ≡ number_of w = c.number.ensures
    ∙ ap number_of (ap (λ (k : ℕ). take (k - a) (drop a s)) e ∙ piece_is 32 s a) in
    let r : ReadTo (words_after s c.args.from) (w ∷ words_after s c.end_of-e.result) c.loop-at.count c.loop-at.values =
    rw (next_word s c.loop-at.at c.loop-at-test.true ∙ ap (λ (k : ℕ). w ∷ words_after s k) (sym e)) at c.loop-at.invariant.1.1.1 in
    subst (λ n. NumbersOf (words_after s c.args.from) n) (sym c.from_residual.ensures)
    (read-stop r (inl (number-other w (sym v ∙ c.in_err-values.was))))

pub loop-at-preserved : goal.loop-at-preserved
loop-at-preserved c =
    let s = c.args.s.now in
    let a = c.loop-at.at + 1 in
    let e = c.end_of-e.ensures in
    let w = up_to 32 (drop a s) in
    let v : c.number.result ≡ number_of w = c.number.ensures
    ∙ ap number_of (ap (λ (k : ℕ). take (k - a) (drop a s)) e ∙ piece_is 32 s a) in
    let r : ReadTo (words_after s c.args.from) (w ∷ words_after s c.end_of-e.result) c.loop-at.count c.loop-at.values =
    rw (next_word s c.loop-at.at c.loop-at-test.true ∙ ap (λ (k : ℕ). w ∷ words_after s k) (sym e)) at c.loop-at.invariant.1.1.1 in
    let k = end-le 32 s a (omega arith) in
    let n = number-some w c.in_ok-values.field-0 (sym v ∙ c.in_ok-values.was) in
    let f : c.loop-at.count < length c.loop-at.values =
    omega (arith, c.loop-at.invariant.1.0, c.loop-at.invariant.1.1.0, c.if-count-eq11.false) in (
      omega arith,
      (
        omega arith,
        (
          simp length-set c.loop-at.invariant.1.1.0,
          rw (← n.1) (read_more r n.0 f),
        ),
      ),
    )
