use mathlib.Core.Path.{◌≡◌, sym, ap, ◌∙◌}
use mathlib.Core.List.{List}
use Prim.Native.Nat.{ℕ}
use native.Mathlib.Omega.{arith}
use lib.ListN.{take}
use lib.Seq.{length-take-le}
use Rattle.script.specs.Forms.{form_with, form_of_words}
use Rattle.script.specs.Parts.{up_to, end_of, words_after, AreNumbers}
use Rattle.script.proofs.Words.{end-le, words_from, first_word}
use Rattle.script.proofs.With.{words_form, words_many, words_bad}
use Rattle.script.proofs.form_of.Goals as goal

pub read_numbers-requires : goal.read_numbers-requires
read_numbers-requires c =
    let k = end-le 32 c.args.s.now 0 (omega arith) in
    let e = c.end_of-e.ensures in
    omega arith

pub slice_bounds-form_with-end : goal.slice_bounds-form_with-end
slice_bounds-form_with-end c =
    let k = end-le 32 c.args.s.now 0 (omega arith) in
    let e = c.end_of-e.ensures in
    sym (length-take-le _ _ (omega arith))

pub returns-in_default : goal.returns-in_default
returns-in_default c =
    let s = c.args.s.now in
    sym (ap form_of_words (words_from s 0) ∙ words_bad (up_to 32 s) _ (rw c.end_of-e.ensures at c.in_default.ensures))

pub returns-then-numbers-gt6 : goal.returns-then-numbers-gt6
returns-then-numbers-gt6 c =
    let s = c.args.s.now in
    let r = c.in-Some.numbers in
    let n : AreNumbers (words_after s (end_of 32 s 0)) r = rw c.end_of-e.ensures at c.in-Some.ensures in
    sym (ap form_of_words (words_from s 0) ∙ words_many (up_to 32 s) _ r n c.if-numbers-gt6.true)

pub returns : goal.returns
returns c =
    let s = c.args.s.now in
    let r = c.in-Some.numbers in
    let n : AreNumbers (words_after s (end_of 32 s 0)) r = rw c.end_of-e.ensures at c.in-Some.ensures in
    let w : take c.end_of-e.result s ≡ up_to 32 s = ap (λ (k : ℕ). take k s) c.end_of-e.ensures ∙ first_word s in
    c.form_with.ensures ∙ ap (λ (l : List ℕ). form_with l (take r.count r.values)) w
    ∙ sym (ap form_of_words (words_from s 0) ∙ words_form (up_to 32 s) _ r n)
