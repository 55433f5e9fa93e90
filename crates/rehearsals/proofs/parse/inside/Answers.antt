use mathlib.Core.Path.{◌≡◌, sym, ap, ◌∙◌}
use mathlib.Core.List.{List}
use Prim.Native.Nat.{ℕ}
use native.Mathlib.Omega.{arith}
use lib.ListN.{take}
use lib.Seq.{length-take-le}
use Rattle.rehearsals.specs.Lines.{line_with, line_of_words}
use Rattle.script.specs.Parts.{up_to, end_of, words_after, AreNumbers}
use Rattle.script.proofs.Words.{end-le, words_from, first_word}
use Rattle.rehearsals.proofs.Reading.{words_line, words_bad}
use Rattle.rehearsals.proofs.parse.inside.Goals as goal

pub read_numbers-requires : goal.read_numbers-requires
read_numbers-requires c =
    let k = end-le 32 c.args.s.now 0 (omega arith) in
    let e = c.end_of-e.ensures in
    omega arith

pub slice_bounds-with-end : goal.slice_bounds-with-end
slice_bounds-with-end c =
    let k = end-le 32 c.args.s.now 0 (omega arith) in
    let e = c.end_of-e.ensures in
    sym (length-take-le _ _ (omega arith))

pub returns-in_err-numbers : goal.returns-in_err-numbers
returns-in_err-numbers c =
    let s = c.args.s.now in
    c.from_residual.ensures
    ∙ sym (ap line_of_words (words_from s 0) ∙ words_bad (up_to 32 s) _ (rw c.end_of-e.ensures at c.in_err-numbers.ensures))

pub returns : goal.returns
returns c =
    let s = c.args.s.now in
    let r = c.in_ok-numbers.numbers in
    let n : AreNumbers (words_after s (end_of 32 s 0)) r = rw c.end_of-e.ensures at c.in_ok-numbers.ensures in
    let w : take c.end_of-e.result s ≡ up_to 32 s = ap (λ (k : ℕ). take k s) c.end_of-e.ensures ∙ first_word s in
    c.with.ensures ∙ ap (λ (l : List ℕ). line_with l (take r.count r.values)) w
    ∙ sym (ap line_of_words (words_from s 0) ∙ words_line (up_to 32 s) _ r n)
