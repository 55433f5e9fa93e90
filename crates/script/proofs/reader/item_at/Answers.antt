use mathlib.Core.Path.{◌≡◌, sym, ap, ◌∙◌}
use Prim.Native.Nat.{ℕ, ◌-◌}
use native.Mathlib.Omega.{arith}
use lib.ListN.{take, drop}
use Rattle.script.specs.Forms.{form_of}
use Rattle.script.specs.Parts.{up_to}
use Rattle.script.proofs.Words.{end-le, piece_is}
use Rattle.script.proofs.Walk.{item_line, item_end}
use Rattle.script.proofs.reader.item_at.Goals as goal

pub slice_bounds-parse-end : goal.slice_bounds-parse-end
slice_bounds-parse-end c =
    let k = end-le 10 c.args.src.now c.args.at (omega arith) in
    let e = c.end_of-e.ensures in
    omega arith

pub returns-then-at-src : goal.returns-then-at-src
returns-then-at-src c =
    let a = c.args in
    let s = a.src.now in
    let e = c.end_of-e.ensures in
    let w : take (c.end_of-e.result - a.at) (drop a.at s)
    ≡ up_to 10 (drop a.at s) = ap (λ (k : ℕ). take (k - a.at) (drop a.at s)) e ∙ piece_is 10 s a.at in
    rw (c.parse-form.ensures ∙ ap form_of w, e) (sym (item_line s a.at a.line c.if-at-src.true))

pub returns : goal.returns
returns c = sym (item_end _ _ _ c.if-at-src.false)
