use native.Mathlib.Omega.{arith}
use mathlib.Core.Path.{◌≡◌, ap, ◌∙◌}
use Prim.Native.Nat.{ℕ, ◌+◌, ◌-◌}
use lib.ListN.{take, drop}
use Rattle.script.specs.Parts.{up_to}
use Rattle.script.proofs.Words.{end-le, piece_is}
use Rattle.print.proofs.Put.{printed-front}
use Rattle.std.specs.Prelude.{Option}
use Rattle.rehearsal.specs.declared.Setting.{Setting}
use Rattle.rehearsals.specs.Lines.{line_of, printed_for}
use Rattle.rehearsals.proofs.line_at.Goals as goal

pub slice_bounds-line_of-end : goal.slice_bounds-line_of-end
slice_bounds-line_of-end c =
    let k = end-le 10 c.args.script.now c.args.at (let h = c.requires.0 in omega arith) in
    let e = c.end_of-e.ensures in
    omega arith

pub returns : goal.returns
returns c =
    let s = c.args.script.now in
    let a = c.args.at in
    let p = c.put_line-printed.ensures in
    let e = c.end_of-e.ensures in
    let l : c.line_of-line.result ≡ line_of (up_to 10 (drop a s)) = c.line_of-line.ensures
    ∙ ap line_of (ap (λ (k : ℕ). take (k - a) (drop a s)) e ∙ piece_is 10 s a) in
    record {
      next-is = ap (λ (k : ℕ). k + 1) e;
      printed-is = printed-front {at = 0} (omega arith) p ∙ ap (λ (x : Option Setting). printed_for x c.args.number) l;
      within = let w = p.within in omega arith;
    }
