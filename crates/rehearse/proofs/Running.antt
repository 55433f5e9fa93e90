-- What is written so far is the first bytes of the output, and what the lines from here on print is the others.
use mathlib.Core.Path.{◌≡◌, sym, ap, ◌∙◌}
use mathlib.Core.List.{List, [], ◌++◌}
use Prim.Native.Nat.{ℕ, ◌+◌, ◌-◌, ◌*◌, ◌≤◌, ◌<◌}
use native.Mathlib.Omega.{arith}
use lib.ListN.{length, take, drop, length-append, length-drop}
use lib.Seq.{length-take-le, take_at, drop_at, drop-drop, take-length}
use borrow.Author.Tests.{lt-ltb, le-ltb}
use Rattle.print.specs.Print.{bad_line}
use Rattle.script.specs.Forms.{lines_of}
use Rattle.script.specs.Parts.{up_to, end_of}
use Rattle.script.proofs.Words.{end-le, lines_none, lines_from}
use Rattle.rehearsals.specs.declared.Done.{Done}
use Rattle.rehearsals.specs.Lines.{line_of, printed_for, printed_by, output_of}
use Rattle.rehearsals.specs.Parts.{LineDone}

-- before each line
pub record Running (script : List ℕ) (at number done : ℕ) (out : List ℕ) : Type 0 where
  pub short : length script ≤ 32768
  pub out-length : length out ≡ 256
  pub number-le : number ≤ at + 1
  pub at-le : at ≤ length script + 1
  pub bound : done ≤ 200 * at
  pub left : printed_by number (lines_of (drop at script)) ≡ drop done (output_of script)
  pub written : done ≤ length (output_of script)

pub at_first_lem : (script out : List ℕ) → length script ≤ 32768 → length out ≡ 256 → Running script 0 1 0 out
unfolding output_of
at_first_lem script out h l = record {
  short = h;
  out-length = l;
  number-le = omega arith;
  at-le = omega arith;
  bound = omega arith;
  left = rw (le-ltb 32768 (length script) h);
  written = omega arith;
}

-- input over 32,768 bytes prints only (bad 0)
pub too_long : (script : List ℕ) → 32768 < length script → output_of script ≡ bad_line 0
unfolding output_of
too_long script h = rw (lt-ltb 32768 (length script) h)

-- where bs is all of the output that is left
pub all_left : (bs o : List ℕ) → bs ≡ o → bs ≡ take (length bs) (drop 0 o)
all_left bs o e = e ∙ sym (take-length o) ∙ ap (λ (x : List ℕ). take (length x) o) (sym e)

module _ (script : List ℕ) (at number done : ℕ) (out : List ℕ) (h : Running script at number done out) where
  -- at the script's end, all is written
  pub ends : length script ≤ at → done ≡ length (output_of script)
  unfolding printed_by
  ends e =
      let n : printed_by number (lines_of (drop at script)) ≡ [] = rw (lines_none script at e) in
      let l = ap length (sym n ∙ h.left) ∙ length-drop done (output_of script) in
      let w = h.written in omega arith

  module _ (l : at < length script) (r : Done) (out' : List ℕ) (d : LineDone script at number r out') (k : length out' ≡ 256) where
    abbrev this : List ℕ
    this = printed_for (line_of (up_to 10 (drop at script))) number

    abbrev others : List ℕ
    others = printed_by (number + 1) (lines_of (drop r.next script))

    split : this ++ others ≡ drop done (output_of script)
    unfolding printed_by
    split = ap (λ (m : ℕ). this ++ printed_by (number + 1) (lines_of (drop m script))) d.next-is
        ∙ sym (ap (printed_by number) (lines_from script at l)) ∙ h.left

    long : length this ≡ r.printed
    long = ap length (sym d.printed-is) ∙ length-take-le r.printed out' (let w = d.within in omega arith)

    -- what is printed is what the output has next
    pub next_printed : take r.printed out' ≡ take r.printed (drop done (output_of script))
    next_printed = d.printed-is ∙ sym (take_at this others r.printed long) ∙ ap (take r.printed) split

    pub next : take r.printed out' ≡ take (length (take r.printed out')) (drop done (output_of script))
    next = next_printed ∙ ap (λ (n : ℕ). take n (drop done (output_of script))) (sym long ∙ ap length (sym d.printed-is))

    counted : done + r.printed + length others ≡ length (output_of script)
    counted = let a : length this + length others ≡ length (output_of script) - done = sym (length-append this others) ∙ ap length split
        ∙ length-drop done (output_of script) in let b = h.written in let c = long in omega arith

    pub goes_on : Running script r.next (number + 1) (done + r.printed) out'
    goes_on =
        let e = d.next-is in let f = end-le 10 script at (omega arith) in let w = d.within in let c = counted in
        let n = h.number-le in let b = h.bound in
        let g : at ≤ end_of 10 script at = omega arith in
        record {
          short = h.short;
          out-length = k;
          number-le = omega arith;
          at-le = omega arith;
          bound = omega arith;
          left = sym (drop_at this others r.printed long) ∙ ap (drop r.printed) split ∙ drop-drop r.printed done (output_of script);
          written = omega arith;
        }
