use native.Mathlib.Omega.{arith}
use mathlib.Core.Path.{ap, ◌∙◌}
use mathlib.Core.List.{List, ◌++◌}
use Prim.Native.Nat.{ℕ, ◌≤◌}
use lib.ListN.{length, take, drop}
use Rattle.print.proofs.Put.{printed-then, printed-as}
use Rattle.rehearsals.specs.Lines.{tally_line}
use Rattle.rehearsals.specs.Parts.{ways_put, sums_put}
use Rattle.rehearsals.proofs.Putting.{tally-line, from_one}
use borrow.Author.Rules.{rules}
use Rattle.rehearsals.proofs.put_tallies.Goals as goal

pub returns : goal.returns
unfolding tally_line
returns c =
    let t = c.args.t in
    let h : 0 ≤ length c.args.out.now = omega arith in
    printed-as (omega arith) (ap (λ (l : List ℕ). ways_put l (take 7 (drop 1 t.writes)) ++ sums_put t.erased t.merged t.refused)
    (from_one 3 t.reads (search rules))
    ∙ ap (λ (l : List ℕ). ways_put (drop 1 t.reads) l ++ sums_put t.erased t.merged t.refused)
    (from_one 7 t.writes (search rules))
    ∙ tally-line (drop 1 t.reads) (drop 1 t.writes) t.erased t.merged t.refused)
    (printed-then h c.put_ways-next.ensures c.put_sums.ensures)
