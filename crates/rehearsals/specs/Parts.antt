-- The line of tallies in pieces, and what a line leaves.
use Rattle.std.specs.Prelude.{◌≡◌, List, [], ◌∷◌, ◌++◌, map, ℕ, ◌+◌, ◌≤◌, take, drop}
use Rattle.print.specs.Text.{bytes, decimal}
use Rattle.print.specs.Print.{spaced}
use Rattle.script.specs.Parts.{up_to, end_of}
use Rattle.rehearsals.specs.declared.Done.{Done}
use Rattle.rehearsals.specs.Lines.{room, line_of, printed_for}

-- the tallies' line in the pieces that are put: up to the last number of the writes, and from there on
abbrev pub ways_put : List ℕ → List ℕ → List ℕ
ways_put rs ws = ((bytes "(rehearse (reads" ++ spaced (map decimal rs)) ++ bytes ") (writes") ++ spaced (map decimal ws)

abbrev pub sums_put : ℕ → ℕ → ℕ → List ℕ
sums_put e m r = (((bytes ") (erased " ++ (decimal e ++ (41 ∷ []))) ++ (bytes " (merged " ++ (decimal m ++ (41 ∷ []))))
    ++ (bytes " (refused " ++ (decimal r ++ (41 ∷ [])))) ++ (41 ∷ (10 ∷ []))

-- the line at a place of a script, of number i, is carried out: what is printed for it stands in front of out, and next is after its byte
-- 10
pub record LineDone (script : List ℕ) (at i : ℕ) (r : Done) (out : List ℕ) : Type 0 where
  pub next-is : r.next ≡ end_of 10 script at + 1
  pub printed-is : take r.printed out ≡ printed_for (line_of (up_to 10 (drop at script))) i
  pub within : r.printed ≤ room
