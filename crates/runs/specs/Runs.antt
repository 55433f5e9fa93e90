-- The runs of a list of c sheets: which sheets count, where a run stands, the number and sheet of a new run, the listed position (A9).
use Rattle.std.specs.Prelude.{Bool, not, cond, ◌&&◌, List, ℕ, ltb, eqb, get_or}
use Rattle.prelude.specs.Scan.{first, all, nth, greatest}
use Rattle.runs.specs.Sheet.{Sheet, no_sheet, is_empty, inUse}

abbrev pub sheet_at : List Sheet → ℕ → Sheet
sheet_at ss i = get_or ss i no_sheet

abbrev pub run_at : List Sheet → ℕ → ℕ
run_at ss i = (sheet_at ss i).run

-- sheet i counts: it is not empty, and no sheet before it has its run number (of equal run numbers the first sheet counts)
unfoldable pub counts : List Sheet → ℕ → Bool
counts ss i = inUse (sheet_at ss i) && all i (λ j. not (eqb (run_at ss j) (run_at ss i)))

module _ (c : ℕ) (ss : List Sheet) where
  -- the sheet of run r, of equal run numbers the first: c where there is none
  unfoldable pub find : ℕ → ℕ
  find r = first c (λ i. inUse (sheet_at ss i) && eqb (run_at ss i) r)

  abbrev pub known : ℕ → Bool
  known r = ltb (find r) c

  -- the first empty sheet: c where there is none
  unfoldable pub first_empty : ℕ
  first_empty = first c (λ i. is_empty (sheet_at ss i))

  -- the largest run number in use: 0 where there is none
  unfoldable pub largest : ℕ
  largest = greatest c (λ i. cond (inUse (sheet_at ss i)) (run_at ss i) 0)

  -- 9: no empty sheet, or the largest number is 4,294,967,294, after which none is left
  unfoldable pub full : Bool
  full = not (ltb first_empty c && ltb largest 4294967294)

  -- the sheet at a position, from 0 in sheet order, among those that count: c past the last
  unfoldable pub position : ℕ → ℕ
  position n = nth c (counts ss) n
