-- Which pages runs have, as whole numbers without wrap-around: a sheet from outside may hold any numbers (A9).
use Rattle.std.specs.Prelude.{Bool, not, ◌&&◌, List, [], ◌∷◌, ℕ, ◌+◌, ltb, leb}
use Rattle.prelude.specs.Tests.{every}
use Rattle.prelude.specs.Scan.{all}
use Rattle.runs.specs.Sheet.{Sheet}
use Rattle.runs.specs.Runs.{sheet_at, counts}

-- pages a to a + n - 1 and pages b to b + m - 1 have a page in common; a count of 0 has no page
unfoldable pub overlaps : ℕ → ℕ → ℕ → ℕ → Bool
overlaps a n b m = every (ltb 0 n ∷ ltb 0 m ∷ ltb a (b + m) ∷ ltb b (a + n) ∷ [])

-- sheet i claims one of the pages f to f + n - 1: it counts, and its pages overlap them
unfoldable pub claims : List Sheet → ℕ → ℕ → ℕ → Bool
claims ss f n i = counts ss i && overlaps f n (sheet_at ss i).first (sheet_at ss i).count

module _ (c : ℕ) (ss : List Sheet) where
  -- some run has one of the pages f to f + n - 1
  unfoldable pub taken : ℕ → ℕ → Bool
  taken f n = not (all c (λ i. not (claims ss f n i)))

  -- 11 of a run to be added: a count of at least 1, pages from c to the last of so many pages, shared with no other run
  unfoldable pub range_ok : ℕ → ℕ → ℕ → Bool
  range_ok pages f n = every (ltb 0 n ∷ leb c f ∷ leb (f + n) pages ∷ not (taken f n) ∷ [])

-- 11 of a page to be read, page x of the run on this sheet: an index below the count, a page from c to the last of so many pages
unfoldable pub index_ok : ℕ → ℕ → Sheet → ℕ → Bool
index_ok c pages s x = every (ltb x s.count ∷ leb c (s.first + x) ∷ ltb (s.first + x) pages ∷ [])
