use Rattle.std.proofs.Common.{◌≡◌, ℕ, suc, ◌<◌, ◌≤◌, length}
use Rattle.prelude.specs.Pages.{page_at}
use Rattle.shelf.proofs.lower_pages.Given as goal

-- the pages below went down by one, the others are as they were
abbrev pub invariant-loop-i : goal.invariant-loop-i
invariant-loop-i l = (length l.shelf ≡ length l.initial.shelf)
    × ((j : ℕ) → suc j < l.i → page_at l.s l.shelf j ≡ page_at l.s l.initial.shelf (suc j))
    × ((j : ℕ) → l.i ≤ suc j → page_at l.s l.shelf j ≡ page_at l.s l.initial.shelf j)
