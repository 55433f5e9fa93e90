-- The figures of a few lists: 3 × (1 + 4 + 9) − 36 = 6; equal wear gives 0; an entry above the limit is refused.
use Rattle.std.proofs.Common.{◌≡◌, ℕ, [], ◌∷◌, Option, Some, None, refl}
use Rattle.prelude.specs.Scan.{all, greatest}
use Rattle.model.specs.Calls.{sum}
use Rattle.wear.specs.declared.Figures.{Figures}
use Rattle.wear.specs.Figures.{total, largest, squares, spread, in_limit, measured, erased_once}

abbrev of : ℕ → ℕ → ℕ → Option Figures
of t m v = Some (record { total = t; largest = m; spread = v })

rows : (measured (1 ∷ 2 ∷ 3 ∷ []) 3 ∷ measured (5 ∷ 5 ∷ 5 ∷ 5 ∷ []) 10 ∷ measured (1 ∷ 4 ∷ []) 3
    ∷ measured (1000000 ∷ 0 ∷ []) 1000000 ∷ measured (erased_once (1 ∷ 2 ∷ 3 ∷ []) 0) 3 ∷ measured [] 1 ∷ [])
    ≡ (of 6 3 6 ∷ of 20 5 0 ∷ None ∷ of 1000000 1000000 1000000000000 ∷ of 7 3 2 ∷ of 0 0 0 ∷ [])
unfolding measured in_limit total largest squares spread erased_once sum all greatest
rows = refl
