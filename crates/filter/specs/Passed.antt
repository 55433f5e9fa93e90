-- What a pass over the slots finds with the filter.
use Rattle.std.specs.Prelude.{◌≡◌, ◌⊎◌, true, false, List, ℕ, ◌≤◌, ◌<◌, length, get_or}
use Rattle.model.specs.Sizes.{vacant}
use Rattle.filter.specs.Filter.{in_filter}

-- slot e is vacant, or holds a page number below end that neither the filter has nor a slot from i on
abbrev pub Unmet : ℕ → List ℕ → ℕ → List ℕ → ℕ → Type 0
Unmet end s i seen e = (get_or s e 0 ≡ vacant)
    ⊎ ((get_or s e 0 < end) × (in_filter seen (get_or s e 0) ≡ false) × ((g : ℕ) → i ≤ g → g < e → get_or s g 0 ≡ get_or s e 0 → ⊥))

-- the slots from i on, below j, are passed: seen was the filter before, and next, which has their page numbers too, is the filter now
pub record Passed (end : ℕ) (s : List ℕ) (i j : ℕ) (seen next : List ℕ) : Type 0 where
  pub low : i ≤ j
  pub long : length next ≡ 64
  pub kept : (x : ℕ) → in_filter seen x ≡ true → in_filter next x ≡ true
  pub unmet : (e : ℕ) → i ≤ e → e < j → Unmet end s i seen e
  pub marked : (e : ℕ) → i ≤ e → e < j → get_or s e 0 < end → in_filter next (get_or s e 0) ≡ true

-- and slot j, if it is one of the first p, may be in the filter
pub record FirstMet (end p : ℕ) (s : List ℕ) (i : ℕ) (seen next : List ℕ) (j : ℕ) : Type 0 where
  pub high : j ≤ p
  pub passed : Passed end s i j seen next
  pub met : j < p → get_or s j 0 < end → in_filter next (get_or s j 0) ≡ true
