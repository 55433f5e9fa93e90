-- Request A14: the wear of a chip in whole figures, over the list of its blocks' wear.
use Rattle.std.specs.Prelude.{ℕ, suc, ◌-◌, ◌*◌, Bool, cond, List, length, nat_le, slice_index, slice_set, Option, Some, None}
use Rattle.prelude.specs.Scan.{all, greatest}
use Rattle.model.specs.Calls.{sum}
use Rattle.wear.specs.declared.Figures.{Figures}

-- the wear of block b
abbrev pub wear_at : List ℕ → ℕ → ℕ
wear_at l b = slice_index l b

abbrev pub squared : (ℕ → ℕ) → ℕ → ℕ
squared f i = f i * f i

-- the total T
unfoldable pub total : List ℕ → ℕ
total l = sum (length l) (wear_at l)

-- the largest L
unfoldable pub largest : List ℕ → ℕ
largest l = greatest (length l) (wear_at l)

-- the sum of squares
unfoldable pub squares : List ℕ → ℕ
squares l = sum (length l) (squared (wear_at l))

-- N times the sum of squares minus T squared
unfoldable pub spread : List ℕ → ℕ
spread l = length l * squares l - total l * total l

-- no entry is above W
unfoldable pub in_limit : List ℕ → ℕ → Bool
in_limit l w = all (length l) (λ b. nat_le (wear_at l b) w)

-- the report of a list of wear; it is refused when an entry is above W
unfoldable pub measured : List ℕ → ℕ → Option Figures
measured l w = cond (in_limit l w) (Some (record { total = total l; largest = largest l; spread = spread l })) None

-- the list after one more erasure of block b
unfoldable pub erased_once : List ℕ → ℕ → List ℕ
erased_once l b = slice_set l b (suc (wear_at l b))
