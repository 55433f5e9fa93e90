-- Scans over the numbers below a bound. "None" is the bound itself.
use Rattle.std.specs.Prelude.{Bool, true, false, cond, ◌&&◌, List, [], ◌∷◌, ℕ, zero, suc, ◌+◌, max, ltb, eqb}

-- the first of the n numbers from i that passes: i + n where none does
unfoldable pub first_from : ℕ → ℕ → (ℕ → Bool) → ℕ
first_from i zero p = i
first_from i (suc n) p = elim (p i) [ true ↦ i | false ↦ first_from (suc i) n p ]

-- the first number below n that passes: n where none does
unfoldable pub first : ℕ → (ℕ → Bool) → ℕ
first n p = first_from 0 n p

-- how many numbers below n pass
unfoldable pub count : ℕ → (ℕ → Bool) → ℕ
count zero p = 0
count (suc n) p = cond (p n) 1 0 + count n p

-- whether all numbers below n pass
unfoldable pub all : ℕ → (ℕ → Bool) → Bool
all zero p = true
all (suc n) p = all n p && p n

-- whether all pairs i < j below n pass
unfoldable pub all_pairs : ℕ → (ℕ → ℕ → Bool) → Bool
all_pairs n p = all n (λ j. all j (λ i. p i j))

-- the number below n that passes and has r passing numbers below it: n where there is none
unfoldable pub nth : ℕ → (ℕ → Bool) → ℕ → ℕ
nth n p r = first n (λ i. p i && eqb (count i p) r)

-- the least index below n of the greatest value
unfoldable pub argmax : ℕ → (ℕ → ℕ) → ℕ
argmax zero g = 0
argmax (suc n) g = let b = argmax n g in cond (ltb (g b) (g n)) n b

-- the least value below n: d where n is 0
unfoldable pub least : ℕ → (ℕ → ℕ) → ℕ → ℕ
least zero g d = d
least (suc n) g d = let m = least n g d in cond (ltb (g n) m) (g n) m

-- the greatest value below n: 0 where n is 0
unfoldable pub greatest : ℕ → (ℕ → ℕ) → ℕ
greatest zero g = 0
greatest (suc n) g = max (g n) (greatest n g)

module _ {A : Type 0} where
  -- the values of a rule at i to i + n - 1
  unfoldable pub tab_from : ℕ → ℕ → (ℕ → A) → List A
  tab_from i zero f = []
  tab_from i (suc n) f = f i ∷ tab_from (suc i) n f

  -- the list of n entries whose entry i is f i
  unfoldable pub tab : ℕ → (ℕ → A) → List A
  tab n f = tab_from 0 n f
