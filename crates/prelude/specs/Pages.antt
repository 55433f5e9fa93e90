-- A list as a run of pages of s elements each: page i is the s elements from i * s on.
use Rattle.std.specs.Prelude.{List, [], ◌∷◌, ◌++◌, ℕ, ◌+◌, ◌*◌, length, take, drop}
use Rattle.prelude.specs.Scan.{tab}

module _ {A : Type 0} where
  -- page i of l
  unfoldable pub page_at : ℕ → List A → ℕ → List A
  page_at s l i = take s (drop (i * s) l)

  -- l with pg as page i
  unfoldable pub put_page : ℕ → List A → ℕ → List A → List A
  put_page s l i pg = take (i * s) l ++ (pg ++ drop (i * s + s) l)

  -- the n pages of l from page i on, as one list
  unfoldable pub run_at : ℕ → List A → ℕ → ℕ → List A
  run_at s l i n = take (n * s) (drop (i * s) l)

  -- l with x laid in, from index i on
  unfoldable pub laid : ℕ → List A → List A → List A
  laid i x l = take i l ++ (x ++ drop (i + length x) l)

  -- l cut into its first n pages
  unfoldable pub pages_of : ℕ → ℕ → List A → List (List A)
  pages_of s n l = tab n (page_at s l)

  -- pages joined to one list
  unfoldable pub flat : List (List A) → List A
  flat [] = []
  flat (p ∷ l) = p ++ flat l
