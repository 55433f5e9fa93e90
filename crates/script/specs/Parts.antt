-- What the parts of the parser find.
use Rattle.std.specs.Prelude.{◌≡◌, true, false, cond, ◌&&◌, Option, None, Some, List, [], ◌∷◌, map, ℕ, ◌+◌, ◌≤◌, leb, ltb, eqb, length, take, drop}
use Rattle.prelude.specs.Tests.{every}
use Rattle.script.specs.Forms.{words_of, is_number, value_of}
use Rattle.script.specs.declared.Numbers.{Numbers}

-- l up to its first byte b
unfoldable pub up_to : ℕ → List ℕ → List ℕ
up_to b [] = []
up_to b (x ∷ l) = elim (eqb x b) [ true ↦ [] | false ↦ x ∷ up_to b l ]

-- the place of the first byte b of l from `at` on: the end where there is none
abbrev pub end_of : ℕ → List ℕ → ℕ → ℕ
end_of b l at = at + length (up_to b (drop at l))

-- the number that a word says
abbrev pub number_of : List ℕ → Option ℕ
number_of w = cond (is_number w) (Some (value_of w)) None

-- the words after the one that ends at e
abbrev pub words_after : List ℕ → ℕ → List (List ℕ)
words_after l e = cond (ltb e (length l)) (words_of (drop (e + 1) l)) []

-- the words ws are at most eleven numbers, and r has them
pub record AreNumbers (ws : List (List ℕ)) (r : Numbers) : Type 0 where
  pub long : length r.values ≡ 11
  pub eleven : r.count ≤ 11
  pub numbers : every (map is_number ws) ≡ true
  pub values : map value_of ws ≡ take r.count r.values

-- or they are something else, and r is none
abbrev pub NumbersOf : List (List ℕ) → Option Numbers → Type 0
NumbersOf ws (Some r) = AreNumbers ws r
NumbersOf ws None = (every (map is_number ws) && leb (length ws) 11) ≡ false
