-- How numbers and forms are written, as bytes: a script's lines and the lines that are printed.
use Rattle.std.specs.Prelude.{true, false, List, [], ◌∷◌, ◌++◌, ℕ, zero, suc, ◌+◌, ◌/◌, ◌%◌, ltb}
use Prim.Native.Char.{code}
use Prim.Native.String.{String, [] as ε, ◌∷◌ as ◌▸◌}

-- the bytes of a text
abbrev pub bytes : String → List ℕ
bytes ε = []
bytes (c ▸ s) = code c ∷ bytes s

-- ---- numbers: in decimal, without leading zeros

-- the last digit of n
abbrev pub last_digit : ℕ → ℕ
last_digit n = 48 + n % 10

-- the digits of n, at most c + 1 of them
unfoldable pub digits : ℕ → ℕ → List ℕ
digits zero n = last_digit n ∷ []
digits (suc c) n = elim (ltb n 10) [
  | true ↦ last_digit n ∷ []
  | false ↦ digits c (n / 10) ++ (last_digit n ∷ [])
]

-- n has at most n + 1 digits
unfoldable pub decimal : ℕ → List ℕ
decimal n = digits n n

-- ---- forms: "(", a word, each item after a single space, ")"

unfoldable pub items : List (List ℕ) → List ℕ
items [] = bytes ")"
items (i ∷ l) = bytes " " ++ (i ++ items l)

unfoldable pub form : String → List (List ℕ) → List ℕ
form w l = bytes "(" ++ (bytes w ++ items l)
