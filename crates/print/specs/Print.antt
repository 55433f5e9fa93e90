-- What is printed: one bracketed form a line.
use Rattle.std.specs.Prelude.{◌≡◌, cond, List, [], ◌∷◌, ◌++◌, map, ℕ, ◌+◌, ◌*◌, ◌≤◌, eqb, length, take, drop}
use Prim.Native.String.{String}
use Rattle.model.specs.Sizes.{vacant}
use Rattle.model.specs.Calls.{Answer, open_done, read_done, write_done, step_done, step_clean, flush_done, refused}
use Rattle.print.specs.Text.{bytes, decimal, form}

-- ---- lines

-- a form and its byte 10
unfoldable pub line : String → List (List ℕ) → List ℕ
line w l = form w l ++ bytes "\n"

-- (word n)
abbrev pub field : String → ℕ → List ℕ
field w n = form w (decimal n ∷ [])

-- (refused r)
abbrev pub refusal : ℕ → List ℕ
refusal r = field "refused" r

-- (erased b), with none for a block that is vacant
abbrev pub erased : ℕ → List ℕ
erased b = form "erased" (cond (eqb b vacant) (bytes "none") (decimal b) ∷ [])

-- what an answer says after the call's words; byte is the first byte of the page that a read gives
unfoldable pub said : Answer → ℕ → List (List ℕ)
said open_done byte = form "done" [] ∷ []
said (read_done way) byte = field "way" way ∷ field "byte" byte ∷ []
said (write_done way b m) byte = field "way" way ∷ erased b ∷ field "merged" m ∷ []
said (step_done b m) byte = field "block" b ∷ field "merged" m ∷ []
said step_clean byte = bytes "clean" ∷ []
said (flush_done r m) byte = field "rewrites" r ∷ field "merged" m ∷ []
said (refused r b) byte = refusal r ∷ []

abbrev pub open_line : Answer → List ℕ
open_line a = line "open" (said a 0)

abbrev pub write_line : ℕ → Answer → List ℕ
write_line n a = line "write" (decimal n ∷ said a 0)

abbrev pub read_line : ℕ → Answer → ℕ → List ℕ
read_line n a byte = line "read" (decimal n ∷ said a byte)

abbrev pub step_line : Answer → List ℕ
step_line a = line "step" (said a 0)

abbrev pub flush_line : Answer → List ℕ
flush_line a = line "flush" (said a 0)

-- each block's wear
abbrev pub wear_line : List ℕ → List ℕ
wear_line ws = line "wear" (map decimal ws)

-- the number of the line that is bad
abbrev pub bad_line : ℕ → List ℕ
bad_line n = line "bad" (decimal n ∷ [])

-- ---- printing into a lent buffer

-- l with bs from `at` on, in place of as many bytes
unfoldable pub put_at : List ℕ → ℕ → List ℕ → List ℕ
put_at l at bs = take at l ++ (bs ++ drop (at + length bs) l)

-- bs are printed into old from `at` on, which gives new; next is the place after them, and they take no more than room
pub record Printed (room : ℕ) (bs old : List ℕ) (at : ℕ) (new : List ℕ) (next : ℕ) : Type 0 where
  pub buffer : new ≡ put_at old at bs
  pub place : next ≡ at + length bs
  pub within : next ≤ at + room

-- room for any line but that of the wear
abbrev pub line_room : ℕ
line_room = 80

-- room for the wear of n blocks
abbrev pub wear_room : ℕ → ℕ
wear_room n = 11 * n + 7

-- items, each after a space
unfoldable pub spaced : List (List ℕ) → List ℕ
spaced [] = []
spaced (i ∷ l) = bytes " " ++ (i ++ spaced l)
