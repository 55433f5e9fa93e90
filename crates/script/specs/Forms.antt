-- What a script says: how it falls into lines, and which form a line is.
use Rattle.std.specs.Prelude.{Bool, true, false, cond, not, ◌&&◌, ◌||◌, List, [], ◌∷◌, map, ℕ, ◌+◌, ◌-◌, ◌*◌, leb, eqb, length, get_or}
use Rattle.std.specs.Prelude.{take, drop}
use Rattle.prelude.specs.Tests.{every}
use Rattle.prelude.specs.Scan.{all}
use Rattle.model.specs.Sizes.{Sizes, sizes_ok, plain_sizes}
use Rattle.print.specs.Text.{bytes}

pub data Form : Type 0 where
  opens : Sizes → Form
  -- page n is filled with byte b
  writes : ℕ → ℕ → Form
  reads : ℕ → Form
  steps : Form
  flushes : Form
  -- lists each block's wear
  wears : Form
  -- any other line
  bad : Form

-- ---- lines and words

-- x at the front of the first piece
abbrev pub longer : ℕ → List (List ℕ) → List (List ℕ)
longer x [] = (x ∷ []) ∷ []
longer x (p ∷ ps) = (x ∷ p) ∷ ps

-- the pieces that the bytes b cut l into; none is what an empty l gives
unfoldable pub pieces : ℕ → List (List ℕ) → List ℕ → List (List ℕ)
pieces b none [] = none
pieces b none (x ∷ l) = let ps = pieces b none l in cond (eqb x b) ([] ∷ ps) (longer x ps)

-- lines end with byte 10, which the last may lack; nothing after a final byte 10 is a line
unfoldable pub lines_of : List ℕ → List (List ℕ)
lines_of script = pieces 10 [] script

-- words stand between single spaces: two spaces in a row have an empty word between them
unfoldable pub words_of : List ℕ → List (List ℕ)
words_of l = pieces 32 ([] ∷ []) l

-- ---- numbers: 0 to 4,294,967,295 without leading zeros

abbrev pub is_digit : ℕ → Bool
is_digit x = leb 48 x && leb x 57

-- the digits of w after a number v
unfoldable pub value_from : ℕ → List ℕ → ℕ
value_from v [] = v
value_from v (x ∷ w) = value_from (v * 10 + (x - 48)) w

abbrev pub value_of : List ℕ → ℕ
value_of w = value_from 0 w

unfoldable pub is_number : List ℕ → Bool
is_number w = every (
    leb 1 (length w) ∷ all (length w) (λ i. is_digit (get_or w i 0)) ∷ (eqb (length w) 1 || not (eqb (get_or w 0 0) 48))
    ∷ leb (value_of w) 4294967295 ∷ [])

-- ---- openings

-- the five sizes, with a wear limit that is within its own limits
abbrev pub five : Sizes → Sizes
five sz = plain_sizes sz.S sz.K sz.N sz.P sz.B 1

-- no buffer needs over 32,768 bytes: flash, p-space, b-space, and wear of 4 bytes a block
unfoldable pub buffers_fit : Sizes → Bool
buffers_fit sz = every (
    leb (sz.N * sz.K * sz.S) 32768 ∷ leb (sz.P * sz.S) 32768 ∷ leb (sz.B * sz.K * sz.S) 32768 ∷ leb (4 * sz.N) 32768 ∷ [])

-- an opening with the five sizes within limits that needs more is bad
unfoldable pub opening : Sizes → Form
opening sz = cond (sizes_ok (five sz) && not (buffers_fit sz)) bad (opens sz)

-- ---- forms

unfoldable pub same : List ℕ → List ℕ → Bool
same [] [] = true
same [] (y ∷ m) = false
same (x ∷ l) [] = false
same (x ∷ l) (y ∷ m) = eqb x y && same l m

abbrev pub sizes_from : List ℕ → Sizes
sizes_from ns = plain_sizes (get_or ns 0 0) (get_or ns 1 0) (get_or ns 2 0) (get_or ns 3 0) (get_or ns 4 0) (get_or ns 5 0)

-- the word w with the numbers ns after it
unfoldable pub form_with : List ℕ → List ℕ → Form
form_with w ns =
    cond (same w (bytes "open") && eqb (length ns) 6) (opening (sizes_from ns))
    (cond (same w (bytes "write") && (eqb (length ns) 2 && leb (get_or ns 1 0) 255)) (writes (get_or ns 0 0) (get_or ns 1 0))
    (cond (same w (bytes "read") && eqb (length ns) 1) (reads (get_or ns 0 0))
    (cond (same w (bytes "step") && eqb (length ns) 0) steps
    (cond (same w (bytes "flush") && eqb (length ns) 0) flushes
    (cond (same w (bytes "wear") && eqb (length ns) 0) wears bad)))))

-- a word, and after it numbers alone
unfoldable pub form_of_words : List (List ℕ) → Form
form_of_words [] = bad
form_of_words (w ∷ ws) = cond (every (map is_number ws)) (form_with w (map value_of ws)) bad

-- "(" and ")" at the ends
unfoldable pub bracketed : List ℕ → Bool
bracketed l = every (leb 2 (length l) ∷ eqb (get_or l 0 0) 40 ∷ eqb (get_or l (length l - 1) 0) 41 ∷ [])

abbrev pub inside : List ℕ → List ℕ
inside l = take (length l - 2) (drop 1 l)

-- a line without its byte 10
unfoldable pub form_of : List ℕ → Form
form_of l = cond (bracketed l) (form_of_words (words_of (inside l))) bad
