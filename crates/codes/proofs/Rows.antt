-- Codes and readings worked out by another program from the words of request A6 (tools/page-codes), as rows of two tables.
use mathlib.Core.Path.{◌≡◌, refl}
use mathlib.Core.Bool.{cond, xor}
use mathlib.Core.List.{List, [], ◌∷◌, ◌++◌, map}
use Prim.Native.Nat.{ℕ, ◌+◌, ◌*◌, ◌/◌, ◌%◌}
use lib.ListN.{replicate}
use Rattle.prelude.specs.Scan.{count, all, tab_from, tab}
use Rattle.prelude.specs.Bits.{bit, mask}
use Rattle.prelude.specs.Pages.{page_at, flat}
use Rattle.codes.specs.Code.{odd, bit_at, code_bit, code_of, codes_of}
use Rattle.codes.specs.Reading.{flipped, difference, leaves, pairs, addressed, legible, mended, differs, code_at}
use Rattle.codes.specs.Reading.{page_legible, page_mended, page_mends}

zeros : List ℕ
zeros = replicate 256 0

-- a chunk whose code has ones and zeros in every byte
mixed : List ℕ
mixed = tab 256 (λ i. i * 7 / 5 % 256)

-- ---- codes

-- a code of these three bytes, low byte first
abbrev three : ℕ → ℕ → ℕ → ℕ
three a b c = a + b * 256 + c * 65536

record CodeRow : Type 0 where
  chunk : List ℕ
  code : ℕ

code_rows : List CodeRow
code_rows = record { chunk = zeros; code = three 255 255 255 }
    ∷ record { chunk = replicate 256 255; code = three 255 255 255 }
    ∷ record { chunk = tab 256 (λ i. i); code = three 255 255 255 }
    ∷ record { chunk = flipped zeros 0; code = three 170 170 234 }
    ∷ record { chunk = flipped zeros 2047; code = three 85 85 213 }
    ∷ record { chunk = flipped zeros 1234; code = three 166 89 218 }
    ∷ []

codes-as_worked_out : map (λ (r : CodeRow). code_of r.chunk) code_rows ≡ map (λ (r : CodeRow). r.code) code_rows
unfolding code_rows zeros flipped tab tab_from code_of mask code_bit odd count bit_at bit
codes-as_worked_out = refl

own : List ℕ
own = 153 ∷ 105 ∷ 213 ∷ []

-- the codes of a page of one chunk
page-as_worked_out : codes_of 1 mixed ≡ own
unfolding mixed own tab tab_from codes_of page_at code_of mask code_bit odd count bit_at bit
page-as_worked_out = refl

-- ---- readings

-- what becomes of a difference: it leaves the data (0), it flips the data bit at an address (1, the address), or the chunk is unreadable
verdict : ℕ → List ℕ
verdict x = cond (leaves x) (0 ∷ []) (cond (pairs x) (1 ∷ addressed x ∷ []) [])

record DifferenceRow : Type 0 where
  differ : ℕ
  gives : List ℕ

-- none; bit 5, bit 22 alone; bits 22 and 23; both bits of each pair; one bit of 10 pairs; the even bits of all, the odd bits of all, those
-- that name address 1234; one bit of each pair and bit 23
difference_rows : List DifferenceRow
difference_rows = record { differ = 0; gives = 0 ∷ [] }
    ∷ record { differ = three 32 0 0; gives = 0 ∷ [] }
    ∷ record { differ = three 0 0 64; gives = 0 ∷ [] }
    ∷ record { differ = three 0 0 192; gives = [] }
    ∷ record { differ = three 255 255 63; gives = [] }
    ∷ record { differ = three 85 85 5; gives = [] }
    ∷ record { differ = three 85 85 21; gives = 1 ∷ 0 ∷ [] }
    ∷ record { differ = three 170 170 42; gives = 1 ∷ 2047 ∷ [] }
    ∷ record { differ = three 89 166 37; gives = 1 ∷ 1234 ∷ [] }
    ∷ record { differ = three 85 85 149; gives = [] }
    ∷ []

differences_as_worked_out : map (λ (r : DifferenceRow). verdict r.differ) difference_rows
    ≡ map (λ (r : DifferenceRow). r.gives) difference_rows
unfolding difference_rows verdict leaves pairs addressed count all mask bit xor
differences_as_worked_out = refl

-- a page with the codes stored for it, and what reading gives: the number of chunks mended and then the page, or nothing where it is
-- unreadable
record ReadRow : Type 0 where
  chunks : ℕ
  page : List ℕ
  codes : List ℕ
  gives : List ℕ

reading : ReadRow → List ℕ
reading r = let m = r.chunks in
    cond (page_legible m r.page r.codes) (page_mends m r.page r.codes ∷ page_mended m r.page r.codes) []

-- two mixed chunks, a data bit of one flipped and code bit 23 of the other; two data bits of one chunk; a data bit and code bit 5
read_rows : List ReadRow
read_rows = record { chunks = 2; page = flipped (mixed ++ mixed) 1234; codes = own ++ (153 ∷ 105 ∷ 85 ∷ []); gives = 2 ∷ (mixed ++ mixed) }
    ∷ record { chunks = 1; page = flipped (flipped mixed 0) 1; codes = own; gives = [] }
    ∷ record { chunks = 1; page = flipped mixed 1234; codes = 185 ∷ 105 ∷ 213 ∷ []; gives = [] }
    ∷ []

readings_as_worked_out : map reading read_rows ≡ map (λ (r : ReadRow). r.gives) read_rows
unfolding read_rows reading own mixed flipped tab tab_from flat codes_of page_at code_of mask code_bit odd count all bit_at bit difference
    leaves pairs addressed legible mended differs code_at page_legible page_mended page_mends xor
readings_as_worked_out = refl
