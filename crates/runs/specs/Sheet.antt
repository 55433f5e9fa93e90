-- A sheet: seven 32-bit numbers on a page, low byte first, the rest of the page 0 (requests A9 and A11).
use Rattle.std.specs.Prelude.{Bool, not, cond, ◌||◌, List, [], ◌∷◌, ℕ, ◌+◌, ◌*◌, ◌/◌, ◌%◌, ◌^◌, ◌<◌, ltb, eqb, get_or}
use Rattle.prelude.specs.Scan.{tab}

pub record Sheet : Type 0 where
  pub run : ℕ
  pub trainee : ℕ
  pub sample : ℕ
  -- the first data page, and the page count
  pub first : ℕ
  pub count : ℕ
  -- 0 to 100, or 255 for unmarked
  pub mark : ℕ
  -- the run that it replaces, 0 for none
  pub replaces : ℕ

-- the mark of a run that has none
abbrev pub unmarked : ℕ
unmarked = 255

-- the seven numbers in their order on the page
abbrev pub numbers : Sheet → List ℕ
numbers s = s.run ∷ s.trainee ∷ s.sample ∷ s.first ∷ s.count ∷ s.mark ∷ s.replaces ∷ []

-- the number whose four bytes stand from byte i on, low byte first
unfoldable pub number_at : List ℕ → ℕ → ℕ
number_at p i = get_or p i 0 + get_or p (i + 1) 0 * 256 + get_or p (i + 2) 0 * 65536 + get_or p (i + 3) 0 * 16777216

-- the sheet that a page holds, whatever its bytes
unfoldable pub sheet_of : List ℕ → Sheet
sheet_of p = record {
  run = number_at p 0;
  trainee = number_at p 4;
  sample = number_at p 8;
  first = number_at p 12;
  count = number_at p 16;
  mark = number_at p 20;
  replaces = number_at p 24;
}

-- byte k of a number, byte 0 the low one
unfoldable pub byte_of : ℕ → ℕ → ℕ
byte_of x k = x / 2 ^ (8 * k) % 256

-- byte j of a sheet's page: of the seven numbers, and 0 past them
unfoldable pub sheet_byte : Sheet → ℕ → ℕ
sheet_byte s j = cond (ltb j 28) (byte_of (get_or (numbers s) (j / 4) 0) (j % 4)) 0

-- the page of S bytes that a sheet is written as
unfoldable pub page_of : ℕ → Sheet → List ℕ
page_of S s = tab S (sheet_byte s)

-- run 0, or 4,294,967,295 as an erased page has it, is an empty sheet
unfoldable pub empty_run : ℕ → Bool
empty_run r = eqb r 0 || eqb r 4294967295

abbrev pub is_empty : Sheet → Bool
is_empty s = empty_run s.run

abbrev pub inUse : Sheet → Bool
inUse s = not (is_empty s)

-- stands where a list of sheets has none
unfoldable pub no_sheet : Sheet
no_sheet = record { run = 0; trainee = 0; sample = 0; first = 0; count = 0; mark = 0; replaces = 0 }

-- every number of the sheet is a 32-bit one
pub record Words (s : Sheet) : Type 0 where
  pub run-word : s.run < 4294967296
  pub trainee-word : s.trainee < 4294967296
  pub sample-word : s.sample < 4294967296
  pub first_word : s.first < 4294967296
  pub count_word : s.count < 4294967296
  pub mark-word : s.mark < 4294967296
  pub replaces-word : s.replaces < 4294967296
