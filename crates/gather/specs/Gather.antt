-- What reading all sheets asks, and what it gives.
use Rattle.std.specs.Prelude.{◌≡◌, not, cond, List, ℕ, ◌*◌, ◌≤◌, ◌<◌, ltb, eqb, length, take, get_or, Some, Result, Ok, Err, IfOk, OnOk}
use Rattle.prelude.specs.Scan.{first, tab}
use Rattle.prelude.specs.Pages.{page_at}
use Rattle.model.specs.Sizes.{Sizes}
use Rattle.model.specs.Directory.{Directory}
use Rattle.model.specs.Moves.{read_page}
use Rattle.model.specs.Calls.{Page, zero_page}
use Rattle.model.specs.Formats.{chip_for}
use Rattle.answer.specs.declared.fault.Fault.{Fault}
use Rattle.answer.specs.Numbers.{fault_number}
use Rattle.chip.specs.Formats.{read_at}
use Rattle.chip.specs.Chip.{fault_on, mends_on}
use Rattle.reads.specs.Reads.{pages, fault_read, mends_read}
use Rattle.runs.specs.Sheet.{sheet_of}
use Rattle.sheets.specs.declared.Sheet.{Sheet}
use Rattle.sheets.specs.View.{fields_of, sheets_of}
use Rattle.gather.specs.declared.sheet.Met.{Met}

-- p-space and b-space in their sizes, a page buffer of S bytes, S at least 28, and c of the chip's pages, at most 256
pub record Gatherable (sz : Sizes) (pspace bspace whole : List ℕ) (c : ℕ) : Type 0 where
  pub pspace-length : length pspace ≡ sz.P * sz.S
  pub bspace-length : length bspace ≡ sz.B * sz.K * sz.S
  pub whole_length : length whole ≡ sz.S
  pub wide : 28 ≤ sz.S
  pub few : c ≤ 256
  pub sheets-fit : c ≤ sz.N * sz.K

module _ (sz : Sizes) (d : Directory) (flash codes marks : List ℕ) where
  -- the lowest of the first c pages that is refused: c where none is
  abbrev pub lowest_met : ℕ → ℕ
  lowest_met c = first c (λ i. not (eqb (fault_read sz d flash codes marks i) 0))

  -- its refusal: 0 where there is none
  abbrev pub fault_met_first : ℕ → ℕ
  fault_met_first c = cond (ltb (lowest_met c) c) (fault_read sz d flash codes marks (lowest_met c)) 0

-- page i as a reader is given it
abbrev pub page_read : Sizes → Directory → List ℕ → List ℕ → List ℕ → List ℕ → List ℕ → ℕ → Page
page_read sz d flash codes marks pspace bspace i = read_page (chip_for sz) (zero_page sz) sz d (pages sz flash codes marks pspace bspace) i

-- the refusal that was met: 0 where none was
abbrev pub fault_of : {A : Type 0} → Result A Fault → ℕ
fault_of (Ok x) = 0
fault_of (Err fault) = fault_number (Some fault)

-- ---- one sheet

-- page x, in which so many chunks are mended, holds the sheet, or is refused by this number
pub record Found (fault mends : ℕ) (x : Page) (r : Result Met Fault) : Type 0 where
  pub fault-is : fault_of r ≡ fault
  pub mends-are : IfOk r (λ m. m.mends ≡ mends)
  pub sheet-is : IfOk r (λ m. fields_of m.sheet ≡ sheet_of x)

-- page i of p-space or b-space, where nothing is refused or mended
abbrev pub CachedSheet : ℕ → List ℕ → ℕ → Result Met Fault → Type 0
CachedSheet s space i r = Found 0 0 (page_at s space i) r

-- page n of flash, as it is read
abbrev pub FlashSheet : Sizes → List ℕ → List ℕ → List ℕ → ℕ → Result Met Fault → Type 0
FlashSheet sz flash codes marks n r = Found (fault_on sz flash codes marks n) (mends_on sz flash codes marks n) (read_at sz flash codes n) r

-- page i as a reader is given it
abbrev pub SheetRead : Sizes → Directory → List ℕ → List ℕ → List ℕ → List ℕ → List ℕ → ℕ → Result Met Fault → Type 0
SheetRead sz d flash codes marks pspace bspace i r = Found (fault_read sz d flash codes marks i) (mends_read sz d flash codes marks i)
    (page_read sz d flash codes marks pspace bspace i) r

-- ---- all of them

-- the lowest refused page decides; where none is refused, the tables have the sheets that the pages hold, and the mends of each
pub record Gathered (sz : Sizes) (d : Directory) (flash codes marks pspace bspace : List ℕ) (c : ℕ) (r : Result Unit Fault) (t : List Sheet)
    (mends : List ℕ) : Type 0 where
  pub fault-is : fault_of r ≡ fault_met_first sz d flash codes marks c
  pub sheets-are : OnOk r (sheets_of (take c t) ≡ tab c (λ i. sheet_of (page_read sz d flash codes marks pspace bspace i)))
  pub mends-are : OnOk r ((i : ℕ) → i < c → get_or mends i 0 ≡ mends_read sz d flash codes marks i)
