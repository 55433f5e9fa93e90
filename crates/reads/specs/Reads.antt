-- What a read asks, and what it leaves.
use Rattle.std.specs.Prelude.{◌≡◌, cond, List, ℕ, ◌*◌, ◌<◌, eqb, length, None, Some}
use Rattle.model.specs.Sizes.{Sizes}
use Rattle.model.specs.Directory.{Directory}
use Rattle.model.specs.Policy.{frame_with, read_way}
use Rattle.model.specs.Moves.{Memory, read_directory, read_page}
use Rattle.model.specs.Calls.{Page, Cell, zero_page, slot_pages, frame_pages, reads_page, fault_met, mends_met}
use Rattle.model.specs.Formats.{chip_for}
use Rattle.chip.specs.Formats.{cells}
use Rattle.chip.specs.Chip.{fault_on, mends_on}
use Rattle.answer.specs.Ways as ways
use Rattle.answer.specs.Numbers.{fault_number}
use Rattle.reads.specs.declared.Given.{Given}
use Rattle.reads.specs.declared.Answered.{Answered}

-- p-space and b-space in their sizes, a page of the chip, and a page buffer of S bytes
pub record Readable (sz : Sizes) (pspace bspace : List ℕ) (n : ℕ) (page : List ℕ) : Type 0 where
  pub pspace-length : length pspace ≡ sz.P * sz.S
  pub bspace-length : length bspace ≡ sz.B * sz.K * sz.S
  pub page-lt : n < sz.N * sz.K
  pub page-length : length page ≡ sz.S

-- the buffers as cells and pages
abbrev pub pages : Sizes → List ℕ → List ℕ → List ℕ → List ℕ → List ℕ → Memory Cell Page
pages sz flash codes marks pspace bspace = record {
  flash = cells sz flash codes marks;
  pspace = slot_pages sz pspace;
  bspace = frame_pages sz bspace;
}

-- what a read meets in flash, by way 3
abbrev pub fault_read : Sizes → Directory → List ℕ → List ℕ → List ℕ → ℕ → ℕ
fault_read sz d flash codes marks n = fault_met sz (fault_on sz flash codes marks) (reads_page sz d n)

abbrev pub mends_read : Sizes → Directory → List ℕ → List ℕ → List ℕ → ℕ → ℕ
mends_read sz d flash codes marks n = mends_met sz (mends_on sz flash codes marks) (reads_page sz d n)

-- a read: its way, what it meets, and the page buffer afterwards; where flash refuses, it is as it was
pub record Gave (sz : Sizes) (d : Directory) (flash codes marks pspace bspace : List ℕ) (n : ℕ) (page : List ℕ) (r : Answered)
    (page' : List ℕ) : Type 0 where
  pub way-is : ways.read_way r.way ≡ read_way sz d n
  pub fault-is : fault_number r.fault ≡ fault_read sz d flash codes marks n
  pub mends-are : r.mends ≡ mends_read sz d flash codes marks n
  pub page-is : page' ≡ cond (eqb (fault_number r.fault) 0)
      (read_page (chip_for sz) (zero_page sz) sz d (pages sz flash codes marks pspace bspace) n) page

-- a read that counts as no use: the same, and in way 2 the frame
pub record Peeked (sz : Sizes) (d : Directory) (flash codes marks pspace bspace : List ℕ) (n : ℕ) (page : List ℕ) (r : Given)
    (page' : List ℕ) : Type 0 where
  pub frame_is : r.frame ≡ cond (eqb (read_way sz d n) 2) (Some (frame_with sz d n)) None
  pub gave : Gave sz d flash codes marks pspace bspace n page r.answered page'

-- a read that counts as a use: the same as of any read, and the directory d' afterwards
pub record ReadOut (sz : Sizes) (d : Directory) (flash codes marks pspace bspace : List ℕ) (n : ℕ) (page : List ℕ) (r : Answered)
    (d' : Directory) (page' : List ℕ) : Type 0 where
  pub directory-is : d' ≡ read_directory sz d n
  pub gave : Gave sz d flash codes marks pspace bspace n page r page'
