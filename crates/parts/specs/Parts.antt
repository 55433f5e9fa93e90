-- What the write of a combined page asks and leaves.
use Rattle.std.specs.Prelude.{◌≡◌, cond, List, ℕ, ◌+◌, ◌*◌, ◌≤◌, ◌<◌, length}
use Rattle.model.specs.Sizes.{Sizes}
use Rattle.model.specs.Directory.{Directory}
use Rattle.model.specs.Policy.{policy_choice, plan}
use Rattle.model.specs.Formats.{store_format, chip_for}
use Rattle.model.specs.Calls.{Answer, is_refused, reads_page, combined, Page, Buffers, zero_page, memory_of}
use Rattle.chip.specs.declared.Seen.{Seen}
use Rattle.reads.specs.Reads.{pages, fault_read, mends_read}
use Rattle.answer.specs.Numbers.{fault_number}
use Rattle.answer.specs.Carried.{Ready}
use Rattle.writes.specs.Writes.{WroteWith}

-- a page of the chip, a page buffer of S bytes, and bytes that end within the page
pub record PartReady (sz : Sizes) (d : Directory) (u : Buffers) (n first : ℕ) (x page : Page) : Type 0 where
  pub ready : Ready sz d u
  pub page-lt : n < sz.N * sz.K
  pub page-length : length page ≡ sz.S
  pub reach : first + length x ≤ sz.S

-- the combined page of the buffers u
abbrev pub combined_of : Sizes → Directory → Buffers → ℕ → ℕ → Page → Page
combined_of sz d u n first x = combined (chip_for sz) (zero_page sz) sz d (memory_of store_format sz u) n first x

-- page n was read as no use, with what was met there, and the bytes laid in; where the read is refused the page is of no use
pub record Combined (sz : Sizes) (d : Directory) (flash codes marks pspace bspace : List ℕ) (n first : ℕ) (x : Page) (r : Seen)
    (whole : Page) : Type 0 where
  pub fault-is : fault_number r.fault ≡ fault_read sz d flash codes marks n
  pub mends-are : r.mends ≡ mends_read sz d flash codes marks n
  pub whole_is : fault_number r.fault ≡ 0
      → whole ≡ combined (chip_for sz) (zero_page sz) sz d (pages sz flash codes marks pspace bspace) n first x

-- the combined page was written, page n being read besides, and the page buffer has it where the write is accepted
pub record PartWrote (sz : Sizes) (d : Directory) (u : Buffers) (n first : ℕ) (x page : Page) (ops : ℕ) (answer : Answer) (mended : ℕ)
    (d' : Directory) (u' : Buffers) (page' : Page) : Type 0 where
  pub wrote : WroteWith sz d u n (combined_of sz d u n first x) (plan policy_choice sz d u.wear n) (reads_page sz d n) ops answer mended
      d' u'
  pub page-is : page' ≡ cond (is_refused answer) page (combined_of sz d u n first x)
