-- What a write that keeps the page as it was asks and leaves.
use Rattle.std.specs.Prelude.{◌≡◌, false, ℕ, ◌*◌, ◌<◌, length}
use Rattle.model.specs.Sizes.{Sizes}
use Rattle.model.specs.Directory.{Directory}
use Rattle.model.specs.Policy.{policy_choice, plan}
use Rattle.model.specs.Moves.{read_page}
use Rattle.model.specs.Formats.{store_format, chip_for}
use Rattle.model.specs.Calls.{Answer, is_refused, reads_page, Page, Buffers, zero_page, memory_of}
use Rattle.answer.specs.Carried.{Ready}
use Rattle.writes.specs.Writes.{WroteWith}
use Rattle.parts.specs.Parts.{PartWrote}

-- a page of the chip, and a page buffer and a page to keep it in of S bytes
pub record WriteReady (sz : Sizes) (d : Directory) (u : Buffers) (n : ℕ) (page kept : Page) : Type 0 where
  pub ready : Ready sz d u
  pub page-lt : n < sz.N * sz.K
  pub page-length : length page ≡ sz.S
  pub kept-length : length kept ≡ sz.S

-- page n of the buffers u, as a reader would be given it
abbrev pub seen_in : Sizes → Directory → Buffers → ℕ → Page
seen_in sz d u n = read_page (chip_for sz) (zero_page sz) sz d (memory_of store_format sz u) n

-- where the write is accepted, page n was kept as it was before
abbrev pub KeptPage : Sizes → Directory → Buffers → ℕ → Answer → Page → Type 0
KeptPage sz d u n answer kept' = is_refused answer ≡ false → kept' ≡ seen_in sz d u n

-- the page was written, page n being read besides
pub record KeptWrite (sz : Sizes) (d : Directory) (u : Buffers) (n : ℕ) (page : Page) (ops : ℕ) (answer : Answer) (mended : ℕ)
    (d' : Directory) (u' : Buffers) (kept' : Page) : Type 0 where
  pub wrote : WroteWith sz d u n page (plan policy_choice sz d u.wear n) (reads_page sz d n) ops answer mended d' u'
  pub kept-is : KeptPage sz d u n answer kept'

-- the same of the combined page
pub record KeptPart (sz : Sizes) (d : Directory) (u : Buffers) (n first : ℕ) (x page : Page) (ops : ℕ) (answer : Answer) (mended : ℕ)
    (d' : Directory) (u' : Buffers) (page' kept' : Page) : Type 0 where
  pub wrote : PartWrote sz d u n first x page ops answer mended d' u' page'
  pub kept-is : KeptPage sz d u n answer kept'
