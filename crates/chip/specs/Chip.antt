-- What the operations of the chip and a rewrite ask and give. A primed list is the buffer afterwards.
use Rattle.std.specs.Prelude.{◌≡◌, Bool, true, false, not, cond, ◌&&◌, ◌||◌, List, [], ℕ, suc, ◌+◌, ◌-◌, ◌*◌, ◌/◌, ◌%◌, ◌^◌, ◌<◌, eqb}
use Rattle.std.specs.Prelude.{ltb, length, get_or, set}
use Rattle.prelude.specs.Scan.{tab}
use Rattle.prelude.specs.Bits.{bit, mask}
use Rattle.prelude.specs.Pages.{page_at, put_page, pages_of}
use Rattle.model.specs.Sizes.{Sizes, InLimits, is_coded, is_marked}
use Rattle.model.specs.Directory.{Directory, valid_at}
use Rattle.model.specs.Policy.{merge_reads}
use Rattle.model.specs.Moves.{Memory, programmed_to, worn, merged, rewritten_pages}
use Rattle.model.specs.Calls.{Page, Cell, Buffers, zero_page, frame_pages, fault_met, mends_met}
use Rattle.chip.specs.declared.Seen.{Seen}
use Rattle.chip.specs.declared.BlockSeen.{BlockSeen}
use Rattle.chip.specs.declared.Rewrote.{Rewrote}
use Rattle.answer.specs.Numbers.{fault_number}
use Rattle.model.specs.Formats.{chip_for, code_long, mark_long}
use Rattle.chip.specs.Formats.{cells, cell_on, read_at, unreadable_at, mends_at}

-- ---- the lent buffers

-- flash and codes in their sizes; a coded store has S a multiple of 256
pub record CodesLent (sz : Sizes) (flash codes : List ℕ) : Type 0 where
  pub limits : InLimits sz
  pub whole : is_coded sz ≡ true → sz.S / 256 * 256 ≡ sz.S
  pub flash-length : length flash ≡ sz.N * sz.K * sz.S
  pub codes-length : length codes ≡ sz.N * sz.K * code_long sz

-- and marks
pub record Lent (sz : Sizes) (flash codes marks : List ℕ) : Type 0 where
  pub codes-lent : CodesLent sz flash codes
  pub marks-length : length marks ≡ sz.N * sz.K * mark_long sz

-- and page n is one of flash's
pub record PageLent (sz : Sizes) (flash codes marks : List ℕ) (n : ℕ) : Type 0 where
  pub lent : Lent sz flash codes marks
  pub page-lt : n < sz.N * sz.K

-- ---- a page is looked at, and read

-- what the code says of page n
pub record CodeLooked (sz : Sizes) (flash codes : List ℕ) (n : ℕ) (r : Seen) : Type 0 where
  pub fault-is : fault_number r.fault ≡ cond (unreadable_at sz flash codes n) 7 0
  pub mends-are : r.mends ≡ mends_at sz flash codes n

-- page n is torn
abbrev pub torn_at : Sizes → List ℕ → ℕ → Bool
torn_at sz marks n = is_marked sz && not (eqb (get_or (page_at (mark_long sz) marks n) 0 0) 0)

-- the refusal that a read from page n meets, and its mends
abbrev pub fault_on : Sizes → List ℕ → List ℕ → List ℕ → ℕ → ℕ
fault_on sz flash codes marks n = (chip_for sz).fault (cell_on sz flash codes marks n)

abbrev pub mends_on : Sizes → List ℕ → List ℕ → List ℕ → ℕ → ℕ
mends_on sz flash codes marks n = (chip_for sz).mends (cell_on sz flash codes marks n)

-- the same over the pages that a call reads: unreadable before torn, and each page's mends once
abbrev pub fault_in : Sizes → Buffers → (ℕ → Bool) → ℕ
fault_in sz u reads = fault_met sz (fault_on sz u.flash u.codes u.marks) reads

abbrev pub mends_in : Sizes → Buffers → (ℕ → Bool) → ℕ
mends_in sz u reads = mends_met sz (mends_on sz u.flash u.codes u.marks) reads

-- no call mends more: 8 chunks of 64 pages of 4,096 blocks
abbrev pub most_mends : ℕ
most_mends = 2097152

-- of two refusals met the one that stands: 7 before 14 (0: none)
abbrev pub worse_of : ℕ → ℕ → ℕ
worse_of a b = cond (eqb a 7 || eqb b 7) 7 (cond (eqb a 14 || eqb b 14) 14 0)

pub record Looked (sz : Sizes) (flash codes marks : List ℕ) (n : ℕ) (r : Seen) : Type 0 where
  pub fault-is : fault_number r.fault ≡ fault_on sz flash codes marks n
  pub mends-are : r.mends ≡ mends_on sz flash codes marks n

-- page di of dst is what page n is read as, or dst is as it was where that meets a refusal
pub record ReadOut (sz : Sizes) (flash codes marks : List ℕ) (n : ℕ) (dst : List ℕ) (di : ℕ) (r : Seen) (dst' : List ℕ) : Type 0 where
  pub looked : Looked sz flash codes marks n r
  pub data_is : dst' ≡ cond (eqb (fault_number r.fault) 0) (put_page sz.S dst di ((chip_for sz).page (cell_on sz flash codes marks n))) dst

-- page n has a code by which it can be read
pub record Legible (sz : Sizes) (flash codes : List ℕ) (n : ℕ) : Type 0 where
  pub codes-lent : CodesLent sz flash codes
  pub page-lt : n < sz.N * sz.K
  pub coded : is_coded sz ≡ true
  pub readable : unreadable_at sz flash codes n ≡ false

-- ---- the merge reads of block b: its offsets that are not in the valid set v

-- flash has a block b, and the stretch is as long
pub record Facing (sz : Sizes) (b : ℕ) (flash stretch : List ℕ) : Type 0 where
  pub limits : InLimits sz
  pub b_lt : b < sz.N
  pub flash-length : length flash ≡ sz.N * sz.K * sz.S
  pub stretch-length : length stretch ≡ sz.K * sz.S

-- and codes
pub record CodesFacing (sz : Sizes) (b : ℕ) (flash codes stretch : List ℕ) : Type 0 where
  pub codes-lent : CodesLent sz flash codes
  pub facing : Facing sz b flash stretch

-- the pages of a stretch
abbrev pub stretch_pages : Sizes → List ℕ → List Page
stretch_pages sz l = pages_of sz.S sz.K l

-- flash page n is read by the merge
unfoldable pub block_reads : Sizes → ℕ → ℕ → ℕ → Bool
block_reads sz b v n = eqb (n / sz.K) b && not (bit v (n % sz.K))

-- the offsets whose pages want mending
unfoldable pub mend_set : Sizes → List ℕ → List ℕ → ℕ → ℕ → ℕ
mend_set sz flash codes b v = mask sz.K (λ o. not (bit v o) && ltb 0 (mends_at sz flash codes (b * sz.K + o)))

-- the refusal that the merge meets, its mends, and the set of the pages that want mending
pub record BlockLooked (sz : Sizes) (flash codes marks : List ℕ) (b v : ℕ) (r : BlockSeen) : Type 0 where
  pub fault-is : fault_number r.fault ≡ fault_met sz (fault_on sz flash codes marks) (block_reads sz b v)
  pub mends-are : r.mends ≡ mends_met sz (mends_on sz flash codes marks) (block_reads sz b v)
  pub mend-is : r.mend ≡ mend_set sz flash codes b v

-- no page that is read is unreadable, and w has those that want mending
pub record Settled (sz : Sizes) (flash codes : List ℕ) (b v w : ℕ) : Type 0 where
  pub mend-is : w ≡ mend_set sz flash codes b v
  pub readable : (o : ℕ) → o < sz.K → bit v o ≡ false → unreadable_at sz flash codes (b * sz.K + o) ≡ false

-- each page in the set w has a code by which it can be read
abbrev pub Mendable : Sizes → List ℕ → List ℕ → ℕ → ℕ → Type 0
Mendable sz flash codes b w = (o : ℕ) → o < sz.K → bit w o ≡ true → Legible sz flash codes (b * sz.K + o)

-- page o of the stretch once the merge reads are made: its own where it is valid, else flash's as the bytes stand there, or as it is read
unfoldable pub raw_page : Sizes → List ℕ → ℕ → List ℕ → ℕ → ℕ → Page
raw_page sz flash b stretch v o = cond (bit v o) (page_at sz.S stretch o) (page_at sz.S flash (b * sz.K + o))

abbrev pub raw_merged : Sizes → List ℕ → ℕ → List ℕ → ℕ → List Page
raw_merged sz flash b stretch v = tab sz.K (raw_page sz flash b stretch v)

unfoldable pub mended_page : Sizes → List ℕ → List ℕ → ℕ → List ℕ → ℕ → ℕ → Page
mended_page sz flash codes b stretch w o = cond (bit w o) (read_at sz flash codes (b * sz.K + o)) (page_at sz.S stretch o)

abbrev pub mended_pages : Sizes → List ℕ → List ℕ → ℕ → List ℕ → ℕ → List Page
mended_pages sz flash codes b stretch w = tab sz.K (mended_page sz flash codes b stretch w)

unfoldable pub merged_page : Sizes → List ℕ → List ℕ → ℕ → List ℕ → ℕ → ℕ → Page
merged_page sz flash codes b stretch v o = cond (bit v o) (page_at sz.S stretch o) (read_at sz flash codes (b * sz.K + o))

abbrev pub merged_pages : Sizes → List ℕ → List ℕ → ℕ → List ℕ → ℕ → List Page
merged_pages sz flash codes b stretch v = tab sz.K (merged_page sz flash codes b stretch v)

-- ---- erasure and programs

-- the erasure is of a block that is not worn
pub record Erasable (sz : Sizes) (b : ℕ) (flash codes marks wear : List ℕ) : Type 0 where
  pub lent : Lent sz flash codes marks
  pub b_lt : b < sz.N
  pub wear-length : length wear ≡ sz.N
  pub unworn : get_or wear b 0 < sz.W

-- the first operation of a rewrite, whatever is to be programmed; the wear is 1 more
pub record Erased (sz : Sizes) (b : ℕ) (flash codes marks wear flash' codes' marks' wear' : List ℕ) : Type 0 where
  pub cells_are : (pg : ℕ → Page) → cells sz flash' codes' marks'
      ≡ programmed_to (chip_for sz) (zero_page sz) 1 sz (cells sz flash codes marks) b pg
  pub wear-is : wear' ≡ worn wear b

-- cell n is page x with its code and its mark
pub record Programmed (sz : Sizes) (flash codes marks : List ℕ) (n : ℕ) (x : Page) (flash' codes' marks' : List ℕ) : Type 0 where
  pub cells_are : cells sz flash' codes' marks' ≡ set (cells sz flash codes marks) n ((chip_for sz).cell x)

-- the first so many pages of block b are programmed from the stretch: where the first operation of a rewrite is done, so are the next
pub record PagesProgrammed (sz : Sizes) (b : ℕ) (flash codes marks stretch : List ℕ) (many : ℕ) (flash' codes' marks' : List ℕ) : Type 0
  where
    pub cells_are : (fl : List Cell) → cells sz flash codes marks
        ≡ programmed_to (chip_for sz) (zero_page sz) 1 sz fl b (page_at sz.S stretch)
        → cells sz flash' codes' marks' ≡ programmed_to (chip_for sz) (zero_page sz) (suc many) sz fl b (page_at sz.S stretch)

-- the first ops operations of a rewrite of block b from the stretch, so many left of them, and the wear
pub record BlockProgrammed (sz : Sizes) (b : ℕ) (flash codes marks wear stretch : List ℕ) (ops left : ℕ)
    (flash' codes' marks' wear' : List ℕ) : Type 0 where
  pub cells_are : cells sz flash' codes' marks' ≡ programmed_to (chip_for sz) (zero_page sz) ops sz (cells sz flash codes marks) b
      (page_at sz.S stretch)
  pub wear-is : wear' ≡ cond (ltb 0 ops) (worn wear b) wear
  pub left_is : left ≡ ops - suc sz.K

-- ---- the rewrite of frame f, of block b

-- flash and b-space, beside no p-space, which a rewrite leaves untouched
abbrev pub chip_memory : Sizes → List ℕ → List ℕ → List ℕ → List ℕ → Memory Cell Page
chip_memory sz flash codes marks bspace = record { flash = cells sz flash codes marks; pspace = []; bspace = frame_pages sz bspace }

-- the valid set v is of pages of a block, the buffers are in their sizes, the block is not worn, no page that is read is faulty, and w has
-- those that want mending
pub record Rewritable (sz : Sizes) (v w b f : ℕ) (flash codes marks wear bspace : List ℕ) : Type 0 where
  pub erasable : Erasable sz b flash codes marks wear
  pub valid-lt : v < 2 ^ sz.K
  pub f_lt : f < sz.B
  pub bspace-length : length bspace ≡ sz.B * sz.K * sz.S
  pub faultless : fault_met sz (fault_on sz flash codes marks) (block_reads sz b v) ≡ 0
  pub mend-is : w ≡ mend_set sz flash codes b v

-- the merge reads, the first ops of the rewrite's operations on flash, the pages of the frame's own stretch, and the wear are the model's,
-- for every directory whose frame f has the valid set v
pub record Rewritten (sz : Sizes) (v b f ops : ℕ) (flash codes marks wear bspace : List ℕ) (r : Rewrote)
    (flash' codes' marks' wear' bspace' : List ℕ) : Type 0 where
  pub reads_are : (d : Directory) → valid_at d f ≡ v → r.reads ≡ merge_reads sz d f
  pub cells_are : (d : Directory) → valid_at d f ≡ v
      → cells sz flash' codes' marks' ≡ programmed_to (chip_for sz) (zero_page sz) ops sz (cells sz flash codes marks) b
      (merged (chip_for sz) (zero_page sz) sz d (chip_memory sz flash codes marks bspace) b f)
  pub frames-are : (d : Directory) → valid_at d f ≡ v
      → frame_pages sz bspace' ≡ (rewritten_pages (chip_for sz) (zero_page sz) sz d (chip_memory sz flash codes marks bspace) b f).bspace
  pub wear-is : wear' ≡ cond (ltb 0 ops) (worn wear b) wear
  pub left_is : r.left ≡ ops - suc sz.K
