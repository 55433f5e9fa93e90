-- The rules of document 01 said a second time. Part 2: what moves: wear, the order of use, pages that join a frame or exchange with it, a
-- rewrite, a flush step. Each law says of every entry of the record and every page what it holds afterwards; d is the record before, e the
-- one after, m and q are the pages before and after.
use Rattle.std.specs.Prelude.{◌≡◌, ◌⊎◌, true, false, List, [], ◌∷◌, ◌++◌, ℕ, ◌+◌, ◌*◌, ◌≤◌, ◌<◌, length, get_or, take, drop}
use Rattle.prelude.specs.Bits.{bit}
use Rattle.model.specs.Sizes.{Sizes, sizes_ok}
use Rattle.model.specs.Directory.{Directory, slot_at, frame_at, valid_at, uses_at}
use Rattle.model.specs.Soundness.{sound}
use Rattle.model.specs.Policy.{merge_reads, due}
use Rattle.model.specs.Moves.{Chip, Memory, cell_at, flash_page, worn_by, touched, joined, joined_pages, exchanged, exchanged_pages}
use Rattle.model.specs.Moves.{rewritten_pages, stepped}
use Rattle.model.specs.Moves.{stepped_pages}
use Rattle.model.specs.RulesWords.{◌⇔◌, InSlot, OfBlock, pages_in_slots, valid_pages, missing_pages, without}

-- ---- wear

-- An erasure of block b adds 1 to its wear, and to no other's.
abbrev pub WearRule : Type 0
WearRule = (w : List ℕ) (b : ℕ) → b < length w → b < 4294967295
    → (get_or (worn_by w b) b 0 ≡ get_or w b 0 + 1)
    × ((c : ℕ) → (c ≡ b → ⊥) → get_or (worn_by w b) c 0 ≡ get_or w c 0) × (length (worn_by w b) ≡ length w)

-- Where no block is erased the wear stays.
abbrev pub NoWearRule : Type 0
NoWearRule = (w : List ℕ) → worn_by w 4294967295 ≡ w

-- ---- the order of use, and the uses

-- Frame f becomes most recent: the first B entries are what they were without f, and then f; the entries past B stay.
pub record MostRecent (sz : Sizes) (d e : Directory) (f : ℕ) : Type 0 where
  pub front : take sz.B e.recency ≡ without f (take sz.B d.recency) ++ (f ∷ [])
  pub past : drop sz.B e.recency ≡ drop sz.B d.recency

-- Frame f is hit or joined (request A5): under LRU and LFU it becomes most recent, under FIFO, policy 1, the order stays. It has one use
-- more, held at 4,294,967,295; the other frames' uses stay.
pub record Used (sz : Sizes) (d e : Directory) (f : ℕ) : Type 0 where
  pub recent : (sz.policy ≡ 1 → ⊥) → MostRecent sz d e f
  pub fifo : sz.policy ≡ 1 → e.recency ≡ d.recency
  pub more : uses_at d f < 4294967295 → uses_at e f ≡ uses_at d f + 1
  pub held : 4294967295 ≤ uses_at d f → uses_at e f ≡ uses_at d f
  pub others : (g : ℕ) → (g ≡ f → ⊥) → uses_at e g ≡ uses_at d g

-- Frame f has been filled, by way 5, 6 or 7: it becomes most recent under every policy. Its first use is counted where its pages move in.
pub record Filled (sz : Sizes) (d e : Directory) (f : ℕ) : Type 0 where
  pub recent : MostRecent sz d e f
  pub uses-stay : e.uses ≡ d.uses

-- Slots and frames stay.
pub record HeldStays (d e : Directory) : Type 0 where
  pub slots-stay : e.slots ≡ d.slots
  pub frames-stay : (e.frames ≡ d.frames) × (e.valid ≡ d.valid)

-- A hit or join changes order and uses so, and nothing else of the record.
abbrev pub UsedRule : Type 0
UsedRule = (sz : Sizes) (d : Directory) → sound sz d ≡ true → (f : ℕ) → f < sz.B
    → Used sz d (touched sz false d f) f × HeldStays d (touched sz false d f)

-- A filling changes the order so, and nothing else.
abbrev pub FilledRule : Type 0
FilledRule = (sz : Sizes) (d : Directory) → sound sz d ≡ true → (f : ℕ) → f < sz.B
    → Filled sz d (touched sz true d f) f × HeldStays d (touched sz true d f)

-- ---- pages of block b in slots join frame f, which is b's or vacant

-- The pages' slots are vacated and all other slots stay. The frame is b's; valid in it are the offsets that were, and those whose pages
-- stood in slots. A frame that was vacant has its first use then, one that was occupied keeps its uses. Other frames and the order stay.
pub record Joined (sz : Sizes) (d e : Directory) (b f : ℕ) : Type 0 where
  pub left : (i : ℕ) → i < 128 → OfBlock sz d b i → slot_at e i ≡ 4294967295
  pub stays : (i : ℕ) → i < 128 → (OfBlock sz d b i → ⊥) → slot_at e i ≡ slot_at d i
  pub frame_is : frame_at e f ≡ b
  pub valid-is : (o : ℕ) → o < sz.K → (bit (valid_at e f) o ≡ true) ⇔ ((bit (valid_at d f) o ≡ true) ⊎ InSlot sz d (b * sz.K + o))
  pub valid-above : (o : ℕ) → sz.K ≤ o → bit (valid_at e f) o ≡ false
  pub frames-stay : (g : ℕ) → (g ≡ f → ⊥) → (frame_at e g ≡ frame_at d g) × (valid_at e g ≡ valid_at d g)
  pub order-stays : e.recency ≡ d.recency
  pub first-use : frame_at d f ≡ 4294967295 → uses_at e f ≡ 1
  pub uses-stay : (frame_at d f ≡ 4294967295 → ⊥) → uses_at e f ≡ uses_at d f
  pub others-stay : (g : ℕ) → (g ≡ f → ⊥) → uses_at e g ≡ uses_at d g

-- So a join leaves the record.
abbrev pub JoinedRule : Type 0
JoinedRule = (sz : Sizes) (d : Directory) → sound sz d ≡ true → (b f : ℕ) → b < sz.N → f < sz.B → Joined sz d (joined sz d b f) b f

-- Each page is copied to its offset in the frame's own stretch of b-space; every other page of b-space stays, and flash and p-space do.
pub record JoinedPages {C A : Type 0} (filler : A) (sz : Sizes) (d : Directory) (m q : Memory C A) (b f : ℕ) : Type 0 where
  pub copied : (i o : ℕ) → i < sz.P → o < sz.K → slot_at d i ≡ b * sz.K + o
      → get_or q.bspace (f * sz.K + o) filler ≡ get_or m.pspace i filler
  pub kept : (o : ℕ) → o < sz.K → (InSlot sz d (b * sz.K + o) → ⊥)
      → get_or q.bspace (f * sz.K + o) filler ≡ get_or m.bspace (f * sz.K + o) filler
  pub others : (g o : ℕ) → g < sz.B → o < sz.K → (g ≡ f → ⊥)
      → get_or q.bspace (g * sz.K + o) filler ≡ get_or m.bspace (g * sz.K + o) filler
  pub bspace-long : length q.bspace ≡ sz.B * sz.K
  pub flash-stays : q.flash ≡ m.flash
  pub pspace-stays : q.pspace ≡ m.pspace

-- So a join leaves the pages.
abbrev pub JoinedPagesRule : Type 1
JoinedPagesRule = (sz : Sizes) (d : Directory) → sound sz d ≡ true → (b f : ℕ) → b < sz.N → f < sz.B
    → (C A : Type 0) (filler : A) (m : Memory C A) → JoinedPages filler sz d m (joined_pages filler sz d m b f) b f

-- ---- way 6: block b's pages in slots exchange with the pages of frame f

-- the slot of a victim page that meets no old page of equal offset, and the offset of an old page that meets no victim page
abbrev pub Freed : Sizes → Directory → ℕ → ℕ → ℕ → Type 0
Freed sz d b f i = (i < sz.P) × ((o : ℕ) × (o < sz.K) × (slot_at d i ≡ b * sz.K + o) × (bit (valid_at d f) o ≡ false))

abbrev pub Other : Sizes → Directory → ℕ → ℕ → ℕ → Type 0
Other sz d b f o = (o < sz.K) × (bit (valid_at d f) o ≡ true) × (InSlot sz d (b * sz.K + o) → ⊥)

-- What way 6 leaves in the slots:
pub record ExchangedSlots (sz : Sizes) (d e : Directory) (b f : ℕ) : Type 0 where
  -- slots of other blocks stay
  pub stays : (i : ℕ) → i < 128 → (OfBlock sz d b i → ⊥) → slot_at e i ≡ slot_at d i
  -- the slot of an exchanged victim page takes the old page's number
  pub met : (i o : ℕ) → i < sz.P → o < sz.K → slot_at d i ≡ b * sz.K + o → bit (valid_at d f) o ≡ true
      → slot_at e i ≡ frame_at d f * sz.K + o
  -- a remaining vacated slot takes one of the other old pages, or is vacant
  pub takes : (i : ℕ) → Freed sz d b f i
      → (slot_at e i ≡ 4294967295) ⊎ ((o : ℕ) × Other sz d b f o × (slot_at e i ≡ frame_at d f * sz.K + o))
  -- every other old page goes to one
  pub all_go : (o : ℕ) → Other sz d b f o → (i : ℕ) × Freed sz d b f i × (slot_at e i ≡ frame_at d f * sz.K + o)
  -- offsets upward go to slots' numbers upward,
  pub upward : (i j o p : ℕ) → Freed sz d b f i → Freed sz d b f j → i < j → o < sz.K → p < sz.K
      → slot_at e i ≡ frame_at d f * sz.K + o → slot_at e j ≡ frame_at d f * sz.K + p → o < p
  -- and no slot is passed over
  pub no_gap : (i j : ℕ) → Freed sz d b f i → Freed sz d b f j → i < j → slot_at e i ≡ 4294967295 → slot_at e j ≡ 4294967295

-- And in the record: the frame is now the victim's, with only the victim pages valid, and has its first use; other frames and the order
-- stay.
pub record Exchanged (sz : Sizes) (d e : Directory) (b f : ℕ) : Type 0 where
  pub slots-go : ExchangedSlots sz d e b f
  pub frame_is : frame_at e f ≡ b
  pub valid-is : (o : ℕ) → o < sz.K → (bit (valid_at e f) o ≡ true) ⇔ InSlot sz d (b * sz.K + o)
  pub valid-above : (o : ℕ) → sz.K ≤ o → bit (valid_at e f) o ≡ false
  pub frames-stay : (g : ℕ) → (g ≡ f → ⊥) → (frame_at e g ≡ frame_at d g) × (valid_at e g ≡ valid_at d g)
  pub order-stays : e.recency ≡ d.recency
  pub first-use : uses_at e f ≡ 1
  pub others-stay : (g : ℕ) → (g ≡ f → ⊥) → uses_at e g ≡ uses_at d g

-- So way 6 leaves the record, where the frame holds a block and has fewer pages than b has in slots.
abbrev pub ExchangedRule : Type 0
ExchangedRule = (sz : Sizes) (d : Directory) → sound sz d ≡ true → (b f : ℕ) → b < sz.N → f < sz.B
    → frame_at d f < sz.N → valid_pages d f < pages_in_slots sz d b → Exchanged sz d (exchanged sz d b f) b f

-- The slots' part of it leaves nothing open: two records that it allows hold the same in every slot.
abbrev pub ExchangedOneRule : Type 0
ExchangedOneRule = (sz : Sizes) (d : Directory) → sound sz d ≡ true → (b f : ℕ) → b < sz.N → frame_at d f < sz.N
    → (e e' : Directory) → ExchangedSlots sz d e b f → ExchangedSlots sz d e' b f
    → (i : ℕ) → i < sz.P → slot_at e i ≡ slot_at e' i

-- Bytes go with the numbers: a slot that takes the old page of offset o gets its bytes from the frame, each victim page stands at its
-- offset in the frame, and every other page of p-space and b-space, and flash, stays.
pub record ExchangedPages {C A : Type 0} (filler : A) (sz : Sizes) (d e : Directory) (m q : Memory C A) (b f : ℕ) : Type 0 where
  pub taken-over : (i o : ℕ) → i < sz.P → o < sz.K → OfBlock sz d b i → slot_at e i ≡ frame_at d f * sz.K + o
      → get_or q.pspace i filler ≡ get_or m.bspace (f * sz.K + o) filler
  pub vacant-kept : (i : ℕ) → i < sz.P → slot_at e i ≡ 4294967295 → get_or q.pspace i filler ≡ get_or m.pspace i filler
  pub pspace-kept : (i : ℕ) → i < sz.P → (OfBlock sz d b i → ⊥) → get_or q.pspace i filler ≡ get_or m.pspace i filler
  pub copied : (i o : ℕ) → i < sz.P → o < sz.K → slot_at d i ≡ b * sz.K + o
      → get_or q.bspace (f * sz.K + o) filler ≡ get_or m.pspace i filler
  pub kept : (o : ℕ) → o < sz.K → (InSlot sz d (b * sz.K + o) → ⊥)
      → get_or q.bspace (f * sz.K + o) filler ≡ get_or m.bspace (f * sz.K + o) filler
  pub others : (g o : ℕ) → g < sz.B → o < sz.K → (g ≡ f → ⊥)
      → get_or q.bspace (g * sz.K + o) filler ≡ get_or m.bspace (g * sz.K + o) filler
  pub pspace-long : length q.pspace ≡ sz.P
  pub bspace-long : length q.bspace ≡ sz.B * sz.K
  pub flash-stays : q.flash ≡ m.flash

-- So way 6 leaves the pages.
abbrev pub ExchangedPagesRule : Type 1
ExchangedPagesRule = (sz : Sizes) (d : Directory) → sound sz d ≡ true → (b f : ℕ) → b < sz.N → f < sz.B
    → frame_at d f < sz.N → valid_pages d f < pages_in_slots sz d b
    → (C A : Type 0) (filler : A) (m : Memory C A) → ExchangedPages filler sz d (exchanged sz d b f) m (exchanged_pages filler sz d m b f) b
    f

-- ---- a rewrite of frame f of block b

-- Each offset that is not valid is read from flash into the frame; then all K pages of the frame are programmed: a cell of the block is
-- what programming the frame's page leaves. The frame's own stretch of b-space is written and nothing beside it; p-space and the cells of
-- every other block stay.
pub record Rewritten {C A : Type 0} (chip : Chip C A) (filler : A) (sz : Sizes) (d : Directory) (m q : Memory C A) (b f : ℕ) : Type 0 where
  pub merge_read : (o : ℕ) → o < sz.K → bit (valid_at d f) o ≡ false
      → get_or q.bspace (f * sz.K + o) filler ≡ flash_page chip filler m (b * sz.K + o)
  pub valid-kept : (o : ℕ) → o < sz.K → bit (valid_at d f) o ≡ true
      → get_or q.bspace (f * sz.K + o) filler ≡ get_or m.bspace (f * sz.K + o) filler
  pub programmed-all : (o : ℕ) → o < sz.K → cell_at chip filler q.flash (b * sz.K + o)
      ≡ chip.cell (get_or q.bspace (f * sz.K + o) filler)
  pub bspace-others : (g o : ℕ) → g < sz.B → o < sz.K → (g ≡ f → ⊥)
      → get_or q.bspace (g * sz.K + o) filler ≡ get_or m.bspace (g * sz.K + o) filler
  pub flash-others : (c o : ℕ) → c < sz.N → o < sz.K → (c ≡ b → ⊥)
      → cell_at chip filler q.flash (c * sz.K + o) ≡ cell_at chip filler m.flash (c * sz.K + o)
  pub pspace-stays : q.pspace ≡ m.pspace
  pub flash-long : length q.flash ≡ sz.N * sz.K
  pub bspace-long : length q.bspace ≡ sz.B * sz.K

-- So a rewrite leaves the pages.
abbrev pub RewrittenRule : Type 1
RewrittenRule = (sz : Sizes) → sizes_ok sz ≡ true → (d : Directory) (b f : ℕ) → b < sz.N → f < sz.B
    → (C A : Type 0) (chip : Chip C A) (filler : A) (m : Memory C A)
    → Rewritten chip filler sz d m (rewritten_pages chip filler sz d m b f) b f

-- Once the block's pages in slots have joined it, its merge reads are the offsets that are not valid and whose pages stand in no slot.
abbrev pub MergesRule : Type 0
MergesRule = (sz : Sizes) (d : Directory) → sound sz d ≡ true → (b f : ℕ) → b < sz.N → f < sz.B
    → merge_reads sz (joined sz d b f) f ≡ missing_pages sz d b f

-- ---- a flush step for block b through frame f

-- The block's pages leave their slots, and the frame is vacant then, with no use. The order of use does not change.
pub record Stepped (sz : Sizes) (d e : Directory) (b f : ℕ) : Type 0 where
  pub left : (i : ℕ) → i < 128 → OfBlock sz d b i → slot_at e i ≡ 4294967295
  pub stays : (i : ℕ) → i < 128 → (OfBlock sz d b i → ⊥) → slot_at e i ≡ slot_at d i
  pub vacated-frame : (frame_at e f ≡ 4294967295) × (valid_at e f ≡ 0)
  pub frames-stay : (g : ℕ) → (g ≡ f → ⊥) → (frame_at e g ≡ frame_at d g) × (valid_at e g ≡ valid_at d g)
  pub order-stays : e.recency ≡ d.recency
  pub no-use : uses_at e f ≡ 0
  pub others-stay : (g : ℕ) → (g ≡ f → ⊥) → uses_at e g ≡ uses_at d g

-- So a flush step leaves the record.
abbrev pub SteppedRule : Type 0
SteppedRule = (sz : Sizes) (d : Directory) → sound sz d ≡ true → (b f : ℕ) → b < sz.N → f < sz.B
    → Stepped sz d (stepped sz d (due b f)) b f

-- A page of the block in a slot goes to flash, else the frame's where it is valid, else the page is programmed as flash was read. The same
-- pages stand in the frame's stretch of b-space, and each cell of the block is what programming its page leaves. Nothing else changes.
pub record SteppedPages {C A : Type 0} (chip : Chip C A) (filler : A) (sz : Sizes) (d : Directory) (m q : Memory C A) (b f : ℕ) : Type 0
  where
    pub from-slot : (i o : ℕ) → i < sz.P → o < sz.K → slot_at d i ≡ b * sz.K + o
        → cell_at chip filler q.flash (b * sz.K + o) ≡ chip.cell (get_or m.pspace i filler)
    pub from-frame : (o : ℕ) → o < sz.K → (InSlot sz d (b * sz.K + o) → ⊥) → bit (valid_at d f) o ≡ true
        → cell_at chip filler q.flash (b * sz.K + o) ≡ chip.cell (get_or m.bspace (f * sz.K + o) filler)
    pub from-flash : (o : ℕ) → o < sz.K → (InSlot sz d (b * sz.K + o) → ⊥) → bit (valid_at d f) o ≡ false
        → cell_at chip filler q.flash (b * sz.K + o) ≡ chip.cell (flash_page chip filler m (b * sz.K + o))
    pub in_frame : (o : ℕ) → o < sz.K → cell_at chip filler q.flash (b * sz.K + o)
        ≡ chip.cell (get_or q.bspace (f * sz.K + o) filler)
    pub bspace-others : (g o : ℕ) → g < sz.B → o < sz.K → (g ≡ f → ⊥)
        → get_or q.bspace (g * sz.K + o) filler ≡ get_or m.bspace (g * sz.K + o) filler
    pub flash-others : (c o : ℕ) → c < sz.N → o < sz.K → (c ≡ b → ⊥)
        → cell_at chip filler q.flash (c * sz.K + o) ≡ cell_at chip filler m.flash (c * sz.K + o)
    pub pspace-stays : q.pspace ≡ m.pspace
    pub flash-long : length q.flash ≡ sz.N * sz.K
    pub bspace-long : length q.bspace ≡ sz.B * sz.K

-- So a flush step leaves the pages.
abbrev pub SteppedPagesRule : Type 1
SteppedPagesRule = (sz : Sizes) (d : Directory) → sound sz d ≡ true → (b f : ℕ) → b < sz.N → f < sz.B
    → (C A : Type 0) (chip : Chip C A) (filler : A) (m : Memory C A)
    → SteppedPages chip filler sz d m (stepped_pages chip filler sz d m (due b f)) b f
