-- The rules of document 01 said a second time, as laws over what stands in the record, in the paper's order.
-- Part 1: chip, page space, block space; the cache record; opening.
use Rattle.std.specs.Prelude.{◌≡◌, ◌⊎◌, Bool, true, false, List, [], ℕ, ◌+◌, ◌*◌, ◌≤◌, ◌<◌, length, get_or}
use Rattle.prelude.specs.Scan.{count}
use Rattle.prelude.specs.Bits.{bit}
use Rattle.model.specs.Sizes.{Sizes, vacant, sizes_ok}
use Rattle.model.specs.Directory.{Directory, slot_at, frame_at, valid_at, recency_at, uses_at, vacant_directory, blank_cache}
use Rattle.model.specs.Soundness.{sound}
use Rattle.model.specs.Calls.{open_done, refused, Format, Buffers, lent_ok, torn_blocks, open_store}
use Rattle.model.specs.Formats.{store_format}
use Rattle.model.specs.RulesWords.{◌⇔◌}

-- ---- sizes and buffers

-- Vacant is 4,294,967,295.
abbrev pub VacantRule : Type 0
VacantRule = vacant ≡ 4294967295

-- Page bytes S 1 to 2,048; pages per block K 2 to 64; flash blocks N 1 to 4,096; page places P 1 to 128; block frames B 1 to 8; wear limit
-- W 1 to 1,000,000. The policy is 0 LRU, 1 FIFO or 2 LFU (request A5). Coded is 0 or 1, and 1 only where S is a multiple of 256 (A6). There
-- are 0 to 8 shelf pages (A8). Marked is 0 or 1 (A12).
pub record WithinLimits (sz : Sizes) : Type 0 where
  pub S_is : (1 ≤ sz.S) × (sz.S ≤ 2048)
  pub K_is : (2 ≤ sz.K) × (sz.K ≤ 64)
  pub N_is : (1 ≤ sz.N) × (sz.N ≤ 4096)
  pub P_is : (1 ≤ sz.P) × (sz.P ≤ 128)
  pub B_is : (1 ≤ sz.B) × (sz.B ≤ 8)
  pub W_is : (1 ≤ sz.W) × (sz.W ≤ 1000000)
  pub policy-is : (sz.policy ≡ 0) ⊎ ((sz.policy ≡ 1) ⊎ (sz.policy ≡ 2))
  pub options-are : (sz.coded ≤ 1) × (sz.shelf_pages ≤ 8) × (sz.marked ≤ 1)
  pub chunks-are : sz.coded ≡ 1 → (m : ℕ) × (sz.S ≡ m * 256)

-- The test of the sizes passes exactly within these limits.
abbrev pub SizesRule : Type 0
SizesRule = (sz : Sizes) → (sizes_ok sz ≡ true) ⇔ WithinLimits sz

-- Lent buffers: flash of N×K×S bytes, codes and marks of N×K pages', wear of N numbers, p-space of P×S bytes, b-space of B×K×S bytes.
pub record RightLengths (fmt : Format) (sz : Sizes) (u : Buffers) : Type 0 where
  pub flash-is : length u.flash ≡ sz.N * sz.K * sz.S
  pub codes-are : length u.codes ≡ sz.N * sz.K * fmt.code_long sz
  pub marks-are : length u.marks ≡ sz.N * sz.K * fmt.mark_long sz
  pub wear-is : length u.wear ≡ sz.N
  pub pspace-is : length u.pspace ≡ sz.P * sz.S
  pub bspace-is : length u.bspace ≡ sz.B * sz.K * sz.S

-- The test of the buffers passes exactly at these lengths.
abbrev pub LengthsRule : Type 0
LengthsRule = (fmt : Format) (sz : Sizes) (u : Buffers) → (lent_ok fmt sz u ≡ true) ⇔ RightLengths fmt sz u

-- Without the options, the store is lent codes and marks of length 0.
abbrev pub NoCodesRule : Type 0
NoCodesRule = (sz : Sizes) (u : Buffers) → sz.coded ≡ 0 → sz.marked ≡ 0 → RightLengths store_format sz u
    → (length u.codes ≡ 0) × (length u.marks ≡ 0)

-- A coded store whose pages are m chunks of 256 bytes is lent 3 bytes of code for each chunk.
abbrev pub CodesRule : Type 0
CodesRule = (sz : Sizes) (u : Buffers) (m : ℕ) → sz.coded ≡ 1 → sz.S ≡ m * 256 → RightLengths store_format sz u
    → length u.codes ≡ sz.N * sz.K * (m * 3)

-- A marked store is lent one byte for each page, an unmarked one none (A12).
abbrev pub MarksRule : Type 0
MarksRule = (sz : Sizes) (u : Buffers) → RightLengths store_format sz u
    → (sz.marked ≡ 1 → length u.marks ≡ sz.N * sz.K) × (sz.marked ≡ 0 → u.marks ≡ [])

-- ---- when a record is sound

-- It has 128 slots and 8 frames, each frame with a set of valid pages, an order entry and a use count.
pub record Shaped (d : Directory) : Type 0 where
  pub slots-are : length d.slots ≡ 128
  pub frames-are : length d.frames ≡ 8
  pub valid-are : length d.valid ≡ 8
  pub order_is : length d.recency ≡ 8
  pub uses-are : length d.uses ≡ 8

-- What the first P slots and the first B frames hold:
pub record HeldRight (sz : Sizes) (d : Directory) : Type 0 where
  -- each of the first P slots is vacant or holds a page number below N×K;
  pub slot-in : (i : ℕ) → i < sz.P → (slot_at d i ≡ 4294967295) ⊎ (slot_at d i < sz.N * sz.K)
  -- each of the first B frames is vacant with no valid bit, or holds a block number below N, at least one valid bit and none at K or above;
  pub frame-in : (f : ℕ) → f < sz.B
      → ((frame_at d f ≡ 4294967295) × ((o : ℕ) → bit (valid_at d f) o ≡ false))
      ⊎ ((frame_at d f < sz.N) × ((o : ℕ) × (bit (valid_at d f) o ≡ true)) × ((o : ℕ) → sz.K ≤ o → bit (valid_at d f) o ≡ false))
  -- no page number stands in two slots,
  pub slots-differ : (i j : ℕ) → i < j → j < sz.P → slot_at d i ≡ slot_at d j → slot_at d i ≡ 4294967295
  -- no block in two frames,
  pub frames-differ : (f g : ℕ) → f < g → g < sz.B → frame_at d f ≡ frame_at d g → frame_at d f ≡ 4294967295
  -- no page both in a slot and valid in a frame (page b×K+o is the one at offset o of block b).
  pub cached-once : (i f b o : ℕ) → i < sz.P → f < sz.B → b < sz.N → o < sz.K
      → slot_at d i ≡ b * sz.K + o → frame_at d f ≡ b → bit (valid_at d f) o ≡ true → ⊥

-- A record is sound if:
pub record SoundBy (sz : Sizes) (d : Directory) : Type 0 where
  -- sizes, W and options are as opening's refusal 1 demands;
  pub sizes-are : WithinLimits sz
  pub shape_is : Shaped d
  pub held-right : HeldRight sz d
  -- the order lists 0 to B-1 once each.
  pub order-has : (f : ℕ) → f < sz.B → (i : ℕ) × (i < sz.B) × (recency_at d i ≡ f)
  pub order-once : (i j : ℕ) → i < sz.B → j < sz.B → recency_at d i ≡ recency_at d j → i ≡ j
  -- Entries past P and B are vacant, their bits 0, and their order entry is their own index.
  pub slots-past : (i : ℕ) → sz.P ≤ i → i < 128 → slot_at d i ≡ 4294967295
  pub frames-past : (f : ℕ) → sz.B ≤ f → f < 8 → (frame_at d f ≡ 4294967295) × (valid_at d f ≡ 0) × (recency_at d f ≡ f)
  -- Occupied frames have at least 1 use, all others 0 (request A5).
  pub uses-some : (f : ℕ) → f < 8 → (frame_at d f ≡ 4294967295 → ⊥) → 1 ≤ uses_at d f
  pub uses-none : (f : ℕ) → f < 8 → frame_at d f ≡ 4294967295 → uses_at d f ≡ 0

-- The test of a record passes exactly where all of this holds.
abbrev pub SoundRule : Type 0
SoundRule = (sz : Sizes) (d : Directory) → (sound sz d ≡ true) ⇔ SoundBy sz d

-- ---- the blank record

-- All vacant: every slot and frame is vacant, no page is valid, each order entry is its own index, no uses are counted.
pub record AllVacant (d : Directory) : Type 0 where
  pub shape_is : Shaped d
  pub slot_is : (i : ℕ) → i < 128 → slot_at d i ≡ 4294967295
  pub frame_is : (f : ℕ) → f < 8 → frame_at d f ≡ 4294967295
  pub valid-is : (f : ℕ) → f < 8 → valid_at d f ≡ 0
  pub order-at : (f : ℕ) → f < 8 → recency_at d f ≡ f
  pub uses-is : (f : ℕ) → f < 8 → uses_at d f ≡ 0

-- The record that an accepted opening starts from is all vacant.
abbrev pub StartRule : Type 0
StartRule = AllVacant vacant_directory

-- The blank record has sizes and W 0, LRU and no other option, and all of it is vacant.
abbrev pub BlankRule : Type 0
BlankRule = (blank_cache.sizes ≡ record { S = 0; K = 0; N = 0; P = 0; B = 0; W = 0; policy = 0; coded = 0; shelf_pages = 0; marked = 0 })
    × AllVacant blank_cache.directory

-- It is unsound, so that each call before an opening is refused 4.
abbrev pub BlankUnsoundRule : Type 0
BlankUnsoundRule = sound blank_cache.sizes blank_cache.directory ≡ false

-- ---- opening: 1, then 2, then 3

-- an opening that is turned down for cause r hands back the blank record
abbrev pub OpeningRefused : Format → Sizes → Buffers → ℕ → Type 0
OpeningRefused fmt sz u r = ((open_store fmt sz u).answer ≡ refused r 4294967295) × ((open_store fmt sz u).cache ≡ blank_cache)
    × ((open_store fmt sz u).torn ≡ 0)

-- Opening refuses 1 when a size or W is beyond its limits, the policy is none of the three, or another option is set.
abbrev pub OpeningSizeRule : Type 0
OpeningSizeRule = (fmt : Format) (sz : Sizes) (u : Buffers) → (WithinLimits sz → ⊥) → OpeningRefused fmt sz u 1

-- Then 2 when a lent buffer has another length.
abbrev pub OpeningBufferRule : Type 0
OpeningBufferRule = (fmt : Format) (sz : Sizes) (u : Buffers) → WithinLimits sz → (RightLengths fmt sz u → ⊥) → OpeningRefused fmt sz u 2

-- Then 3 when a wear entry is above W.
abbrev pub OpeningOverwornRule : Type 0
OpeningOverwornRule = (fmt : Format) (sz : Sizes) (u : Buffers) → WithinLimits sz → RightLengths fmt sz u
    → (b : ℕ) → b < sz.N → sz.W < get_or u.wear b 0 → OpeningRefused fmt sz u 3

-- Else it gives a record with the sizes set, all vacant. No buffer is among what it gives: it changes none.
abbrev pub OpeningDoneRule : Type 0
OpeningDoneRule = (fmt : Format) (sz : Sizes) (u : Buffers) → WithinLimits sz → RightLengths fmt sz u
    → ((b : ℕ) → b < sz.N → get_or u.wear b 0 ≤ sz.W)
    → ((open_store fmt sz u).answer ≡ open_done) × ((open_store fmt sz u).cache.sizes ≡ sz)
    × AllVacant (open_store fmt sz u).cache.directory
    × ((open_store fmt sz u).torn ≡ torn_blocks sz u.marks)

-- The torn blocks are those below N with a mark that is not 0, however many marks that are; where there are no marks none is torn.
abbrev pub TornBlocksRule : Type 0
TornBlocksRule = (sz : Sizes) (marks : List ℕ) → ((torn : ℕ → Bool)
    → ((b : ℕ) → b < sz.N → (torn b ≡ true) ⇔ ((o : ℕ) × (o < sz.K) × (get_or marks (b * sz.K + o) 0 ≡ 0 → ⊥)))
    → torn_blocks sz marks ≡ count sz.N torn) × (marks ≡ [] → torn_blocks sz marks ≡ 0)
