-- What a write asks and leaves, by its plan.
use Rattle.std.specs.Prelude.{◌≡◌, Bool, true, false, ◌||◌, List, ℕ, suc, ◌*◌, ◌≤◌, ◌<◌, length}
use Rattle.model.specs.Sizes.{Sizes, InLimits}
use Rattle.model.specs.Directory.{Directory, frame_at, valid_at}
use Rattle.model.specs.Policy.{valid_count, slot_count, Plan, slot_hit, frame_hit, free_slot, join, fill, exchange, evict, way_of}
use Rattle.model.specs.Policy.{erased_by, is_worn}
use Rattle.model.specs.Moves.{worn_by, joined, written, merged_by, written_pages}
use Rattle.model.specs.Formats.{store_format, chip_for}
use Rattle.model.specs.Calls.{Answer, write_done, State, Outcome, write_outcome, heeding, write_merges, reads_page, Page, Buffers}
use Rattle.model.specs.Calls.{zero_page}
use Rattle.model.specs.Calls.{memory_of}
use Rattle.model.specs.Cut.{cut_write}
use Rattle.chip.specs.declared.Seen.{Seen}
use Rattle.chip.specs.Chip.{fault_in, mends_in, most_mends, mend_set}
use Rattle.answer.specs.Numbers.{fault_number}
use Rattle.answer.specs.Carried.{Ready, left_of, CarriedTo}
use Rattle.writes.specs.Enter.{Joining, Changing}

-- a page of the chip, a page buffer of S bytes, and no more mends of a read besides than there can be
pub record Writable (sz : Sizes) (d : Directory) (u : Buffers) (n : ℕ) (page : Page) (beside : Seen) : Type 0 where
  pub ready : Ready sz d u
  pub page-lt : n < sz.N * sz.K
  pub page-length : length page ≡ sz.S
  pub few : beside.mends ≤ most_mends

abbrev pub state : Directory → Buffers → State
state d u = record { directory = d; wear = u.wear }

-- ---- what a write reads of flash: its merge reads, and what is read besides

-- what was met where page n was read besides, as no use; besides is that page, or no page where it is not in flash or not read
pub record Beside (sz : Sizes) (d : Directory) (u : Buffers) (n : ℕ) (besides : ℕ → Bool) (beside : Seen) : Type 0 where
  pub within : (i : ℕ) → besides i ≡ true → reads_page sz d n i ≡ true
  pub fault-is : fault_number beside.fault ≡ fault_in sz u besides
  pub mends-are : beside.mends ≡ mends_in sz u besides

abbrev pub write_reads : Sizes → Directory → Plan → (ℕ → Bool) → ℕ → Bool
write_reads sz d p besides i = write_merges sz d p i || besides i

-- what becomes of the write of page n by plan p: refusal 6, then what its reads of flash meet
abbrev pub write_heeding : Sizes → Directory → Buffers → ℕ → Plan → (ℕ → Bool) → Outcome
write_heeding sz d u n p besides = heeding (state d u) (fault_in sz u (write_reads sz d p besides)) (write_outcome sz (state d u) n p)

-- the write of page n by plan p, which reads those pages besides, was carried out, or cut off after so many operations
abbrev pub WroteWith : Sizes → Directory → Buffers → ℕ → Page → Plan → (ℕ → Bool) → ℕ → Answer → ℕ → Directory → Buffers → Type 0
WroteWith sz d u n page p besides ops answer mended d' u' =
    let m = memory_of store_format sz u in
    CarriedTo (suc sz.K ≤ ops) (write_heeding sz d u n p besides) (mends_in sz u (write_reads sz d p besides)) (left_of sz u)
    (cut_write (chip_for sz) (zero_page sz) sz ops d u.wear m p) m
    (written_pages (chip_for sz) (zero_page sz) sz d m n page p) answer mended
    d' (left_of sz u') (memory_of store_format sz u')

-- the same, whatever was read besides where that was met
abbrev pub Wrote : Sizes → Directory → Buffers → ℕ → Page → Plan → Seen → ℕ → Answer → ℕ → Directory → Buffers → Type 0
Wrote sz d u n page p beside ops answer mended d' u' = (besides : ℕ → Bool) → Beside sz d u n besides beside
    → WroteWith sz d u n page p besides ops answer mended d' u'

-- ---- one page put

pub record OverSlot (sz : Sizes) (i : ℕ) (pspace : List ℕ) (page : Page) : Type 0 where
  pub limits : InLimits sz
  pub slot_lt : i < sz.P
  pub pspace-length : length pspace ≡ sz.P * sz.S
  pub page-length : length page ≡ sz.S

pub record OverFrame (sz : Sizes) (f : ℕ) (bspace : List ℕ) (page : Page) : Type 0 where
  pub limits : InLimits sz
  pub frame-lt : f < sz.B
  pub bspace-length : length bspace ≡ sz.B * sz.K * sz.S
  pub page-length : length page ≡ sz.S

-- ---- ways 4 to 7

-- what holds of a plan for a sound record
abbrev pub PlanHolds : Sizes → Directory → Plan → Type 0
PlanHolds sz d (slot_hit i) = i < sz.P
PlanHolds sz d (frame_hit f) = f < sz.B
PlanHolds sz d (free_slot i) = i < sz.P
PlanHolds sz d (join v f) = Joining sz d v f
PlanHolds sz d (fill v f) = Joining sz d v f
PlanHolds sz d (exchange v f) = Changing sz d v f × (valid_count sz d f < slot_count sz d v)
PlanHolds sz d (evict v f) = Changing sz d v f × (0 < slot_count sz d v)

-- ---- a plan is carried out

-- the pages that want mending in a write by plan p
abbrev pub mend_by : Sizes → Directory → List ℕ → List ℕ → Plan → ℕ
mend_by sz d flash codes (evict v f) = mend_set sz flash codes (frame_at d f) (valid_at (joined sz d (frame_at d f) f) f)
mend_by sz d flash codes _ = 0

-- plan p may be carried out: the block that it erases is not worn, its merge reads meet no refusal, and mend has those that want mending
pub record Carries (sz : Sizes) (d : Directory) (u : Buffers) (page : Page) (p : Plan) (mend : ℕ) : Type 0 where
  pub ready : Ready sz d u
  pub page-length : length page ≡ sz.S
  pub holds : PlanHolds sz d p
  pub unworn : is_worn sz u.wear (erased_by d p) ≡ false
  pub faultless : fault_in sz u (write_merges sz d p) ≡ 0
  pub mend-is : mend ≡ mend_by sz d u.flash u.codes p

-- it was, or was cut off after so many operations
pub record CarriedOut (sz : Sizes) (d : Directory) (u : Buffers) (n : ℕ) (page : Page) (p : Plan) (mends ops : ℕ) (answer : Answer)
    (mended : ℕ) (d' : Directory) (u' : Buffers) : Type 0 where
  pub answer-is : answer ≡ write_done (way_of p) (erased_by d p) (merged_by sz d p)
  pub mends-are : mended ≡ mends
  pub directory-is : d' ≡ written sz d n p
  pub left_is : left_of sz u' ≡ cut_write (chip_for sz) (zero_page sz) sz ops d u.wear (memory_of store_format sz u) p
  pub wear-is : suc sz.K ≤ ops → u'.wear ≡ worn_by u.wear (erased_by d p)
  pub pages-are : suc sz.K ≤ ops → memory_of store_format sz u'
      ≡ written_pages (chip_for sz) (zero_page sz) sz d (memory_of store_format sz u) n page p
