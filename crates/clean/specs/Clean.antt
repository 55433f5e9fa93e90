-- What the cleaning of one block asks and leaves: a flush step, and the beginning of way 7. A primed value is the one afterwards.
use Rattle.std.specs.Prelude.{◌≡◌, List, ℕ, suc, ◌-◌, ◌*◌, ◌≤◌, ◌<◌, length, get_or}
use Rattle.model.specs.Sizes.{Sizes}
use Rattle.model.specs.Directory.{Directory, valid_at}
use Rattle.model.specs.Soundness.{Sound}
use Rattle.model.specs.Policy.{merge_reads, due}
use Rattle.model.specs.Moves.{Memory, joined, stepped, stepped_pages}
use Rattle.model.specs.Calls.{Page, Cell, zero_page, slot_pages, frame_pages, merges_page, fault_met, mends_met}
use Rattle.model.specs.Cut.{cut_rewrite}
use Rattle.model.proofs.Steps as steps
use Rattle.answer.specs.Numbers.{fault_number}
use Rattle.chip.specs.declared.BlockSeen.{BlockSeen}
use Rattle.chip.specs.declared.Rewrote.{Rewrote}
use Rattle.model.specs.Formats.{chip_for}
use Rattle.chip.specs.Formats.{cells}
use Rattle.chip.specs.Chip.{fault_on, mends_on, mend_set}

-- a block that may be rewritten through frame f
pub record Lookable (sz : Sizes) (d : Directory) (b f : ℕ) : Type 0 where
  pub sound : Sound sz d
  pub block : steps.Ready sz d b f

-- the refusal that its merge reads meet, their mends, and the pages that want mending
pub record MergesLooked (sz : Sizes) (d : Directory) (flash codes marks : List ℕ) (b f : ℕ) (r : BlockSeen) : Type 0 where
  pub fault-is : fault_number r.fault ≡ fault_met sz (fault_on sz flash codes marks) (merges_page sz d b f)
  pub mends-are : r.mends ≡ mends_met sz (mends_on sz flash codes marks) (merges_page sz d b f)
  pub mend-is : r.mend ≡ mend_set sz flash codes b (valid_at (joined sz d b f) f)

-- it is not worn, and the check found no fault
pub record Cleanable (sz : Sizes) (d : Directory) (flash codes marks wear pspace bspace : List ℕ) (b f mend : ℕ) : Type 0 where
  pub sound : Sound sz d
  pub block : steps.Ready sz d b f
  pub unworn : get_or wear b 0 < sz.W
  pub pspace-length : length pspace ≡ sz.P * sz.S
  pub bspace-length : length bspace ≡ sz.B * sz.K * sz.S
  pub faultless : fault_met sz (fault_on sz flash codes marks) (merges_page sz d b f) ≡ 0
  pub mend-is : mend ≡ mend_set sz flash codes b (valid_at (joined sz d b f) f)

-- the lent buffers as cells and pages
abbrev pub memory : Sizes → List ℕ → List ℕ → List ℕ → List ℕ → List ℕ → Memory Cell Page
memory sz flash codes marks pspace bspace = record {
  flash = cells sz flash codes marks;
  pspace = slot_pages sz pspace;
  bspace = frame_pages sz bspace;
}

-- its pages in slots joined the frame, and the frame was vacated, and rewritten or cut off; a rewrite that is not cut off leaves the
-- model's memory
pub record BlockCleaned (sz : Sizes) (d : Directory) (flash codes marks wear pspace bspace : List ℕ) (b f ops : ℕ) (d' : Directory)
    (r : Rewrote) (flash' codes' marks' wear' bspace' : List ℕ) : Type 0 where
  pub directory-is : d' ≡ stepped sz d (due b f)
  pub reads_are : r.reads ≡ merge_reads sz (joined sz d b f) f
  pub left_is : r.left ≡ ops - suc sz.K
  pub chip-is : record { flash = cells sz flash' codes' marks'; wear = wear' }
      ≡ cut_rewrite (chip_for sz) (zero_page sz) sz ops d wear (memory sz flash codes marks pspace bspace) b f
  pub pages-are : suc sz.K ≤ ops → memory sz flash' codes' marks' pspace bspace'
      ≡ stepped_pages (chip_for sz) (zero_page sz) sz d (memory sz flash codes marks pspace bspace) (due b f)
