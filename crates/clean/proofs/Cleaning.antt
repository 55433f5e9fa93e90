-- The cleaning of one block: the check beforehand; a join, the frame vacated and a rewrite.
use mathlib.Core.Path.{◌≡◌, sym, ap, ◌∙◌}
use mathlib.Core.Bool.{cond}
use mathlib.Core.List.{List}
use Prim.Native.Nat.{ℕ, suc, ◌≤◌, ◌<◌}
use lib.Dec.{ltb}
use lib.ListN.{length}
use lib.Seq.{get_or-set_same, set-set}
use Rattle.model.specs.Sizes.{Sizes, vacant}
use Rattle.model.specs.Directory.{Directory, valid_at, uses_at}
use Rattle.model.specs.Soundness.{Sound}
use Rattle.model.specs.Policy.{due}
use Rattle.model.specs.Moves.{Memory, flash_page, joined, filled, joined_pages, vacated, merged, rewritten_pages, stepped, stepped_pages}
use Rattle.model.specs.Calls.{Page, Cell, zero_page, slot_pages, merges_page}
use Rattle.model.specs.Cut.{cut_rewrite}
use Rattle.model.proofs.Kept.{joined-sound}
use Rattle.model.proofs.Steps.{worn_by-is}
use Rattle.model.proofs.Plan.{valid-low}
use Rattle.moves.specs.Numbers.{offsets_of, vacated_slots}
use Rattle.moves.specs.Spaces.{spaces, Joined}
use Rattle.chip.specs.declared.BlockSeen.{BlockSeen}
use Rattle.chip.specs.declared.Rewrote.{Rewrote}
use Rattle.model.specs.Formats.{chip_for}
use Rattle.chip.specs.Formats.{cells}
use Rattle.chip.specs.Chip.{Lent, block_reads, chip_memory, BlockLooked, Rewritable, Rewritten}
use Rattle.chip.proofs.Rewriting.{programmed-ext, rewritten-whole}
use Rattle.clean.specs.Clean.{MergesLooked, Cleanable, BlockCleaned, memory}

-- ---- the check beforehand

-- what a merge reads, by the set that the join leaves valid
module _ (sz : Sizes) (d : Directory) (flash codes marks : List ℕ) (b f : ℕ) (r : BlockSeen) where
  pub merges-looked : BlockLooked sz flash codes marks b (valid_at (joined sz d b f) f) r → MergesLooked sz d flash codes marks b f r
  unfolding merges_page block_reads
  merges-looked h = record { fault-is = h.fault-is; mends-are = h.mends-are; mend-is = h.mend-is }

pub joined-set : (sz : Sizes) (d : Directory) (b f : ℕ) → f < length d.valid
    → valid_at (joined sz d b f) f ≡ offsets_of sz d b (valid_at d f)
unfolding joined offsets_of
joined-set sz d b f l = get_or-set_same d.valid f _ 0 l

-- ---- the cleaning

module _ {sz : Sizes} {d : Directory} {flash codes marks wear pspace bspace : List ℕ} {b f mend : ℕ}
    (q : Cleanable sz d flash codes marks wear pspace bspace b f mend) where
  pub joined-is_sound : (d₁ : Directory) → d₁ ≡ joined sz d b f → Sound sz d₁
  joined-is_sound d₁ e = let y = q.block in rw e (joined-sound sz d q.sound b f y.f_lt y.b_lt y.sole y.some)

  pub rewritable : Lent sz flash codes marks → length wear ≡ sz.N → (d₁ : Directory) (bspace₁ : List ℕ) → d₁ ≡ joined sz d b f
      → length bspace₁ ≡ length bspace → Rewritable sz (valid_at d₁ f) mend b f flash codes marks wear bspace₁
  unfolding merges_page block_reads
  rewritable lent long d₁ bspace₁ e l = let s = joined-is_sound d₁ e in record {
    erasable = record { lent = lent; b_lt = q.block.b_lt; wear-length = long; unworn = q.unworn };
    valid-lt = valid-low sz d₁ s f q.block.f_lt;
    f_lt = q.block.f_lt;
    bspace-length = l ∙ q.bspace-length;
    faultless = rw e q.faultless;
    mend-is = rw e q.mend-is;
  }

  module _ (d₁ : Directory) (bspace₁ : List ℕ) (j : Joined sz d b f pspace bspace d₁ bspace₁) (ops : ℕ) (r : Rewrote)
      (flash' codes' marks' wear' bspace' : List ℕ)
      (w : Rewritten sz (valid_at d₁ f) b f ops flash codes marks wear bspace₁ r flash' codes' marks' wear' bspace') where
    set_is : valid_at (joined sz d b f) f ≡ valid_at d₁ f
    set_is = sym (ap (λ (x : Directory). valid_at x f) j.directory)

    abbrev before : Memory Cell Page
    before = memory sz flash codes marks pspace bspace

    -- what is merged is the same where the join's b-space stands beside p-space
    joined-memory : (o : ℕ) → merged (chip_for sz) (zero_page sz) sz (joined sz d b f) (chip_memory sz flash codes marks bspace₁) b f o
        ≡ merged (chip_for sz) (zero_page sz) sz (joined sz d b f) (joined_pages (zero_page sz) sz d before b f) b f o
    unfolding merged flash_page joined_pages filled spaces
    joined-memory o = ap (λ (l : List Page). merged (chip_for sz) (zero_page sz) sz (joined sz d b f)
        (record { flash = cells sz flash codes marks; pspace = slot_pages sz pspace; bspace = l }) b f o) j.pages

    flash-is : cells sz flash' codes' marks' ≡ (cut_rewrite (chip_for sz) (zero_page sz) sz ops d wear before b f).flash
    unfolding cut_rewrite
    flash-is = w.cells_are (joined sz d b f) set_is ∙ programmed-ext (chip_for sz) (zero_page sz) ops sz q.sound.limits
        (cells sz flash codes marks) b _ _ (λ o l. joined-memory o)

    worn-is : wear' ≡ (cut_rewrite (chip_for sz) (zero_page sz) sz ops d wear before b f).wear
    unfolding cut_rewrite
    worn-is = w.wear-is ∙ ap (λ (x : List ℕ). cond (ltb 0 ops) x wear) (sym (worn_by-is sz q.sound.limits wear b q.block.b_lt))

    pages-are : suc sz.K ≤ ops → memory sz flash' codes' marks' pspace bspace'
        ≡ stepped_pages (chip_for sz) (zero_page sz) sz d before (due b f)
    unfolding stepped_pages rewritten_pages joined_pages merged flash_page filled spaces
    pages-are l =
        let pages : List Page → Memory Cell Page = λ x. rewritten_pages (chip_for sz) (zero_page sz) sz (joined sz d b f)
        (record { flash = cells sz flash codes marks; pspace = slot_pages sz pspace; bspace = x }) b f in
        ap (λ (m : Memory Cell Page). record { flash = m.flash; pspace = slot_pages sz pspace; bspace = m.bspace })
        (rewritten-whole q.sound.limits l w (joined sz d b f) set_is) ∙ ap pages j.pages

    pub cleaned : BlockCleaned sz d flash codes marks wear pspace bspace b f ops (vacated d₁ f) r flash' codes' marks' wear' bspace'
    unfolding stepped
    cleaned = record {
      directory-is = ap (λ (x : Directory). vacated x f) j.directory;
      reads_are = w.reads_are (joined sz d b f) set_is;
      left_is = w.left_is;
      chip-is = λ i. record { flash = flash-is i; wear = worn-is i };
      pages-are = pages-are;
    }

-- ---- the directory alone

-- the slots of the block are vacant, and so is the frame
pub forgotten : (sz : Sizes) (d : Directory) (b f : ℕ) → vacated (record d { slots = vacated_slots sz d b }) f ≡ stepped sz d (due b f)
unfolding stepped vacated joined vacated_slots offsets_of
forgotten sz d b f =
    let frames = sym (set-set d.frames f b vacant) in
    let valid = sym (set-set d.valid f (offsets_of sz d b (valid_at d f)) 0) in
    let uses = sym (set-set d.uses f (cond (ltb 0 (uses_at d f)) (uses_at d f) 1) 0) in
    λ i. record { slots = vacated_slots sz d b; frames = frames i; valid = valid i; recency = d.recency; uses = uses i }
