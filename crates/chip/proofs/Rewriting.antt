-- Merge reads, erasure and programming together are the model's rewrite, cut off after any number of operations.
use mathlib.Core.Path.{◌≡◌, sym, ap, ◌∙◌}
use mathlib.Core.List.{List, []}
use Prim.Native.Nat.{ℕ, suc, ◌+◌, ◌*◌, ◌/◌, ◌%◌, ◌^◌, ◌≤◌, ◌<◌}
use native.Mathlib.Nat.{mul-le-mul}
use native.Mathlib.Omega.{arith}
use lib.Dec.{eqb}
use lib.ListN.{length, get_or}
use Rattle.prelude.specs.Bits.{bit}
use Rattle.prelude.specs.Pages.{page_at, put_page}
use Rattle.prelude.proofs.Tests.{by-test}
use Rattle.prelude.proofs.Tab.{get_d_tab, tab-ext}
use Rattle.prelude.proofs.Pages.{length-page_at, page-at, page-put_same, block-fits, block-page, block-put}
use Rattle.model.specs.Sizes.{Sizes, InLimits}
use Rattle.model.specs.Directory.{Directory, valid_at}
use Rattle.model.specs.Moves.{Chip, flash_page, programmed_to, merged, rewritten_pages}
use Rattle.model.specs.Calls.{Page, Cell, zero_page, frame_pages}
use Rattle.model.proofs.Soundness.{K_pos}
use Rattle.model.proofs.Lookup.{page-lt, offset_lt}
use Rattle.model.proofs.Parts.{programmed_to-all}
use Rattle.page.specs.Page.{HasPage}
use Rattle.page.proofs.Part.{part, put_part, got, put}
use Rattle.chip.specs.declared.Rewrote.{Rewrote}
use Rattle.model.specs.Formats.{chip_for}
use Rattle.chip.specs.Formats.{cells}
use Rattle.chip.specs.Chip.{stretch_pages, merged_page, merged_pages, chip_memory, Settled, Rewritable, Rewritten}
use Rattle.chip.proofs.Cells.{page-is}
use Rattle.chip.proofs.Looking.{no-fault}

-- what is programmed counts only below K
pub programmed-ext : {C A : Type 0} (chip : Chip C A) (filler : A) (ops : ℕ) (sz : Sizes) → InLimits sz
    → (fl : List C) (b : ℕ) (pg pg' : ℕ → A) → ((o : ℕ) → o < sz.K → pg o ≡ pg' o)
    → programmed_to chip filler ops sz fl b pg ≡ programmed_to chip filler ops sz fl b pg'
unfolding programmed_to
programmed-ext chip filler ops sz limits fl b pg pg' h = tab-ext (chip.cell filler) (sz.N * sz.K) _ _
    (λ n l. rw (h (n % sz.K) (offset_lt sz limits n)))

module _ {sz : Sizes} {v w b f : ℕ} {flash codes marks wear bspace : List ℕ} (h : Rewritable sz v w b f flash codes marks wear bspace) where
  pub in_bspace : HasPage (sz.K * sz.S) bspace f
  in_bspace = block-fits sz.S sz.K sz.B bspace h.bspace-length f h.f_lt

  pub settled : Settled sz flash codes b v w
  settled = record {
    mend-is = h.mend-is;
    readable = no-fault sz flash codes marks b v h.erasable.lent.codes-lent.limits
        h.erasable.b_lt h.faultless;
  }

  pub bspace-small : length bspace < 2 ^ 64
  bspace-small = let e = h.bspace-length in let limits = h.erasable.lent.codes-lent.limits in
      let m : sz.B * sz.K ≤ 8 * 64 = mul-le-mul limits.B_high limits.K_high in
      let k : sz.B * sz.K * sz.S ≤ 8 * 64 * 2048 = mul-le-mul m limits.S_high in omega arith

  -- the part of b-space that is lent, and what comes back in it
  module _ (size : ℕ) (size_is : size ≡ sz.K * sz.S) where
    part-is : (l : List ℕ) → part size l f ≡ page_at (sz.K * sz.S) l f
    part-is l = got size l f ∙ ap (λ (n : ℕ). page_at n l f) size_is

    put_is : (stretch : List ℕ) → put_part size bspace f stretch ≡ put_page (sz.K * sz.S) bspace f stretch
    put_is stretch = put size bspace f stretch ∙ ap (λ (n : ℕ). put_page n bspace f stretch) size_is

    module _ (stretch : List ℕ) (kept : length stretch ≡ length (part size bspace f)) where
      long : length stretch ≡ sz.K * sz.S
      long = kept ∙ ap length (part-is bspace) ∙ length-page_at (sz.K * sz.S) bspace f in_bspace

      back : part size (put_part size bspace f stretch) f ≡ stretch
      back = part-is _ ∙ rw (put_is stretch) (page-put_same (sz.K * sz.S) bspace f stretch in_bspace long)

-- d is any directory whose frame f has the valid set v
module _ (sz : Sizes) (v w b f : ℕ) (flash codes marks wear bspace : List ℕ) (h : Rewritable sz v w b f flash codes marks wear bspace)
    (d : Directory) (valid-is : valid_at d f ≡ v) where
  abbrev page : ℕ → Page
  page = merged (chip_for sz) (zero_page sz) sz d (chip_memory sz flash codes marks bspace) b f

  -- a page that the merge reads leave in the frame's stretch
  merged-page : (o : ℕ) → o < sz.K → merged_page sz flash codes b (page_at (sz.K * sz.S) bspace f) v o ≡ page o
  unfolding merged_page merged flash_page
  merged-page o l = by-test (bit v o)
      (λ e. rw (valid-is, e) (sym (page-at sz.S sz.K _ (zero_page sz) o l)
      ∙ block-page sz.S sz.K sz.B bspace h.bspace-length (zero_page sz) f o h.f_lt l))
      (λ e. rw (valid-is, e) (sym (page-is sz flash codes marks (b * sz.K + o)
      (page-lt sz h.erasable.lent.codes-lent.limits b o h.erasable.b_lt l))))

  -- the stretch after the merge reads
  module _ (size : ℕ) (size_is : size ≡ sz.K * sz.S) (stretch : List ℕ) (kept : length stretch ≡ length (part size bspace f))
      (reads : stretch_pages sz stretch ≡ merged_pages sz flash codes b (part size bspace f) v) where
    stretch-page : (o : ℕ) → o < sz.K → page_at sz.S stretch o ≡ page o
    stretch-page o l = sym (page-at sz.S sz.K stretch (zero_page sz) o l) ∙ ap (λ (x : List Page). get_or x o (zero_page sz)) reads
        ∙ get_d_tab sz.K _ (zero_page sz) o l ∙ rw (part-is h size size_is bspace) (merged-page o l)

    -- it is put back
    pub frames-are : frame_pages sz (put_part size bspace f stretch)
        ≡ (rewritten_pages (chip_for sz) (zero_page sz) sz d (chip_memory sz flash codes marks bspace) b f).bspace
    unfolding rewritten_pages
    frames-are = ap (frame_pages sz) (put_is h size size_is stretch)
        ∙ block-put sz.S sz.K sz.B bspace h.bspace-length (zero_page sz) f stretch
        (K_pos sz h.erasable.lent.codes-lent.limits) h.f_lt (long h size size_is stretch kept)
        ∙ tab-ext (zero_page sz) (sz.B * sz.K) _ _ (λ k l. let ol = offset_lt sz h.erasable.lent.codes-lent.limits k in
        by-test (eqb (k / sz.K) f)
        (λ e. rw e (page-at sz.S sz.K stretch (zero_page sz) (k % sz.K) ol ∙ stretch-page (k % sz.K) ol))
        (λ e. rw e))

    -- and programmed
    pub cells_are : (ops : ℕ) (cs : List Cell) → cs ≡ programmed_to (chip_for sz) (zero_page sz) ops sz (cells sz flash codes marks) b
        (page_at sz.S (part size (put_part size bspace f stretch) f))
        → cs ≡ programmed_to (chip_for sz) (zero_page sz) ops sz (cells sz flash codes marks) b page
    cells_are ops cs e =
        e ∙ programmed-ext (chip_for sz) (zero_page sz) ops sz h.erasable.lent.codes-lent.limits (cells sz flash codes marks) b _ _
        (λ o l. ap (λ (x : List ℕ). page_at sz.S x o) (back h size size_is stretch kept) ∙ stretch-page o l)

-- for callers: a rewrite that is not cut off leaves the model's memory
pub rewritten-whole : {sz : Sizes} {v b f ops : ℕ} {flash codes marks wear bspace : List ℕ} {r : Rewrote}
    {flash' codes' marks' wear' bspace' : List ℕ}
    → InLimits sz → suc sz.K ≤ ops → Rewritten sz v b f ops flash codes marks wear bspace r flash' codes' marks' wear' bspace'
    → (d : Directory) → valid_at d f ≡ v
    → chip_memory sz flash' codes' marks' bspace'
    ≡ rewritten_pages (chip_for sz) (zero_page sz) sz d (chip_memory sz flash codes marks bspace)
    b f
unfolding rewritten_pages
rewritten-whole {sz} {v} {b} {f} {ops} limits l h d e =
    let p = h.cells_are d e ∙ programmed_to-all (chip_for sz) (zero_page sz) sz limits _ b _ ops l in
    let q = h.frames-are d e in
    λ i. record { flash = p i; pspace = []; bspace = q i }
