-- The page buffer put over one page of p-space or of b-space.
use mathlib.Core.Path.{◌≡◌, ap, ◌∙◌}
use mathlib.Core.List.{List}
use Prim.Native.Nat.{ℕ, ◌+◌, ◌*◌, ◌%◌}
use native.Mathlib.Nat.{zero-mul}
use lib.Arith.{digits_lt}
use lib.ListN.{length, set}
use lib.Seq.{take-length}
use Rattle.prelude.specs.Pages.{page_at, put_page}
use Rattle.prelude.proofs.Pages.{pages-put}
use Rattle.model.specs.Sizes.{Sizes}
use Rattle.model.specs.Calls.{slot_pages, frame_pages}
use Rattle.model.proofs.Lookup.{offset_lt}
use Rattle.writes.specs.Writes.{OverSlot, OverFrame}

-- a page buffer is its own page 0
page-whole : (s : ℕ) (l : List ℕ) → length l ≡ s → page_at s l 0 ≡ l
unfolding page_at
page-whole s l e = rw (zero-mul s, ← e) (take-length l)

module _ (sz : Sizes) (i : ℕ) (pspace page : List ℕ) (q : OverSlot sz i pspace page) where
  pub slot_is : (pspace' : List ℕ) → pspace' ≡ put_page sz.S pspace i (page_at sz.S page 0)
      → slot_pages sz pspace' ≡ set (slot_pages sz pspace) i page
  slot_is pspace' e = ap (slot_pages sz) (e ∙ ap (put_page sz.S pspace i) (page-whole sz.S page q.page-length))
      ∙ pages-put sz.S sz.P pspace i page q.slot_lt q.pspace-length q.page-length

module _ (sz : Sizes) (f : ℕ) (bspace page : List ℕ) (q : OverFrame sz f bspace page) where
  pub frame_page_is : (n o : ℕ) (bspace' : List ℕ) → o ≡ n % sz.K
      → bspace' ≡ put_page sz.S bspace (f * sz.K + o) (page_at sz.S page 0)
      → frame_pages sz bspace' ≡ set (frame_pages sz bspace) (f * sz.K + n % sz.K) page
  frame_page_is n o bspace' eo e = ap (frame_pages sz) (e ∙ ap (put_page sz.S bspace (f * sz.K + o))
      (page-whole sz.S page q.page-length) ∙ ap (λ (x : ℕ). put_page sz.S bspace (f * sz.K + x) page) eo)
      ∙ pages-put sz.S (sz.B * sz.K) bspace (f * sz.K + n % sz.K) page (digits_lt q.frame-lt (offset_lt sz q.limits n))
      q.bspace-length q.page-length
