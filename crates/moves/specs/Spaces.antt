-- P-space and b-space as pages: what a move asks of the two, and what it leaves in them.
use Rattle.std.specs.Prelude.{◌≡◌, ℕ, ◌+◌, ◌*◌, ◌<◌, cond, List, [], length, slice_index_or}
use Rattle.prelude.specs.Scan.{tab}
use Rattle.prelude.specs.Pages.{pages_of}
use Rattle.model.specs.Sizes.{Sizes}
use Rattle.model.specs.Directory.{Directory}
use Rattle.model.specs.Soundness.{Sound}
use Rattle.model.specs.Policy.{slot_of, in_slots}
use Rattle.model.specs.Moves.{Memory, joined, filled}
use Rattle.model.specs.Calls.{Page, Cell, zero_page, slot_pages, frame_pages}

-- the two lent spaces without the flash, which no move between them touches
unfoldable pub spaces : Sizes → List ℕ → List ℕ → Memory Cell Page
spaces sz ps bs = record { flash = []; pspace = slot_pages sz ps; bspace = frame_pages sz bs }

-- one frame's own stretch of b-space
abbrev pub stretch_pages : Sizes → List ℕ → List Page
stretch_pages sz l = pages_of sz.S sz.K l

-- page o of a frame's stretch fr, once block b's pages in slots are in it
unfoldable pub filled_page : Sizes → Directory → List Page → List Page → ℕ → ℕ → Page
filled_page sz d ps fr b o = cond (in_slots sz d (b * sz.K + o)) (slice_index_or ps (slot_of sz d (b * sz.K + o)) (zero_page sz))
    (slice_index_or fr o (zero_page sz))

-- what a fill asks: p-space ps and one frame's stretch fr
pub record Fills (sz : Sizes) (d : Directory) (b : ℕ) (ps fr : List ℕ) : Type 0 where
  pub sound : Sound sz d
  pub block-lt : b < sz.N
  pub pspace-long : length ps ≡ sz.P * sz.S
  pub stretch-long : length fr ≡ sz.K * sz.S

-- what a frame f that took block b's pages leaves: the directory d' and the stretch fr'
pub record Took (sz : Sizes) (d : Directory) (b f : ℕ) (ps fr : List ℕ) (d' : Directory) (fr' : List ℕ) : Type 0 where
  pub directory : d' ≡ joined sz d b f
  pub stretch : stretch_pages sz fr' ≡ tab sz.K (filled_page sz d (slot_pages sz ps) (stretch_pages sz fr) b)

-- what a join asks: block b, frame f, p-space ps and b-space bs
pub record Joins (sz : Sizes) (d : Directory) (b f : ℕ) (ps bs : List ℕ) : Type 0 where
  pub sound : Sound sz d
  pub block-lt : b < sz.N
  pub frame-lt : f < sz.B
  pub pspace-long : length ps ≡ sz.P * sz.S
  pub bspace-long : length bs ≡ sz.B * sz.K * sz.S

-- what it leaves: the directory d' and b-space bs'
pub record Joined (sz : Sizes) (d : Directory) (b f : ℕ) (ps bs : List ℕ) (d' : Directory) (bs' : List ℕ) : Type 0 where
  pub directory : d' ≡ joined sz d b f
  pub pages : frame_pages sz bs' ≡ filled (zero_page sz) sz d (spaces sz ps bs) b f
