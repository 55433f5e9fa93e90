-- What holds of a plan's victim and frame, and what the entering of a page asks and leaves, after a join or an exchange has made room.
use Rattle.std.specs.Prelude.{◌≡◌, Bool, true, List, ℕ, ◌*◌, ◌<◌, length, set}
use Rattle.model.specs.Sizes.{Sizes, vacant}
use Rattle.model.specs.Directory.{Directory, frame_at}
use Rattle.model.specs.Soundness.{Sound}
use Rattle.model.specs.Policy.{in_slots, slot_of, slot_count}
use Rattle.model.specs.Moves.{touched, entered}
use Rattle.model.specs.Calls.{Page, slot_pages}

-- ---- the victim v and the frame f that takes its pages

-- ways 4 and 5: v has pages in slots, and no frame but f is v's
pub record Joining (sz : Sizes) (d : Directory) (v f : ℕ) : Type 0 where
  pub victim-lt : v < sz.N
  pub victim-pos : 0 < slot_count sz d v
  pub frame-lt : f < sz.B
  pub sole : (g : ℕ) → g < sz.B → (g ≡ f → ⊥) → frame_at d g ≡ v → ⊥

-- ways 6 and 7: v has no frame, and f holds a block
pub record Changing (sz : Sizes) (d : Directory) (v f : ℕ) : Type 0 where
  pub victim-lt : v < sz.N
  pub victim-out : (g : ℕ) → g < sz.B → frame_at d g ≡ v → ⊥
  pub frame-lt : f < sz.B
  pub block-lt : frame_at d f < sz.N

-- ---- entering

-- after the victim's pages have gone into frame f; t says whether that filled it

pub record Enters (sz : Sizes) (d : Directory) (f : ℕ) (pspace : List ℕ) (page : Page) : Type 0 where
  pub sound : Sound sz d
  pub frame-lt : f < sz.B
  pub room : in_slots sz d vacant ≡ true
  pub pspace-length : length pspace ≡ sz.P * sz.S
  pub page-length : length page ≡ sz.S

pub record Entered (sz : Sizes) (t : Bool) (d : Directory) (f : ℕ) (pspace : List ℕ) (n : ℕ) (page : Page) (d' : Directory)
    (pspace' : List ℕ) : Type 0 where
  pub directory-is : d' ≡ entered sz (touched sz t d f) n
  pub pages-are : slot_pages sz pspace' ≡ set (slot_pages sz pspace) (slot_of sz d vacant) page
