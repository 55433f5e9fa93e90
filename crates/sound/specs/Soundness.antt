-- What the parts of the soundness test find.
use Rattle.std.specs.Prelude.{◌≡◌, Bool, true, ◌&&◌, List, ℕ, ◌+◌, ◌*◌, ◌<◌}
use Rattle.prelude.specs.Bits.{bit}
use Rattle.prelude.specs.Scan.{all}
use Rattle.model.specs.Sizes.{Sizes, InLimits}
use Rattle.model.specs.Directory.{Directory, frame_at, valid_at}
use Rattle.model.specs.Soundness.{slot_ok, slots_differ, cached_once, frame_ok}
use Rattle.filter.specs.Filter.{in_filter}

-- slot j is as it should be, beside the slots before it and the frames
unfoldable pub slot_good : Sizes → Directory → ℕ → Bool
slot_good sz d j = slot_ok sz d j && (all j (λ i. slots_differ sz d i j) && all sz.B (cached_once sz d j))

-- the filter has the valid pages of the first b frames
abbrev pub Laid : Sizes → Directory → ℕ → List ℕ → Type 0
Laid sz d b seen = (f o : ℕ) → f < b → o < 64 → frame_at d f < 4096 → bit (valid_at d f) o ≡ true
    → in_filter seen (frame_at d f * sz.K + o) ≡ true

-- the slots may be tested: the filter has the frames' valid pages
pub record Ready (sz : Sizes) (d : Directory) (seen : List ℕ) : Type 0 where
  pub limits : InLimits sz
  pub laid : Laid sz d sz.B seen

-- the frames are tested, with r as the answer, and the slots may be where it is yes
pub record FramesTested (sz : Sizes) (d : Directory) (seen : List ℕ) (r : Bool) : Type 0 where
  pub answer : r ≡ all sz.B (frame_ok sz d)
  pub ready : r ≡ true → Ready sz d seen
