-- A whole record that is sound has what each search asks.
use mathlib.Core.Path.{◌≡◌}
use mathlib.Core.List.{List}
use Prim.Native.Nat.{ℕ, ◌<◌}
use lib.ListN.{get_or, length}
use Rattle.model.specs.Sizes.{Sizes}
use Rattle.model.specs.Directory.{Directory}
use Rattle.model.specs.Soundness.{Sound}
use Rattle.model.specs.Policy.{valid_count}
use Rattle.policy.specs.Views.{SlotsOf, ValidOf, DueOf, UsesValid, UsesOccupied, WithWear, CachedWorn}

module _ (sz : Sizes) (d : Directory) where
  pub slots_of : Sound sz d → SlotsOf sz d.slots
  slots_of s = record { frames = d.frames; valid = d.valid; recency = d.recency; uses = d.uses; sound = s }

  pub valid_of : Sound sz d → ValidOf sz d.valid
  valid_of s = record { slots = d.slots; frames = d.frames; recency = d.recency; uses = d.uses; sound = s }

  pub all_due : Sound sz d → DueOf sz d.slots d.frames d.recency d.uses
  all_due s = record { valid = d.valid; sound = s }

  pub cached_worn : (w : List ℕ) → WithWear sz d w → CachedWorn sz d.slots d.frames w
  cached_worn w s = record { valid = d.valid; recency = d.recency; uses = d.uses; with-wear = s }

  pub uses_valid : (f n : ℕ) → Sound sz d → f < sz.B → valid_count sz d f ≡ n → UsesValid sz d.valid d.recency d.uses n
  uses_valid f n s l e = record { slots = d.slots; frames = d.frames; sound = s; frame = f; frame-lt = l; frame_has = e }

  pub uses_occupied : (w : List ℕ) → Sound sz d → length w ≡ sz.N → ((g : ℕ) → g < sz.B → get_or d.frames g 0 < sz.N)
      → UsesOccupied sz d.frames d.recency d.uses w
  uses_occupied w s e h = record { slots = d.slots; valid = d.valid; sound = s; wear-length = e; block-lt = h }

-- for those who search in a sound record
pub ruleset asks = (slots_of, all_due)
