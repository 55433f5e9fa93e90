-- What every method of a chip keeps: its sizes, and which buffers it is lent; and those buffers as the model has them.
use Rattle.std.specs.Prelude.{◌≡◌, List, ℕ}
use Rattle.model.specs.Calls.{Buffers}
use Rattle.chip.specs.declared.lent.Chip.{Chip}

pub record IsSameLoan (old new : Chip) : Type 0 where
  pub sizes : new.sizes ≡ old.sizes
  pub flash : new.flash.ghost_name ≡ old.flash.ghost_name
  pub codes : new.codes.ghost_name ≡ old.codes.ghost_name
  pub marks : new.marks.ghost_name ≡ old.marks.ghost_name
  pub wear : new.wear.ghost_name ≡ old.wear.ghost_name

-- the chip beside p-space and b-space
abbrev pub buffers_of : Chip → List ℕ → List ℕ → Buffers
buffers_of chip pspace bspace = record {
  flash = chip.flash.now;
  codes = chip.codes.now;
  marks = chip.marks.now;
  wear = chip.wear.now;
  pspace = pspace;
  bspace = bspace;
}
