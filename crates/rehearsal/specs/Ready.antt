-- What the functions of a rehearsal ask of settings, class and buffers.
use Rattle.std.specs.Prelude.{◌≡◌, ℕ, ◌*◌, ◌≤◌, ◌<◌, get_or}
use Rattle.model.specs.Sizes.{Sizes}
use Rattle.tally.specs.Count.{Within}
use Rattle.rehearsal.specs.declared.Setting.{Setting}
use Rattle.rehearsal.specs.declared.course.Class.{Class}
use Rattle.rehearsal.specs.Class.{rates_of}

-- the settings are in their ranges
pub record Ready (z : Setting) : Type 0 where
  pub b_low : 1 ≤ z.benches
  pub b_high : z.benches ≤ 16
  pub t_high : z.turns ≤ 1024
  pub p_low : 1 ≤ (rates_of z).pages
  pub p_high : (rates_of z).pages ≤ 262144

-- after n turns: last pages are pages, and no tally is above the number of turns
pub record Seated (z : Setting) (c : Class) (n : ℕ) : Type 0 where
  pub lasts : (j : ℕ) → get_or c.last j 0 < (rates_of z).pages
  pub within : Within c.tallies n

-- the sizes are small enough for the memory
pub record Roomy (sz : Sizes) : Type 0 where
  pub S_high : sz.S ≤ 2048
  pub K_high : sz.K ≤ 64
  pub N_high : sz.N ≤ 4096
  pub P_high : sz.P ≤ 128
  pub B_high : sz.B ≤ 8
  pub flash-high : sz.N * sz.K * sz.S ≤ 32768
  pub pspace-high : sz.P * sz.S ≤ 32768
  pub bspace-high : sz.B * sz.K * sz.S ≤ 32768

-- the lengths of the store's buffers and of the page buffer
pub record Lengths (sz : Sizes) (flash wear pspace bspace page : ℕ) : Type 0 where
  pub flash-is : flash ≡ sz.N * sz.K * sz.S
  pub wear-is : wear ≡ sz.N
  pub pspace-is : pspace ≡ sz.P * sz.S
  pub bspace-is : bspace ≡ sz.B * sz.K * sz.S
  pub page-is : page ≡ sz.S
