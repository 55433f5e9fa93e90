-- The program's memory, and what a line leaves in it.
use Rattle.std.specs.Prelude.{◌≡◌, true, false, List, ℕ, ◌*◌, ◌≤◌, length, take}
use Rattle.model.specs.Sizes.{Sizes, sizes_ok, is_coded, is_marked}
use Rattle.model.specs.Calls.{Fits}
use Rattle.model.specs.Formats.{store_format}
use Rattle.print.specs.Print.{wear_room}
use Rattle.script.specs.Forms.{Form, opens, writes, reads, steps, flushes, wears, bad, buffers_fit}
use Rattle.cache.specs.View.{sizes_of}
use Rattle.store.specs.View.{Lent, plain_lent}
use Rattle.perform.specs.declared.Lined.{Lined}
use Rattle.perform.specs.Effects.{Effect}
use Rattle.perform.specs.View.{Carries}
use Rattle.interpret.specs.declared.memory.Parts.{Parts}

-- ---- the store's own buffers stand at the front of the program's memory

-- the sizes are small enough for the memory, and there are no codes, no marks and no shelf; a blank record's are
pub record Held (sz : Sizes) : Type 0 where
  pub no-codes : is_coded sz ≡ false
  pub no-marks : is_marked sz ≡ false
  pub no-shelf : sz.shelf_pages ≡ 0
  pub S_high : sz.S ≤ 2048
  pub K_high : sz.K ≤ 64
  pub N_high : sz.N ≤ 4096
  pub B_high : sz.B ≤ 8
  pub flash-high : sz.N * sz.K * sz.S ≤ 32768
  pub pspace-high : sz.P * sz.S ≤ 32768
  pub bspace-high : sz.B * sz.K * sz.S ≤ 32768

-- the lengths of the buffers
pub record PartsOf (sz : Sizes) (p : Parts) : Type 0 where
  pub flash-is : p.flash ≡ sz.N * sz.K * sz.S
  pub wear-is : p.wear ≡ sz.N
  pub pspace-is : p.pspace ≡ sz.P * sz.S
  pub bspace-is : p.bspace ≡ sz.B * sz.K * sz.S
  pub page-is : p.page ≡ sz.S

-- the buffers in the memory
abbrev pub front : Sizes → List ℕ → List ℕ → List ℕ → List ℕ → Lent
front sz flash wear pspace bspace = plain_lent (take (sz.N * sz.K * sz.S) flash) (take sz.N wear) (take (sz.P * sz.S) pspace)
    (take (sz.B * sz.K * sz.S) bspace)

-- ---- what is asked, and what a line leaves

-- an opening asks for no codes, no marks and no shelf, and with sizes within limits it has buffers that fit: the form of every line is such
abbrev pub Sized : Form → Type 0
Sized (opens sz) = (is_coded sz ≡ false) × (is_marked sz ≡ false) × (sizes_ok sz ≡ true → buffers_fit sz ≡ true) × (sz.shelf_pages ≡ 0)
Sized (writes n b) = Unit {0}
Sized (reads n) = Unit {0}
Sized steps = Unit {0}
Sized flushes = Unit {0}
Sized wears = Unit {0}
Sized bad = Unit {0}

-- buffers and a page buffer in their sizes, no shelf pages, and room for the line
pub record InSizes (sz : Sizes) (u : Lent) (page out : List ℕ) : Type 0 where
  pub fits : Fits store_format sz u.below
  pub no-shelf : sz.shelf_pages ≡ 0
  pub page-length : length page ≡ sz.S
  pub wear-room : length u.below.wear ≤ 4096
  pub room : wear_room 4096 ≤ length out

-- the memory's lengths
pub record Memory (m : Lent) (page : List ℕ) : Type 0 where
  pub flash-length : length m.below.flash ≡ 32768
  pub wear-length : length m.below.wear ≡ 4096
  pub pspace-length : length m.below.pspace ≡ 32768
  pub bspace-length : length m.below.bspace ≡ 32768
  pub page-length : length page ≡ 2048

-- the memory, sizes that fit it, and room for the line
pub record Lendable (sz : Sizes) (f : Form) (flash wear pspace bspace page out : List ℕ) : Type 0 where
  pub memory : Memory (plain_lent flash wear pspace bspace) page
  pub room : wear_room 4096 ≤ length out
  pub held : Held sz
  pub sized : Sized f

-- a line was carried out: e is what it does to the store at the front of the memory
pub record CarriedOut (e : Effect) (r : Lined) (flash wear pspace bspace out : List ℕ) : Type 0 where
  pub carries : Carries e r (front (sizes_of r.cache.sizes) flash wear pspace bspace) out
  pub held : Held (sizes_of r.cache.sizes)
