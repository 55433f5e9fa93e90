-- A form as it is written, and which forms a line may say.
use Rattle.std.specs.Prelude.{◌≡◌, false, not, ◌&&◌, List, [], ◌∷◌, map, ℕ, ◌<◌, ◌^◌}
use Rattle.model.specs.Sizes.{Sizes, sizes_ok, plain_sizes}
use Rattle.print.specs.Text.{decimal, form}
use Rattle.script.specs.Forms.{Form, opens, writes, reads, steps, flushes, wears, bad, five, buffers_fit}

-- the numbers of an opening
abbrev pub numbers_of : Sizes → List ℕ
numbers_of sz = sz.S ∷ sz.K ∷ sz.N ∷ sz.P ∷ sz.B ∷ sz.W ∷ []

abbrev pub written : Form → List ℕ
written (opens sz) = form "open" (map decimal (numbers_of sz))
written (writes n b) = form "write" (decimal n ∷ decimal b ∷ [])
written (reads n) = form "read" (decimal n ∷ [])
written steps = form "step" []
written flushes = form "flush" []
written wears = form "wear" []
written bad = []

-- the six numbers of an opening have 32 bits, it has no option, and it does not need more than a buffer has
pub record Opening (sz : Sizes) : Type 0 where
  pub S_fits : sz.S < 2 ^ 32
  pub K_fits : sz.K < 2 ^ 32
  pub N_fits : sz.N < 2 ^ 32
  pub P_fits : sz.P < 2 ^ 32
  pub B_fits : sz.B < 2 ^ 32
  pub W_fits : sz.W < 2 ^ 32
  pub plain : sz ≡ plain_sizes sz.S sz.K sz.N sz.P sz.B sz.W
  pub room : (sizes_ok (five sz) && not (buffers_fit sz)) ≡ false

-- a form that a line may say
abbrev pub Sayable : Form → Type 0
Sayable (opens sz) = Opening sz
Sayable (writes n b) = (n < 2 ^ 32) × (b < 2 ^ 8)
Sayable (reads n) = n < 2 ^ 32
Sayable steps = Unit {0}
Sayable flushes = Unit {0}
Sayable wears = Unit {0}
Sayable bad = ⊥
