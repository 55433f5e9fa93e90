-- The sizes that an opening of a script is judged by.
use mathlib.Core.Path.{refl}
use native.Mathlib.Omega.{arith}
use Rattle.prelude.proofs.Tests.{clash}
use Rattle.model.specs.Sizes.{Sizes, InLimits}
use Rattle.model.proofs.Plain.{uncoded}
use Rattle.script.specs.Forms.{five}

-- sizes within limits are within them with a wear limit of 1, too
pub five-in : (sz : Sizes) → InLimits sz → InLimits (five sz)
five-in sz l = record {
  S_low = l.S_low;
  S_high = l.S_high;
  K_low = l.K_low;
  K_high = l.K_high;
  N_low = l.N_low;
  N_high = l.N_high;
  P_low = l.P_low;
  P_high = l.P_high;
  B_low = l.B_low;
  B_high = l.B_high;
  W_low = omega arith;
  W_high = omega arith;
  policy-high = omega arith;
  coded-high = omega arith;
  shelf-high = omega arith;
  marked-high = omega arith;
  whole = λ e. clash e (uncoded (five sz) refl);
}
