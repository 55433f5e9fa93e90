-- The tests of lengths.
use mathlib.Core.Path.{◌≡◌}
use mathlib.Core.Bool.{Bool, true, false, cond, and-true}
use mathlib.Core.List.{List}
use Prim.Native.Nat.{ℕ, ◌*◌, ◌≤◌}
use native.Mathlib.Omega.{arith}
use native.Mathlib.Nat.{mul-le-mul}
use lib.Dec.{eqb}
use lib.ListN.{length}
use Rattle.prelude.specs.Tests.{every}
use Rattle.model.specs.Sizes.{Sizes, InLimits, is_coded, is_marked}
use Rattle.model.specs.Formats.{page_code, code_for, store_format, code_long, mark_long}
use Rattle.model.specs.Calls.{lent_ok}
use Rattle.answer.specs.Carried.{buffers}
use Rattle.lent.specs.Lengths.{lengths_ok}

-- the test of the lengths is the model's
pub lengths-lent : (sz : Sizes) (flash codes marks wear pspace bspace : List ℕ)
    → lengths_ok sz (length flash) (length codes) (length marks) (length wear) (length pspace) (length bspace)
    ≡ lent_ok store_format sz (buffers flash codes marks wear pspace bspace)
unfolding lengths_ok lent_ok every
lengths-lent sz flash codes marks wear pspace bspace = rw (and-true (eqb (length bspace) (sz.B * sz.K * sz.S)))

-- codes and marks are short
code-short : (coded : Bool) (sz : Sizes) → InLimits sz → (code_for coded).long sz ≤ 24
unfolding page_code
code-short true sz l = let s = l.S_high in omega arith
code-short false sz l = omega arith

mark-short : (marked : Bool) → ◌≤◌ (cond marked 1 0) 1
mark-short true = omega arith
mark-short false = omega arith

module _ (sz : Sizes) (l : InLimits sz) where
  pub codes-small : sz.N * sz.K * code_long sz ≤ 6291456
  codes-small = let a : sz.N * sz.K ≤ 4096 * 64 = mul-le-mul l.N_high l.K_high in
      let b : sz.N * sz.K * code_long sz ≤ 4096 * 64 * 24 = mul-le-mul a (code-short (is_coded sz) sz l) in omega arith

  pub marks-small : sz.N * sz.K * mark_long sz ≤ 262144
  marks-small = let a : sz.N * sz.K ≤ 4096 * 64 = mul-le-mul l.N_high l.K_high in
      let b : sz.N * sz.K * mark_long sz ≤ 4096 * 64 * 1 = mul-le-mul a (mark-short (is_marked sz)) in omega arith
