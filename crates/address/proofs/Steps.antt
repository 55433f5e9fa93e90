-- A block from its first page to its last, and the blocks beside it.
use mathlib.Core.Path.{◌≡◌, ap, ◌∙◌}
use Prim.Native.Nat.{ℕ, ◌+◌, ◌-◌, ◌*◌, ◌/◌, ◌≤◌, ◌<◌}
use native.Mathlib.Omega.{arith}
use lib.Arith.{digits_div}

-- a page from block b's first page to its last lies in block b
pub in_range : (k b n : ℕ) → b * k ≤ n → n < b * k + k → n / k ≡ b
in_range k b n low high = let e : n ≡ b * k + (n - b * k) = omega arith in let o : n - b * k < k = omega arith in ap (λ (x : ℕ). x / k) e
    ∙ digits_div b o
