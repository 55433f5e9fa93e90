-- What the rule of the table says of a byte's bits.
use mathlib.Core.Path.{◌≡◌, sym, ap, ap₂, ◌∙◌}
use mathlib.Core.Bool.{Bool, cond, ◌&&◌, xor}
use Prim.Native.Nat.{ℕ, zero, suc, ◌+◌, ◌*◌, ◌/◌, ◌%◌, ◌^◌, ◌<◌}
use native.Mathlib.Nat.{mod-lt, zero-lt-suc}
use native.Mathlib.Omega.{arith}
use lib.Bits.{xor_lt}
use lib.Dec.{eqb}
use lib.ListN.{get_or}
use borrow.Author.Tests.{eqb-true, eqb-false}
use Rattle.prelude.specs.Bits.{bit}
use Rattle.prelude.proofs.Tests.{by-test}
use Rattle.prelude.proofs.Tab.{get_d_tab}
use Rattle.prelude.proofs.Bits.{bit-zero}
use Rattle.codes.specs.Code.{odd}
use Rattle.codes.specs.Table.{positions, entry_of, entries}
use Rattle.ecc.specs.Words.{num}
use Rattle.codes.proofs.Parity.{odd-zero, odd-suc, bit-xor}
use Rattle.ecc.proofs.ByWords.{bit-low}

pub entry_at : (b : ℕ) → b < 256 → get_or entries b 0 ≡ entry_of b
unfolding entries
entry_at b l = get_d_tab 256 entry_of 0 b l

-- the parity of a byte's set bits at positions that have bit i
unfoldable pub byte_odd : ℕ → ℕ → Bool
byte_odd b i = odd 8 (λ q. bit b q && bit q i)

pub num-bit : (x i : ℕ) → x / 2 ^ i % 2 ≡ num (bit x i)
unfolding bit
num-bit x i = by-test (eqb (x / 2 ^ i % 2) 1)
    (λ t. rw t (eqb-true (x / 2 ^ i % 2) 1 t))
    (λ t. rw t (let h = eqb-false (x / 2 ^ i % 2) 1 t in let l = mod-lt (x / 2 ^ i) (zero-lt-suc 1) in omega arith))

positions-lt : (n b : ℕ) → n < 9 → positions n b < 2 ^ 3
unfolding positions
positions-lt zero b l = omega arith
positions-lt (suc n) b l = xor_lt 3 (positions n b) (cond (bit b n) n 0) (positions-lt n b (omega arith))
    (by-test (bit b n) (λ t. rw t (omega arith)) (λ t. rw t (omega arith)))

bit-positions : (n b i : ℕ) → bit (positions n b) i ≡ odd n (λ q. bit b q && bit q i)
unfolding positions
bit-positions zero b i = bit-zero i ∙ sym (odd-zero (λ q. bit b q && bit q i))
bit-positions (suc n) b i = bit-xor (positions n b) (cond (bit b n) n 0) i ∙ ap₂ xor (bit-positions n b i)
    (by-test (bit b n) (λ t. rw t) (λ t. rw t (bit-zero i))) ∙ sym (odd-suc n (λ q. bit b q && bit q i))

module _ (b : ℕ) where
  parts : entry_of b ≡ num (odd 8 (bit b)) * 2 ^ 3 + positions 8 b
  unfolding entry_of
  parts = by-test (odd 8 (bit b)) (λ t. rw t) (λ t. rw t)

  pub entry_high : entry_of b < 16
  entry_high = let p = positions-lt 8 b (omega arith) in let e = parts in by-test (odd 8 (bit b))
      (λ t. let q : num (odd 8 (bit b)) ≡ 1 = rw t in omega arith) (λ t. let q : num (odd 8 (bit b)) ≡ 0 = rw t in omega arith)

  pub entry-parity : entry_of b / 8 ≡ num (odd 8 (bit b))
  entry-parity = let p = positions-lt 8 b (omega arith) in let e = parts in omega arith

  pub entry-odd : (i : ℕ) → i < 3 → entry_of b / 2 ^ i % 2 ≡ num (byte_odd b i)
  unfolding byte_odd
  entry-odd i l = num-bit (entry_of b) i ∙ ap num (ap (λ (x : ℕ). bit x i) parts
      ∙ bit-low (num (odd 8 (bit b))) 3 (positions 8 b) i (positions-lt 8 b (omega arith)) l ∙ bit-positions 8 b i)
