-- An erased page: all bytes and all code bytes are 255, and the codes are the page's.
use mathlib.Core.Path.{◌≡◌, refl, sym, ap, ◌∙◌}
use mathlib.Core.Bool.{Bool, true, not, ◌&&◌}
use mathlib.Core.List.{List}
use Prim.Native.Nat.{ℕ, zero, suc, ◌+◌, ◌*◌, ◌/◌, ◌%◌, ◌^◌, ◌<◌}
use native.Mathlib.Nat.{mod-lt, zero-lt-suc}
use native.Mathlib.Omega.{arith}
use lib.Dec.{ltb}
use lib.ListN.{get_or, replicate, drop, length-replicate, get_or-replicate}
use lib.Seq.{ext_get_or, get_or-take, get_or-drop}
use borrow.Author.Tests.{ltb-true, ltb-false}
use Rattle.prelude.specs.Scan.{all, count}
use Rattle.prelude.specs.Bits.{first_bits}
use Rattle.prelude.specs.Pages.{page_at}
use Rattle.prelude.proofs.Tests.{by-test}
use Rattle.prelude.proofs.Tab.{length-tab, get_d_tab}
use Rattle.prelude.proofs.Scan.{all-at}
use Rattle.prelude.proofs.Bits.{bits-ext, bit-first, first-lt}
use Rattle.codes.specs.Code.{odd, bit_at, code_bit, code_of, codes_of}
use Rattle.codes.proofs.Parity.{odd-same}
use Rattle.codes.proofs.CodeBits.{side, code_lt, bit-code, code-low, code-high}

unfoldable even : ℕ → Bool
even j = not (odd 2048 (side j))

-- as many addresses have a bit as not, and the number is even: computed
evens : all 22 even ≡ true
unfolding all even odd count
evens = refl

module _ (d : List ℕ) (full : (i : ℕ) → i < 256 → get_or d i 0 ≡ 255) where
  all_set : (a : ℕ) → a < 2048 → bit_at d a ≡ true
  unfolding bit_at first_bits
  all_set a l = rw (full (a / 8) (omega arith)) (bit-first 8 (a % 8) (mod-lt a (zero-lt-suc 7)))

  erased-bit : (j : ℕ) → code_bit d j ≡ true
  unfolding even
  erased-bit j = by-test (ltb j 22)
      (λ t. let l = ltb-true j 22 t in code-low d j l ∙ ap not (odd-same 2048 (λ a. bit_at d a && side j a) (side j)
      (λ a al. rw (all_set a al))) ∙ all-at 22 even evens j l)
      (λ t. code-high d j (ltb-false j 22 t))

  pub erased-code : code_of d ≡ 16777215
  unfolding first_bits
  erased-code = bits-ext 24 (code_of d) (first_bits 24) (code_lt d) (first-lt 24)
      (λ j l. bit-code d j l ∙ erased-bit j ∙ sym (bit-first 24 j l))

byte_of : (k : ℕ) → k < 3 → 16777215 / 256 ^ k % 256 ≡ 255
byte_of zero l = refl
byte_of (suc zero) l = refl
byte_of (suc (suc zero)) l = refl
byte_of (suc (suc (suc k))) l = absurd (omega arith)

-- an erased page with erased codes matches, so it is read as it is
pub erased-codes : (m : ℕ) → codes_of m (replicate (m * 256) 255) ≡ replicate (m * 3) 255
unfolding codes_of page_at
erased-codes m = ext_get_or 0 _ (replicate (m * 3) 255) (length-tab (m * 3) _ ∙ sym (length-replicate (m * 3) 255))
    (λ k kl. let l : k < m * 3 = (rw length-tab at kl) in
    get_d_tab (m * 3) (λ k. code_of (page_at 256 (replicate (m * 256) 255) (k / 3)) / 256 ^ (k % 3) % 256) 0 k l
    ∙ ap (λ (x : ℕ). x / 256 ^ (k % 3) % 256) (erased-code (page_at 256 (replicate (m * 256) 255) (k / 3)) (λ i il.
    get_or-take 256 (drop (k / 3 * 256) (replicate (m * 256) 255)) i 0 il ∙ get_or-drop (k / 3 * 256) (replicate (m * 256) 255) i 0
    ∙ get_or-replicate (m * 256) (k / 3 * 256 + i) 255 0 (let w : k / 3 < m = omega arith in omega arith)))
    ∙ byte_of (k % 3) (mod-lt k (zero-lt-suc 2)) ∙ sym (get_or-replicate (m * 3) k 255 0 l))
