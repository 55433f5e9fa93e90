-- The theorem on a chunk for each bit that can flip.
use mathlib.Core.Path.{◌≡◌, refl, sym, ap, ap₂, ◌∙◌}
use mathlib.Core.Bool.{Bool, true, xor}
use mathlib.Core.List.{List}
use Prim.Native.Nat.{ℕ, ◌+◌, ◌/◌, ◌^◌, ◌<◌}
use native.Mathlib.Omega.{arith}
use lib.Dec.{eqb}
use lib.Pow.{pow-lt}
use lib.Bits.{bit_xor, xor_lt}
use lib.ListN.{length}
use borrow.Author.Tests.{eqb-true, eq-eqb}
use Rattle.prelude.specs.Scan.{count}
use Rattle.prelude.specs.Bits.{bit}
use Rattle.prelude.proofs.Tests.{by-test, clash}
use Rattle.prelude.proofs.Scan.{count_same, count_none, count-one, count_past}
use Rattle.prelude.proofs.Bits.{bit-one, bit-one_other}
use Rattle.codes.specs.Code.{bit_at, code_of}
use Rattle.codes.specs.Reading.{flipped, flips, Bytes, ReadAs}
use Rattle.codes.proofs.Parity.{xor_self, xor-back, bit-xor}
use Rattle.codes.proofs.CodeBits.{bit-flipped, length-flipped, bytes-flipped, code_lt}
use Rattle.codes.proofs.Chunks.{chunk_read}

count-eqb : (n a : ℕ) → a < n → count n (λ j. eqb j a) ≡ 1
count-eqb n a l = let h = count-one n (λ j. eqb j a) (λ i j il jl p q. eqb-true i a p ∙ sym (eqb-true j a q)) in
    let k = count_past a n (λ j. eqb j a) l (eq-eqb a a refl) in omega arith

count-self : (n : ℕ) (p : ℕ → Bool) → count n (λ j. xor (p j) (p j)) ≡ 0
count-self n p = count_none n (λ j. xor (p j) (p j)) (λ j l. xor_self (p j))

bit-power : (j i : ℕ) → bit (2 ^ j) i ≡ eqb i j
bit-power j i = by-test (eqb i j) (λ t. rw (t, eqb-true i j t) (bit-one j))
    (λ t. rw t (bit-one_other j i (λ e. clash (eq-eqb i j (sym e)) t)))

data_flips : (d : List ℕ) (a : ℕ) → a / 8 < length d → a < 2048 → flips d (code_of d) (flipped d a) (code_of d) ≡ 1
unfolding flips
data_flips d a w l = ap₂ (λ (x y : ℕ). x + y)
    (count_same 2048 (λ j. xor (bit_at d j) (bit_at (flipped d a) j)) (λ j. eqb j a)
    (λ j jl. ap (xor (bit_at d j)) (bit-flipped d a w j) ∙ xor-back (bit_at d j) (eqb j a)) ∙ count-eqb 2048 a l)
    (count-self 24 (bit (code_of d)))

code-flips : (d : List ℕ) (j : ℕ) → j < 24 → flips d (code_of d) d (bit_xor (code_of d) (2 ^ j)) ≡ 1
unfolding flips
code-flips d j l = ap₂ (λ (x y : ℕ). x + y) (count-self 2048 (bit_at d))
    (count_same 24 (λ i. xor (bit (code_of d) i) (bit (bit_xor (code_of d) (2 ^ j)) i)) (λ i. eqb i j)
    (λ i il. ap (xor (bit (code_of d) i)) (bit-xor (code_of d) (2 ^ j) i ∙ ap (xor (bit (code_of d) i)) (bit-power j i))
    ∙ xor-back (bit (code_of d) i) (eqb i j)) ∙ count-eqb 24 j l)

-- a chunk d of 256 bytes, with its code
module _ (d : List ℕ) (long : length d ≡ 256) (b : Bytes d) where
  -- a data bit has flipped: d, and one mend
  pub data-flip : (a : ℕ) → a < 2048 → ReadAs (flipped d a) (code_of d) d true
  data-flip a l = let w : a / 8 < length d = omega arith in let e = data_flips d a w l in
      rw e at (chunk_read d (flipped d a) (code_of d) long (length-flipped d a w ∙ long) b (bytes-flipped d a w b) (code_lt d)
      (rw e (omega arith)))

  -- a code bit has flipped: d, and one mend
  pub code-flip : (j : ℕ) → j < 24 → ReadAs d (bit_xor (code_of d) (2 ^ j)) d true
  code-flip j l = let e = code-flips d j l in
      rw e at (chunk_read d d (bit_xor (code_of d) (2 ^ j)) long long b b (xor_lt 24 (code_of d) (2 ^ j) (code_lt d) (pow-lt l))
      (rw e (omega arith)))
