-- The bits of a list of bytes, and of its code.
use mathlib.Core.Path.{◌≡◌, refl, sym, ap, ap₂, ◌∙◌}
use mathlib.Core.Bool.{Bool, true, false, not, ◌&&◌, xor}
use mathlib.Core.List.{List}
use Prim.Native.Nat.{ℕ, ◌+◌, ◌*◌, ◌/◌, ◌%◌, ◌^◌, ◌≤◌, ◌<◌}
use native.Mathlib.Nat.{mod-lt, zero-lt-suc}
use native.Mathlib.Omega.{arith}
use lib.Dec.{eqb}
use lib.Arith.{digits_div, digits_mod}
use lib.Pow.{pow-lt}
use lib.Bits.{bit_xor, xor_lt}
use lib.ListN.{length, get_or, length-set}
use lib.Seq.{get_or-set_same, get_or-set_other, ext_get_or}
use borrow.Author.Tests.{eqb-true, eqb-false, le-leb, lt-leb, eq-eqb, ne_eqb}
use Rattle.prelude.specs.Bits.{bit}
use Rattle.prelude.proofs.Tests.{by-test}
use Rattle.prelude.proofs.Bits.{mask_lt, bit_mask, bits-ext, bit-one, bit-one_other}
use Rattle.codes.specs.Code.{odd, bit_at, code_bit, code_of}
use Rattle.codes.specs.Reading.{flipped, Bytes}
use Rattle.codes.proofs.Parity.{xor-false, xor-back, and_xor, odd-same, odd-xor, odd-one, bit-xor}

-- ---- lists of bytes by their bits

pub bit-of : (l : List ℕ) (i j : ℕ) → j < 8 → bit_at l (i * 8 + j) ≡ bit (get_or l i 0) j
unfolding bit_at
bit-of l i j h = ap₂ (λ (x y : ℕ). bit (get_or l x 0) y) (digits_div i h) (digits_mod i h)

pub bytes-ext : (n : ℕ) (l k : List ℕ) → length l ≡ n → length k ≡ n → Bytes l → Bytes k → ((a : ℕ) → a < n * 8 → bit_at l a ≡ bit_at k a)
    → l ≡ k
bytes-ext n l k e f bl bk h = ext_get_or 0 l k (e ∙ sym f) (λ i il. bits-ext 8 (get_or l i 0) (get_or k i 0) (bl i) (bk i)
    (λ j jl. sym (bit-of l i j jl) ∙ h (i * 8 + j) (omega arith) ∙ bit-of k i j jl))

module _ (d : List ℕ) (a : ℕ) (inside : a / 8 < length d) where
  pub length-flipped : length (flipped d a) ≡ length d
  unfolding flipped
  length-flipped = length-set d (a / 8) _

  pub bit-flipped : (j : ℕ) → bit_at (flipped d a) j ≡ xor (bit_at d j) (eqb j a)
  unfolding flipped bit_at
  bit-flipped j = by-test (eqb (j / 8) (a / 8))
      (λ t. let e = eqb-true (j / 8) (a / 8) t in
      rw (
        e,
        get_or-set_same d (a / 8) (bit_xor (get_or d (a / 8) 0) (2 ^ (a % 8))) 0 inside,
        bit-xor (get_or d (a / 8) 0) (2 ^ (a % 8))
            (j % 8),
      )
      (ap (xor (bit (get_or d (a / 8) 0) (j % 8))) (by-test (eqb (a % 8) (j % 8))
      (λ u. let q = eqb-true (a % 8) (j % 8) u in rw (← q, eq-eqb j a (omega arith)) (bit-one (a % 8)))
      (λ u. let q = eqb-false (a % 8) (j % 8) u in rw (ne_eqb j a (λ z. q (ap (λ (x : ℕ). x % 8) (sym z))))
      (bit-one_other (a % 8) (j % 8) q)))))
      (λ t. let q = eqb-false (j / 8) (a / 8) t in
      rw (
        get_or-set_other d (a / 8) (j / 8) (bit_xor (get_or d (a / 8) 0) (2 ^ (a % 8))) 0 q,
        ne_eqb j a
            (λ z. q (ap (λ (x : ℕ). x / 8) z)),
      )
      (sym (xor-false _)))

  pub bytes-flipped : Bytes d → Bytes (flipped d a)
  unfolding flipped
  bytes-flipped h i = by-test (eqb i (a / 8))
      (λ t. rw (eqb-true i (a / 8) t, get_or-set_same d (a / 8) (bit_xor (get_or d (a / 8) 0) (2 ^ (a % 8))) 0 inside)
      (xor_lt 8 (get_or d (a / 8) 0) (2 ^ (a % 8)) (h (a / 8)) (pow-lt {i = a % 8} {j = 8} (mod-lt a (zero-lt-suc 7)))))
      (λ t. rw (get_or-set_other d (a / 8) i (bit_xor (get_or d (a / 8) 0) (2 ^ (a % 8))) 0 (eqb-false i (a / 8) t)) (h i))

-- ---- the code's bits

-- whether code bit j tells of address a
abbrev pub side : ℕ → ℕ → Bool
side j a = eqb (a / 2 ^ (j / 2) % 2) (j % 2)

pub code_lt : (d : List ℕ) → code_of d < 2 ^ 24
unfolding code_of
code_lt d = mask_lt 24 (code_bit d)

pub bit-code : (d : List ℕ) (j : ℕ) → j < 24 → bit (code_of d) j ≡ code_bit d j
unfolding code_of
bit-code d j l = bit_mask 24 (code_bit d) j l

pub code-low : (d : List ℕ) (j : ℕ) → j < 22 → code_bit d j ≡ not (odd 2048 (λ a. bit_at d a && side j a))
unfolding code_bit
code-low d j l = rw (lt-leb 22 j l)

pub code-high : (d : List ℕ) (j : ℕ) → 22 ≤ j → code_bit d j ≡ true
unfolding code_bit
code-high d j l = rw (le-leb 22 j l)

-- exactly one of a pair tells of an address
pub side-odd : (i a : ℕ) → side (i * 2 + 1) a ≡ bit a i
unfolding bit
side-odd i a = let e : (i * 2 + 1) / 2 ≡ i = omega arith in let f : (i * 2 + 1) % 2 ≡ 1 = omega arith in rw (e, f)

pub side-even : (i a : ℕ) → side (i * 2) a ≡ not (bit a i)
unfolding bit
side-even i a = let e : (i * 2) / 2 ≡ i = omega arith in let f : (i * 2) % 2 ≡ 0 = omega arith in rw (e, f) (by-test (eqb (a / 2 ^ i % 2) 1)
    (λ t. let h = eqb-true (a / 2 ^ i % 2) 1 t in rw (h))
    (λ t. let h = eqb-false (a / 2 ^ i % 2) 1 t in rw (t, eq-eqb (a / 2 ^ i % 2) 0 (omega arith))))

not-xor : (a b : Bool) → not (xor a b) ≡ xor (not a) b
unfolding xor
not-xor true true = refl
not-xor true false = refl
not-xor false true = refl
not-xor false false = refl

-- ---- how the code changes with the data

module _ (d d' : List ℕ) where
  -- where the two differ
  abbrev pub dataFlip : ℕ → Bool
  dataFlip a = xor (bit_at d a) (bit_at d' a)

  pub became : (a : ℕ) → bit_at d' a ≡ xor (bit_at d a) (dataFlip a)
  became a = sym (xor-back (bit_at d a) (bit_at d' a))

  -- a code bit turns where an odd number of the data bits that it tells of do
  pub heard : (j : ℕ) → j < 22 → code_bit d' j ≡ xor (code_bit d j) (odd 2048 (λ a. dataFlip a && side j a))
  heard j l = code-low d' j l
      ∙ ap not (odd-same 2048 (λ a. bit_at d' a && side j a) (λ a. xor (bit_at d a && side j a) (dataFlip a && side j a))
      (λ a al. ap (λ (x : Bool). x && side j a) (became a) ∙ and_xor (bit_at d a) (dataFlip a) (side j a))
      ∙ odd-xor 2048 (λ a. bit_at d a && side j a) (λ a. dataFlip a && side j a))
      ∙ not-xor _ _ ∙ ap (λ (x : Bool). xor x (odd 2048 (λ a. dataFlip a && side j a))) (sym (code-low d j l))

  -- where one data bit alone does, those that tell of it turn
  pub heard-one : (a : ℕ) → a < 2048 → ((x : ℕ) → x < 2048 → dataFlip x ≡ eqb x a) → (j : ℕ) → j < 22
      → code_bit d' j ≡ xor (code_bit d j) (side j a)
  heard-one a l one j jl = heard j jl ∙ ap (xor (code_bit d j))
      (odd-one 2048 a (λ x. dataFlip x && side j x) l (λ x xl t. rw (one x xl, t)) ∙ rw (one a l, eq-eqb a a refl))
