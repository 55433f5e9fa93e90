-- The code by words: words from bytes, sums of words, parities of words.
use mathlib.Core.Path.{◌≡◌, sym, ap, ap₂, ◌∙◌}
use mathlib.Core.Bool.{Bool, true, ◌&&◌, xor, and-true, and-false}
use mathlib.Core.List.{List}
use Prim.Native.Nat.{ℕ, zero, suc, ◌+◌, ◌-◌, ◌*◌, ◌/◌, ◌%◌, ◌^◌, ◌<◌}
use native.Mathlib.Omega.{arith}
use lib.Dec.{eqb, ltb}
use lib.Pow.{low, high, shr-shr, pow-add}
use lib.Arith.{digits_lt}
use lib.Bits.{bit_xor}
use lib.ListN.{get_or}
use borrow.Author.Tests.{ltb-true, ltb-false}
use Rattle.prelude.specs.Bits.{bit}
use Rattle.prelude.proofs.Tests.{by-test}
use Rattle.prelude.proofs.Bits.{bit-mod}
use Rattle.codes.specs.Code.{odd, bit_at}
use Rattle.codes.specs.Reading.{Bytes}
use Rattle.ecc.specs.Words.{Word, Eights}
use Rattle.codes.proofs.Parity.{xor_assoc, xor-false, false-xor, odd-zero, odd-suc, odd-same, bit-xor}
use Rattle.codes.proofs.CodeBits.{bit-of}

-- ---- bits of a number of two parts

pub bit-shr : (x k q : ℕ) → bit (x / 2 ^ k) q ≡ bit x (k + q)
unfolding bit
bit-shr x k q = ap (λ (y : ℕ). eqb (y % 2) 1) (shr-shr x k q)

pub bit-low : (h k l p : ℕ) → l < 2 ^ k → p < k → bit (h * 2 ^ k + l) p ≡ bit l p
bit-low h k l p ll pl = sym (bit-mod (h * 2 ^ k + l) k p pl) ∙ ap (λ (x : ℕ). bit x p) (low h k ll)

pub bit_high : (h k l q : ℕ) → l < 2 ^ k → bit (h * 2 ^ k + l) (k + q) ≡ bit h q
bit_high h k l q ll = sym (bit-shr (h * 2 ^ k + l) k q) ∙ ap (λ (x : ℕ). bit x q) (high h k ll)

-- ---- a word from 8 bytes

unfoldable pub word_from : List ℕ → ℕ → ℕ → ℕ
word_from d i zero = 0
word_from d i (suc n) = get_or d (i + n) 0 * 2 ^ (n * 8) + word_from d i n

word_lt : (d : List ℕ) → Bytes d → (i n : ℕ) → word_from d i n < 2 ^ (n * 8)
unfolding word_from
word_lt d b i zero = omega arith
word_lt d b i (suc n) = let e : suc n * 8 ≡ 8 + n * 8 = omega arith in
    rw (e, pow-add 2 8 (n * 8)) (digits_lt (b (i + n)) (word_lt d b i n))

pub bit_word : (d : List ℕ) → Bytes d → (i n p : ℕ) → p < n * 8 → bit (word_from d i n) p ≡ bit_at d (i * 8 + p)
unfolding word_from
bit_word d b i zero p l = absurd (omega arith)
bit_word d b i (suc n) p l = by-test (ltb p (n * 8))
    (λ t. let h = ltb-true p (n * 8) t in bit-low (get_or d (i + n) 0) (n * 8) (word_from d i n) p (word_lt d b i n) h
    ∙ bit_word d b i n p h)
    (λ t. let h = ltb-false p (n * 8) t in let e : p ≡ n * 8 + (p - n * 8) = omega arith in
    ap (bit (get_or d (i + n) 0 * 2 ^ (n * 8) + word_from d i n)) e ∙ bit_high (get_or d (i + n) 0) (n * 8) (word_from d i n) (p - n * 8)
    (word_lt d b i n)
    ∙ sym (bit-of d (i + n) (p - n * 8) (omega arith)) ∙ ap (bit_at d) (let f : (i + n) * 8 + (p - n * 8) ≡ i * 8 + p = omega arith in f))

pub word_is : (d : List ℕ) (i x : ℕ) → Bytes d → x ≡ word_from d i 8 → Word d i x
word_is d i x b e p l = ap (λ (y : ℕ). bit y p) e ∙ bit_word d b i 8 p l

-- ---- the parity of a few, written out

odd-four : (f : ℕ → Bool) → odd 4 f ≡ xor (xor (xor (f 0) (f 1)) (f 2)) (f 3)
odd-four f = rw (odd-suc 3 f, odd-suc 2 f, odd-suc 1 f, odd-suc 0 f, odd-zero f, false-xor (f 0))

odd-eight : (f : ℕ → Bool) → odd 8 f ≡ xor (xor (xor (xor (xor (xor (xor (f 0) (f 1)) (f 2)) (f 3)) (f 4)) (f 5)) (f 6)) (f 7)
odd-eight f = rw (
  odd-suc 7 f,
  odd-suc 6 f,
  odd-suc 5 f,
  odd-suc 4 f,
  odd-suc 3 f,
  odd-suc 2 f,
  odd-suc 1 f,
  odd-suc 0 f,
  odd-zero f,
  false-xor (f 0),
)

module _ (f : ℕ → Bool) where
  pub of_all : odd 8 f ≡ xor (xor (xor (f 0) (f 1)) (xor (f 2) (f 3))) (xor (xor (f 4) (f 5)) (xor (f 6) (f 7)))
  of_all = rw (odd-eight f) (simp xor_assoc)

  pub of_one : odd 8 (λ w. f w && bit w 0) ≡ xor (xor (f 1) (f 3)) (xor (f 5) (f 7))
  unfolding bit
  of_one = rw (odd-eight (λ w. f w && bit w 0)) (simp (and-true, and-false, xor-false, false-xor, xor_assoc))

  pub of_two : odd 8 (λ w. f w && bit w 1) ≡ xor (xor (f 2) (f 3)) (xor (f 6) (f 7))
  unfolding bit
  of_two = rw (odd-eight (λ w. f w && bit w 1)) (simp (and-true, and-false, xor-false, false-xor, xor_assoc))

  pub of_four : odd 8 (λ w. f w && bit w 2) ≡ xor (xor (f 4) (f 5)) (xor (f 6) (f 7))
  unfolding bit
  of_four = rw (odd-eight (λ w. f w && bit w 2)) (simp (and-true, and-false, xor-false, false-xor, xor_assoc))

  pub four-all : odd 4 f ≡ xor (xor (f 0) (f 1)) (xor (f 2) (f 3))
  four-all = rw (odd-four f) (simp xor_assoc)

  pub four-one : odd 4 (λ w. f w && bit w 0) ≡ xor (f 1) (f 3)
  unfolding bit
  four-one = rw (odd-four (λ w. f w && bit w 0)) (simp (and-true, and-false, xor-false, false-xor))

  pub four-two : odd 4 (λ w. f w && bit w 1) ≡ xor (f 2) (f 3)
  unfolding bit
  four-two = rw (odd-four (λ w. f w && bit w 1)) (simp (and-true, and-false, xor-false, false-xor))

-- ---- the sums of 8 words

module _ (d : List ℕ) (i a b c e f g h k : ℕ) (wa : Word d (i * 8) a) (wb : Word d (i * 8 + 8) b) (wc : Word d (i * 8 + 16) c)
    (we : Word d (i * 8 + 24) e) (wf : Word d (i * 8 + 32) f) (wg : Word d (i * 8 + 40) g) (wh : Word d (i * 8 + 48) h)
    (wk : Word d (i * 8 + 56) k) where
  module _ (p : ℕ) (l : p < 64) where
    abbrev at : ℕ → Bool
    at w = bit_at d ((i + w) * 64 + p)

    ra : bit a p ≡ at 0
    ra = wa p l ∙ ap (bit_at d) (let q : i * 8 * 8 + p ≡ (i + 0) * 64 + p = omega arith in q)

    rb : bit b p ≡ at 1
    rb = wb p l ∙ ap (bit_at d) (let q : (i * 8 + 8) * 8 + p ≡ (i + 1) * 64 + p = omega arith in q)

    rc : bit c p ≡ at 2
    rc = wc p l ∙ ap (bit_at d) (let q : (i * 8 + 16) * 8 + p ≡ (i + 2) * 64 + p = omega arith in q)

    re : bit e p ≡ at 3
    re = we p l ∙ ap (bit_at d) (let q : (i * 8 + 24) * 8 + p ≡ (i + 3) * 64 + p = omega arith in q)

    rf : bit f p ≡ at 4
    rf = wf p l ∙ ap (bit_at d) (let q : (i * 8 + 32) * 8 + p ≡ (i + 4) * 64 + p = omega arith in q)

    rg : bit g p ≡ at 5
    rg = wg p l ∙ ap (bit_at d) (let q : (i * 8 + 40) * 8 + p ≡ (i + 5) * 64 + p = omega arith in q)

    rh : bit h p ≡ at 6
    rh = wh p l ∙ ap (bit_at d) (let q : (i * 8 + 48) * 8 + p ≡ (i + 6) * 64 + p = omega arith in q)

    rk : bit k p ≡ at 7
    rk = wk p l ∙ ap (bit_at d) (let q : (i * 8 + 56) * 8 + p ≡ (i + 7) * 64 + p = omega arith in q)

    two : (x y : ℕ) (s t : Bool) → bit x p ≡ s → bit y p ≡ t → bit (bit_xor x y) p ≡ xor s t
    two x y s t hs ht = bit-xor x y p ∙ ap₂ xor hs ht

    r_high : bit (bit_xor (bit_xor f g) (bit_xor h k)) p ≡ xor (xor (at 4) (at 5)) (xor (at 6) (at 7))
    r_high = two (bit_xor f g) (bit_xor h k) _ _ (two f g _ _ rf rg) (two h k _ _ rh rk)

    r_all : bit (bit_xor (bit_xor (bit_xor a b) (bit_xor c e)) (bit_xor (bit_xor f g) (bit_xor h k))) p ≡ odd 8 (λ w. at w && true)
    r_all = two (bit_xor (bit_xor a b) (bit_xor c e)) (bit_xor (bit_xor f g) (bit_xor h k)) _ _
        (two (bit_xor a b) (bit_xor c e) _ _ (two a b _ _ ra rb) (two c e _ _ rc re)) r_high
        ∙ sym (odd-same 8 (λ w. at w && true) at (λ w wl. and-true (at w)) ∙ of_all at)

    r_one : bit (bit_xor (bit_xor b e) (bit_xor g k)) p ≡ odd 8 (λ w. at w && bit w 0)
    r_one = two (bit_xor b e) (bit_xor g k) _ _ (two b e _ _ rb re) (two g k _ _ rg rk) ∙ sym (of_one at)

    r_two : bit (bit_xor (bit_xor c e) (bit_xor h k)) p ≡ odd 8 (λ w. at w && bit w 1)
    r_two = two (bit_xor c e) (bit_xor h k) _ _ (two c e _ _ rc re) (two h k _ _ rh rk) ∙ sym (of_two at)

    r_four : bit (bit_xor (bit_xor f g) (bit_xor h k)) p ≡ odd 8 (λ w. at w && bit w 2)
    r_four = r_high ∙ sym (of_four at)

  pub eights-of : Eights d i (record {
    all = bit_xor (bit_xor (bit_xor a b) (bit_xor c e)) (bit_xor (bit_xor f g) (bit_xor h k));
    one = bit_xor (bit_xor b e) (bit_xor g k);
    two = bit_xor (bit_xor c e) (bit_xor h k);
    four = bit_xor (bit_xor f g) (bit_xor h k);
  })
  eights-of = record { all = r_all; one = r_one; two = r_two; four = r_four }
