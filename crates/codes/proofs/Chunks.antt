-- A chunk with its code, at most one bit of which has flipped, is read as it was.
use mathlib.Core.Path.{◌≡◌, sym, ap, ap₂, ◌∙◌}
use mathlib.Core.Bool.{Bool, true, false, ◌&&◌, xor}
use mathlib.Core.List.{List}
use Prim.Native.Nat.{ℕ, ◌+◌, ◌/◌, ◌^◌, ◌≤◌, ◌<◌}
use native.Mathlib.Nat.{zero-add}
use native.Mathlib.Omega.{arith}
use lib.Dec.{ltb, eqb}
use lib.Bits.{xor_lt}
use lib.ListN.{length}
use borrow.Author.Tests.{ltb-true, ltb-false, eqb-true, eqb-false, lt-ltb, le-leb, ne_eqb}
use Rattle.prelude.specs.Scan.{count}
use Rattle.prelude.specs.Bits.{bit}
use Rattle.prelude.proofs.Tests.{by-test, clash, not-i}
use Rattle.prelude.proofs.Scan.{count_same, count-some, first-hit}
use Rattle.prelude.proofs.Bits.{bits-ext, bit-zero}
use Rattle.codes.specs.Code.{odd, bit_at, code_bit, code_of}
use Rattle.codes.specs.Reading.{flipped, difference, leaves, legible, mended, differs, flips, Bytes, ReadAs}
use Rattle.codes.proofs.Parity.{xor_assoc, xor-false, false-xor, xor_self, xor-back, xor-swap, odd-none, bit-xor}
use Rattle.codes.proofs.CodeBits.{side, code_lt, bit-code, code-high, bytes-ext, length-flipped, bit-flipped, bytes-flipped}
use Rattle.codes.proofs.CodeBits.{dataFlip, became, heard, heard-one}
use Rattle.codes.proofs.Differences.{count-zero, count-single, Names, named_count, named-leaves, named-pairs, named-address}

-- the chunk d with its code has become d' with c'
module _ (d d' : List ℕ) (c' : ℕ) where
  abbrev code_flip : ℕ → Bool
  code_flip j = xor (bit (code_of d) j) (bit c' j)

  told : (j : ℕ) (e : Bool) → j < 24 → code_bit d' j ≡ xor (code_bit d j) e → bit (difference d' c') j ≡ xor e (code_flip j)
  unfolding difference
  told j e l h = bit-xor (code_of d') c' j ∙ ap₂ xor (bit-code d' j l ∙ h ∙ ap (λ (x : Bool). xor x e) (sym (bit-code d j l)))
      (sym (xor-back (bit (code_of d) j) (bit c' j)))
      ∙ xor-swap (bit (code_of d) j) e (bit (code_of d) j) (code_flip j)
      ∙ ap (λ (x : Bool). xor x (xor e (code_flip j))) (xor_self (bit (code_of d) j)) ∙ false-xor _

  told-low : (j : ℕ) → j < 22 → bit (difference d' c') j ≡ xor (odd 2048 (λ a. dataFlip d d' a && side j a)) (code_flip j)
  told-low j l = told j (odd 2048 (λ a. dataFlip d d' a && side j a)) (omega arith) (heard d d' j l)

  told-high : (j : ℕ) → 22 ≤ j → j < 24 → bit (difference d' c') j ≡ code_flip j
  told-high j h l = told j false l (code-high d' j h ∙ sym (xor-false _ ∙ code-high d j h)) ∙ false-xor (code_flip j)

  difference-lt : c' < 2 ^ 24 → difference d' c' < 2 ^ 24
  unfolding difference
  difference-lt h = xor_lt 24 (code_of d') c' (code_lt d') h

  some-differ : (j : ℕ) → bit (difference d' c') j ≡ true → differs d' c' ≡ true
  unfolding differs
  some-differ j t = not-i (ne_eqb (difference d' c') 0 (λ e. clash t (ap (λ (x : ℕ). bit x j) e ∙ bit-zero j)))

  -- no data bit has flipped
  module _ (none : count 2048 (dataFlip d d') ≡ 0) where
    kept : (j : ℕ) → j < 24 → bit (difference d' c') j ≡ code_flip j
    kept j l = by-test (ltb j 22)
        (λ t. let h = ltb-true j 22 t in told-low j h ∙ ap (λ (x : Bool). xor x (code_flip j))
        (odd-none 2048 (λ a. dataFlip d d' a && side j a) (λ a al. rw (count-zero 2048 (dataFlip d d') none a al)))
        ∙ false-xor (code_flip j))
        (λ t. told-high j (ltb-false j 22 t) l)

    kept-count : count 24 (bit (difference d' c')) ≡ count 24 code_flip
    kept-count = count_same 24 (bit (difference d' c')) code_flip kept

    kept_leaves : count 24 code_flip ≤ 1 → leaves (difference d' c') ≡ true
    unfolding leaves
    kept_leaves h = le-leb (count 24 (bit (difference d' c'))) 1 (let e = kept-count in omega arith)

    kept_same : length d ≡ 256 → length d' ≡ 256 → Bytes d → Bytes d' → d' ≡ d
    kept_same l l' b b' = bytes-ext 256 d' d l' l b' b (λ a al. became d d' a
        ∙ ap (xor (bit_at d a)) (count-zero 2048 (dataFlip d d') none a al) ∙ xor-false (bit_at d a))

    kept-differs : c' < 2 ^ 24 → differs d' c' ≡ ltb 0 (count 24 code_flip)
    unfolding differs
    kept-differs h = by-test (ltb 0 (count 24 code_flip))
        (λ t. let e = kept-count in let p = ltb-true 0 (count 24 code_flip) t in
        let l = count-some 24 (bit (difference d' c')) (omega arith) in some-differ _ (first-hit 24 (bit (difference d' c')) l) ∙ sym t)
        (λ t. let p = ltb-false 0 (count 24 code_flip) t in
        rw (
          t,
          bits-ext 24 (difference d' c') 0 (difference-lt h) (omega arith)
              (λ i il. kept i il ∙ count-zero 24 code_flip (omega arith) i il ∙ sym (bit-zero i)),
        ))

  -- one data bit has flipped, and no code bit
  module _ (one : count 2048 (dataFlip d d') ≡ 1) (none : count 24 code_flip ≡ 0) where
    abbrev place : ℕ
    place = (count-single 2048 (dataFlip d d') one).0

    inside : place < 2048
    inside = (count-single 2048 (dataFlip d d') one).1

    flip_is : (a : ℕ) → a < 2048 → dataFlip d d' a ≡ eqb a place
    flip_is = (count-single 2048 (dataFlip d d') one).3

    names : Names (difference d' c') place
    names = record {
      low = λ j l. told j (side j place) (omega arith) (heard-one d d' place inside flip_is j l)
          ∙ ap (xor (side j place)) (count-zero 24 code_flip none j (omega arith)) ∙ xor-false (side j place);
      high = λ j h l. told-high j h l ∙ count-zero 24 code_flip none j l;
    }

    named-differs : differs d' c' ≡ true
    named-differs = let e = named_count _ place names in let l = count-some 22 (bit (difference d' c')) (omega arith) in
        some-differ _ (first-hit 22 (bit (difference d' c')) l)

    named_back : length d ≡ 256 → length d' ≡ 256 → Bytes d → Bytes d' → flipped d' place ≡ d
    named_back l l' b b' = let w = inside in let v : place / 8 < length d' = omega arith in
        bytes-ext 256 (flipped d' place) d (length-flipped d' place v ∙ l') l (bytes-flipped d' place v b') b
        (λ a al. bit-flipped d' place v a ∙ ap₂ xor (became d d' a) (sym (flip_is a al))
        ∙ xor_assoc (bit_at d a) (dataFlip d d' a) (dataFlip d d' a)
        ∙ ap (xor (bit_at d a)) (xor_self (dataFlip d d' a)) ∙ xor-false (bit_at d a))

-- THE THEOREM for a chunk: with at most one bit of chunk and code flipped, it is read as it was, and counts as mended where there is one
pub chunk_read : (d d' : List ℕ) (c' : ℕ) → length d ≡ 256 → length d' ≡ 256 → Bytes d → Bytes d' → c' < 2 ^ 24
    → flips d (code_of d) d' c' ≤ 1 → ReadAs d' c' d (ltb 0 (flips d (code_of d) d' c'))
unfolding legible mended flips
chunk_read d d' c' l l' b b' h f = by-test (eqb (count 2048 (dataFlip d d')) 0)
    (λ t. let z = eqb-true (count 2048 (dataFlip d d')) 0 t in let k = kept_leaves d d' c' z (omega arith) in record {
      can = rw k;
      data_is = rw k (kept_same d d' c' z l l' b b');
      counts = kept-differs d d' c' z h ∙ ap (ltb 0) (sym (ap (λ (x : ℕ). x + count 24 (code_flip d d' c')) z ∙ zero-add _));
    })
    (λ t. let z = eqb-false (count 2048 (dataFlip d d')) 0 t in let o : count 2048 (dataFlip d d') ≡ 1 = omega arith in
    let n : count 24 (code_flip d d' c') ≡ 0 = omega arith in record {
      can = rw (named-leaves _ _ (names d d' c' o n)) (named-pairs _ _ (names d d' c' o n));
      data_is = rw (named-leaves _ _ (names d d' c' o n), named-address _ _ (names d d' c' o n) (inside d d' c' o n))
          (named_back d d' c' o n l l' b b');
      counts = named-differs d d' c' o n ∙ sym (lt-ltb 0 (count 2048 (dataFlip d d') + count 24 (code_flip d d' c')) (omega arith));
    })
