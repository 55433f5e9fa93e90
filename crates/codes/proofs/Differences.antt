-- How a difference between two codes is judged.
use mathlib.Core.Path.{◌≡◌, refl, sym, ap, ap₂, ◌∙◌}
use mathlib.Core.Logic.{◌⊎◌, inl, inr}
use mathlib.Core.Bool.{Bool, true, false, not, cond, ◌&&◌, xor}
use mathlib.Core.List.{List}
use Prim.Native.Nat.{ℕ, zero, suc, ◌+◌, ◌*◌, ◌/◌, ◌%◌, ◌≤◌, ◌<◌}
use native.Mathlib.Omega.{arith}
use lib.Dec.{eqb}
use lib.Bits.{bit_xor, xor_lt}
use borrow.Author.Tests.{eqb-true, eqb-false, lt-leb}
use Rattle.prelude.specs.Scan.{count, first, all}
use Rattle.prelude.specs.Bits.{bit, mask}
use Rattle.prelude.proofs.Tests.{by-test, clash, and_l, and_r, not_t}
use Rattle.prelude.proofs.Scan.{all_of, all-at, count_none, count-some, count_past, count-mono, count-remove, first-hit}
use Rattle.prelude.proofs.Bits.{mask_lt, bit_mask, bits-ext, bit-zero}
use Rattle.codes.specs.Code.{code_of}
use Rattle.codes.specs.Reading.{difference, leaves, pairs, addressed, legible, mended, differs, ReadAs}
use Rattle.codes.proofs.Parity.{xor_self, bit-xor}
use Rattle.codes.proofs.CodeBits.{side, side-even, side-odd, code_lt}

-- ---- none differ

pub leaves_none : leaves 0 ≡ true
unfolding leaves
leaves_none = rw (count_none 24 (bit 0) (λ j l. bit-zero j))

-- a code differs from itself nowhere
pub no_difference : (d : List ℕ) → difference d (code_of d) ≡ 0
unfolding difference
no_difference d = bits-ext 24 (bit_xor (code_of d) (code_of d)) 0 (xor_lt 24 (code_of d) (code_of d) (code_lt d) (code_lt d)) (omega arith)
    (λ i l. bit-xor (code_of d) (code_of d) i ∙ xor_self (bit (code_of d) i) ∙ sym (bit-zero i))

-- any list is read with its own code as it is, with no mend
pub own_read : (d : List ℕ) → ReadAs d (code_of d) d false
unfolding legible mended differs
own_read d = let e = no_difference d in record { can = rw (e, leaves_none); data_is = rw (e, leaves_none); counts = rw e }

-- ---- one bit differs

pub count-zero : (n : ℕ) (p : ℕ → Bool) → count n p ≡ 0 → (j : ℕ) → j < n → p j ≡ false
count-zero n p e j l = by-test (p j) (λ t. absurd (let h = count_past j n p l t in omega arith)) (λ t. t)

-- one only
pub count-single : (n : ℕ) (p : ℕ → Bool) → count n p ≡ 1 → (a : ℕ) × (a < n) × (p a ≡ true) × ((j : ℕ) → j < n → p j ≡ eqb j a)
count-single n p e = let l = count-some n p (omega arith) in let t = first-hit n p l in let r = count-remove n p (first n p) l t in
    let none = count-zero n (λ i. p i && not (eqb i (first n p))) (omega arith) in (
      first n p,
      l,
      t,
      λ j jl. by-test (eqb j (first n p))
          (λ u. rw (u, eqb-true j (first n p) u) t)
          (λ u. let w : (p j && not (eqb j (first n p))) ≡ false = none j jl in by-test (p j) (λ v. clash (rw (v, u)) w) (λ v. v ∙ sym u)),
    )

-- ---- one of each pair differs

xor-not : (a : Bool) → xor (not a) a ≡ true
unfolding xor
xor-not true = refl
xor-not false = refl

one_of_two : (a b : Bool) (k : ℕ) → xor a b ≡ true → cond b 1 0 + (cond a 1 0 + k) ≡ suc k
unfolding xor
one_of_two true true k h = clash refl (sym h)
one_of_two true false k h = omega arith
one_of_two false true k h = omega arith
one_of_two false false k h = clash refl (sym h)

-- a number of which one of each pair passes
count-pairs : (n : ℕ) (p : ℕ → Bool) → ((i : ℕ) → i < n → xor (p (i * 2)) (p (i * 2 + 1)) ≡ true) → count (n * 2) p ≡ n
unfolding count
count-pairs zero p h = refl
count-pairs (suc n) p h = let ih = count-pairs n p (λ i l. h i (omega arith)) in let e : suc n * 2 ≡ suc (suc (n * 2)) = omega arith in
    let f : n * 2 + 1 ≡ suc (n * 2) = omega arith in
    let one : xor (p (n * 2)) (p (suc (n * 2))) ≡ true = (rw f at (h n (omega arith))) in
    ap (λ (k : ℕ). count k p) e ∙ one_of_two (p (n * 2)) (p (suc (n * 2))) (count (n * 2) p) one ∙ ap suc ih

-- the difference x names address a: of the pairs those bits that tell of a, and no others
pub record Names (x a : ℕ) : Type 0 where
  pub low : (j : ℕ) → j < 22 → bit x j ≡ side j a
  pub high : (j : ℕ) → 22 ≤ j → j < 24 → bit x j ≡ false

module _ (x a : ℕ) (h : Names x a) where
  named-pair : (i : ℕ) → i < 11 → xor (bit x (i * 2)) (bit x (i * 2 + 1)) ≡ true
  named-pair i l = ap₂ xor (h.low (i * 2) (omega arith) ∙ side-even i a) (h.low (i * 2 + 1) (omega arith) ∙ side-odd i a)
      ∙ xor-not (bit a i)

  pub named_count : count 22 (bit x) ≡ 11
  named_count = count-pairs 11 (bit x) named-pair

  pub named-leaves : leaves x ≡ false
  unfolding leaves
  named-leaves = let e = named_count in let m = count-mono 22 24 (bit x) (omega arith) in lt-leb (count 24 (bit x)) 1 (omega arith)

  pub named-pairs : pairs x ≡ true
  unfolding pairs
  named-pairs = rw (
    all_of 11 (λ i. xor (bit x (i * 2)) (bit x (i * 2 + 1))) named-pair,
    h.high 22 (omega arith) (omega arith),
    h.high 23 (omega arith) (omega arith),
  )

  pub named-address : a < 2048 → addressed x ≡ a
  unfolding addressed
  named-address l = bits-ext 11 _ a (mask_lt 11 (λ i. bit x (i * 2 + 1))) l
      (λ i il. bit_mask 11 (λ i. bit x (i * 2 + 1)) i il ∙ h.low (i * 2 + 1) (omega arith) ∙ side-odd i a)

pub addressed-lt : (x : ℕ) → addressed x < 2048
unfolding addressed
addressed-lt x = mask_lt 11 (λ i. bit x (i * 2 + 1))

other-of_two : (a b : Bool) → xor a b ≡ true → a ≡ not b
unfolding xor
other-of_two true true h = sym h
other-of_two true false h = refl
other-of_two false true h = refl
other-of_two false false h = h

even-or_odd : (j : ℕ) → (j ≡ j / 2 * 2) ⊎ (j ≡ j / 2 * 2 + 1)
even-or_odd j = by-test (eqb (j % 2) 0)
    (λ t. let e = eqb-true (j % 2) 0 t in inl (omega arith))
    (λ t. let e = eqb-false (j % 2) 0 t in inr (omega arith))

-- a difference in one bit of each pair, and nowhere else, names the address
pub pairs-name : (x : ℕ) → pairs x ≡ true → Names x (addressed x)
unfolding pairs addressed
pairs-name x t =
    let a : ℕ = mask 11 (λ i. bit x (i * 2 + 1)) in
    let p : ℕ → Bool = λ i. xor (bit x (i * 2)) (bit x (i * 2 + 1)) in
    let pairs-t = and_l (all 11 p && not (bit x 22)) (not (bit x 23)) t in
    let t23 = not_t {b = bit x 23} (and_r (all 11 p && not (bit x 22)) (not (bit x 23)) t) in
    let t22 = not_t {b = bit x 22} (and_r (all 11 p) (not (bit x 22)) pairs-t) in
    let each = all-at 11 p (and_l (all 11 p) (not (bit x 22)) pairs-t) in
    let odds : (i : ℕ) → i < 11 → bit x (i * 2 + 1) ≡ bit a i = (λ i l. sym (bit_mask 11 (λ i. bit x (i * 2 + 1)) i l)) in
    record {
      low = λ j l. elim (even-or_odd j) [
        | inl e ↦ rw e (other-of_two _ _ (each (j / 2) (omega arith)) ∙ ap not (odds (j / 2) (omega arith)) ∙ sym (side-even (j / 2) a))
        | inr e ↦ rw e (odds (j / 2) (omega arith) ∙ sym (side-odd (j / 2) a))
      ];
      high = λ j h l. by-test (eqb j 22)
          (λ u. rw (eqb-true j 22 u) t22)
          (λ u. let n = eqb-false j 22 u in let e : j ≡ 23 = omega arith in rw e t23);
    }
