-- A word is a number exactly if it is some number below 2 to the 32 in decimal.
use mathlib.Core.Path.{◌≡◌, refl, sym, ap, ◌∙◌}
use mathlib.Core.Bool.{true, not}
use mathlib.Core.List.{List, [], ◌∷◌, ◌++◌, append_assoc, append-nil}
use Prim.Native.Nat.{ℕ, zero, suc, ◌+◌, ◌-◌, ◌*◌, ◌/◌, ◌%◌, ◌^◌, ◌≤◌, ◌<◌}
use native.Mathlib.Omega.{arith}
use lib.Dec.{leb, ltb, eqb}
use lib.ListN.{length, get_or, get_or-append}
use lib.Seq.{get_or_at}
use borrow.Author.Tests.{ltb-true, ltb-false, eq-eqb, ne_eqb, eqb-true, eqb-false, leb-true}
use Rattle.prelude.proofs.Tests.{by-test, and_l, and_r, or_l, or_r, or_left, not-i}
use Rattle.print.specs.Text.{last_digit, decimal}
use Rattle.print.proofs.Decimal.{decimal-one, decimal-more, length-one, length_more}
use Rattle.script.specs.Forms.{is_digit, value_from, value_of, is_number}
use Rattle.script.proofs.Value.{Number, digit-is, number-facts, number-test}

-- ---- a number in decimal is a number

value-snoc : (v : ℕ) (w : List ℕ) (x : ℕ) → value_from v (w ++ (x ∷ [])) ≡ value_from v w * 10 + (x - 48)
unfolding value_from
value-snoc v [] x = refl
value-snoc v (y ∷ w) x = value-snoc (v * 10 + (y - 48)) w x

-- n in decimal: its value, its digits, and its first digit, which is 0 for 0 alone
record Decimal (n : ℕ) : Type 0 where
  value : value_of (decimal n) ≡ n
  digit : (i : ℕ) → i < length (decimal n) → is_digit (get_or (decimal n) i 0) ≡ true
  some : 1 ≤ length (decimal n)
  first : 0 < n → get_or (decimal n) 0 0 ≡ 48 → ⊥

decimal-small : (n : ℕ) → n < 10 → Decimal n
unfolding value_from
decimal-small n h =
    let l = length-one n h in
    record {
      value = rw (decimal-one n h) (omega arith);
      digit = λ i k. let z : i ≡ 0 = omega arith in rw (z, decimal-one n h) (digit-is (last_digit n) (omega arith) (omega arith));
      some = omega arith;
      first = λ p e. let z = ap (λ (x : List ℕ). get_or x 0 0) (decimal-one n h) in omega arith;
    }

decimal-large : (n : ℕ) → 10 ≤ n → Decimal (n / 10) → Decimal n
decimal-large n h d =
    let w = decimal (n / 10) in
    let e = decimal-more n h in
    let l = length_more n h in
    let s = d.some in
    let front : (i : ℕ) → i < length w → get_or (decimal n) i 0 ≡ get_or w i 0 = λ i k. ap (λ (x : List ℕ). get_or x i 0) e
    ∙ get_or-append w _ 0 i k in
    record {
      value = let v = d.value in let z = ap value_of e ∙ value-snoc 0 w (last_digit n) in omega arith;
      digit = λ i k. by-test (ltb i (length w))
          (λ t. rw (front i (ltb-true i (length w) t)) (d.digit i (ltb-true i (length w) t)))
          (λ t. let b = ltb-false i (length w) t in let z : length w ≡ i = omega arith in
          rw (ap (λ (x : List ℕ). get_or x i 0) e ∙ get_or_at w (last_digit n) [] 0 i z)
          (digit-is (last_digit n) (omega arith) (omega arith)));
      some = omega arith;
      first = λ p q. d.first (omega arith) (sym (front 0 (omega arith)) ∙ q);
    }

decimal-facts : (c n : ℕ) → n ≤ c → Decimal n
decimal-facts zero n h = decimal-small n (omega arith)
decimal-facts (suc c) n h = by-test (ltb n 10) (λ t. decimal-small n (ltb-true n 10 t))
    (λ t. let k = ltb-false n 10 t in decimal-large n k (decimal-facts c (n / 10) (omega arith)))

pub value-decimal : (n : ℕ) → value_of (decimal n) ≡ n
value-decimal n = (decimal-facts n n (omega arith)).value

pub digit-decimal : (n i : ℕ) → i < length (decimal n) → is_digit (get_or (decimal n) i 0) ≡ true
digit-decimal n = (decimal-facts n n (omega arith)).digit

pub number-decimal : (n : ℕ) → n < 2 ^ 32 → is_number (decimal n) ≡ true
number-decimal n h =
    let d = decimal-facts n n (omega arith) in
    let v = d.value in
    number-test (decimal n) (record {
      some = d.some;
      digit = d.digit;
      first = by-test (ltb n 10)
          (λ t. or_l (not (eqb (get_or (decimal n) 0 0) 48)) (eq-eqb (length (decimal n)) 1 (length-one n (ltb-true n 10 t))))
          (λ t. let k = ltb-false n 10 t in or_r (eqb (length (decimal n)) 1)
          (not-i (ne_eqb (get_or (decimal n) 0 0) 48 (d.first (omega arith)))));
      small = omega arith;
    })

-- ---- and there is no other

decimal-snoc : (v d : ℕ) → 0 < v → d < 10 → decimal (v * 10 + d) ≡ decimal v ++ ((48 + d) ∷ [])
decimal-snoc v d p h =
    let q : (v * 10 + d) / 10 ≡ v = omega arith in
    let r : (v * 10 + d) % 10 ≡ d = omega arith in
    decimal-more (v * 10 + d) (omega arith) ∙ rw (q, r)

-- digits after a number that is not 0
decimal-on : (w : List ℕ) (v : ℕ) → 0 < v → ((i : ℕ) → i < length w → is_digit (get_or w i 0) ≡ true)
    → decimal (value_from v w) ≡ decimal v ++ w
unfolding value_from
decimal-on [] v p h = sym (append-nil (decimal v))
decimal-on (x ∷ w) v p h =
    let d = h 0 (omega arith) in
    let low = leb-true 48 x (and_l (leb 48 x) (leb x 57) d) in
    let high = leb-true x 57 (and_r (leb 48 x) (leb x 57) d) in
    let e : 48 + (x - 48) ≡ x = omega arith in
    decimal-on w (v * 10 + (x - 48)) (omega arith) (λ i k. h (suc i) (omega arith))
    ∙ ap (λ (l : List ℕ). l ++ w) (decimal-snoc v (x - 48) p (omega arith))
    ∙ append_assoc (decimal v) _ w ∙ ap (λ (y : ℕ). decimal v ++ (y ∷ w)) e

-- 0 alone
zero-on : (x : ℕ) (w : List ℕ) → x ≡ 48 → length w ≡ 0 → decimal (value_of (x ∷ w)) ≡ x ∷ w
unfolding value_from
zero-on x [] e h = rw e (decimal-one 0 (omega arith))
zero-on x (y ∷ w) e h = absurd (omega arith)

first_on : (x : ℕ) (w : List ℕ) → Number (x ∷ w) → decimal (value_of (x ∷ w)) ≡ x ∷ w
unfolding value_from
first_on x w n =
    let d = n.digit 0 (omega arith) in
    let low = leb-true 48 x (and_l (leb 48 x) (leb x 57) d) in
    let high = leb-true x 57 (and_r (leb 48 x) (leb x 57) d) in
    let v : 0 * 10 + (x - 48) ≡ x - 48 = omega arith in
    by-test (eqb x 48)
    (λ t. let l = eqb-true (length (x ∷ w)) 1 (or_left (eqb (length (x ∷ w)) 1) (not (eqb x 48)) n.first (ap not t)) in
    zero-on x w (eqb-true x 48 t) (omega arith))
    (λ t. let z = eqb-false x 48 t in
    let e : 48 + (x - 48) % 10 ≡ x = omega arith in
    rw v (decimal-on w (x - 48) (omega arith) (λ i k. n.digit (suc i) (omega arith))
    ∙ ap (λ (l : List ℕ). l ++ w) (decimal-one (x - 48) (omega arith)) ∙ ap (λ (y : ℕ). y ∷ w) e))

pub decimal-value : (w : List ℕ) → is_number w ≡ true → decimal (value_of w) ≡ w
decimal-value [] h = let z = (number-facts [] h).some in absurd (omega arith)
decimal-value (x ∷ w) h = first_on x w (number-facts (x ∷ w) h)
