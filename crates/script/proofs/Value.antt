-- Laws of numbers in a line.
use Rattle.std.specs.Prelude.{None, Some}
use Rattle.std.proofs.lemmas.Option.{none-some, cond_some}
use mathlib.Core.Path.{◌≡◌, refl, sym, ◌∙◌}
use mathlib.Core.Logic.{inl, inr}
use mathlib.Core.Bool.{Bool, true, false, not, ◌&&◌, ◌||◌}
use mathlib.Core.List.{List, [], ◌∷◌}
use Prim.Native.Nat.{ℕ, ◌+◌, ◌-◌, ◌*◌, ◌≤◌, ◌<◌}
use native.Mathlib.Omega.{arith}
use native.Mathlib.Numerals.{add-one}
use lib.Dec.{leb, ltb, eqb}
use lib.ListN.{length, drop, get_or, drop_of_length-le}
use lib.Seq.{drop-cons}
use borrow.Author.Tests.{leb-true, le-leb, ltb-true, ltb-false}
use Rattle.prelude.specs.Scan.{all}
use Rattle.prelude.proofs.Tests.{by-test, clash, and_l, and_r, and_i, or_l, or_r, or_cases, each, every_of}
use Rattle.prelude.proofs.Scan.{all-at, all_of}
use Rattle.script.specs.Forms.{is_digit, value_from, value_of, is_number}
use Rattle.script.specs.Parts.{number_of}

-- one digit more
pub value-more : (v : ℕ) (w : List ℕ) (i : ℕ) → i < length w → value_from v (drop i w)
    ≡ value_from (v * 10 + (get_or w i 0 - 48)) (drop (i + 1) w)
unfolding value_from
value-more v w i h = rw (drop-cons w i 0 h, add-one)

pub value-end : (v : ℕ) (w : List ℕ) (i : ℕ) → length w ≤ i → value_from v (drop i w) ≡ v
unfolding value_from
value-end v w i h = rw (drop_of_length-le w h)

-- digits only make a number larger
pub value-le : (v : ℕ) (w : List ℕ) → v ≤ value_from v w
unfolding value_from
value-le v [] = omega arith
value-le v (x ∷ w) = let r = value-le (v * 10 + (x - 48)) w in omega arith

-- ---- the code's tests

module _ (x : ℕ) where
  pub digit-in : (ltb x 48 || ltb 57 x) ≡ false → (48 ≤ x) × (x ≤ 57)
  digit-in h = by-test (ltb x 48) (λ e. clash (or_l (ltb 57 x) e) h)
      (λ e. by-test (ltb 57 x) (λ f. clash (or_r (ltb x 48) f) h) (λ f. (ltb-false x 48 e, ltb-false 57 x f)))

  pub digit-out : (ltb x 48 || ltb 57 x) ≡ true → is_digit x ≡ true → ⊥
  digit-out h d = let l = leb-true 48 x (and_l (leb 48 x) (leb x 57) d) in let k = leb-true x 57 (and_r (leb 48 x) (leb x 57) d) in
      elim (or_cases (ltb x 48) (ltb 57 x) h) [
        | inl e ↦ let z = ltb-true x 48 e in omega arith
        | inr e ↦ let z = ltb-true 57 x e in
            omega arith
      ]

  pub digit-is : 48 ≤ x → x ≤ 57 → is_digit x ≡ true
  digit-is l k = and_i (le-leb 48 x l) (le-leb x 57 k)

-- a leading zero, as the code tests it and as the definition does
pub lead-bad : (a b : Bool) → (a && not b) ≡ true → (b || not a) ≡ true → ⊥
lead-bad true true h k = clash h refl
lead-bad true false h k = clash k refl
lead-bad false b h k = clash h refl

pub lead-good : (a b : Bool) → (a && not b) ≡ false → (b || not a) ≡ true
lead-good true true h = refl
lead-good true false h = clash refl h
lead-good false true h = refl
lead-good false false h = refl

-- ---- what a number is

module _ (w : List ℕ) where
  pub none : (is_number w ≡ true → ⊥) → number_of w ≡ None
  none h = by-test (is_number w) (λ e. absurd (h e)) (λ e. rw e)

  -- the tests of a number, as facts
  pub record Number : Type 0 where
    pub some : 1 ≤ length w
    pub digit : (i : ℕ) → i < length w → is_digit (get_or w i 0) ≡ true
    pub first : (eqb (length w) 1 || not (eqb (get_or w 0 0) 48)) ≡ true
    pub small : value_of w ≤ 4294967295

  pub number-facts : is_number w ≡ true → Number
  unfolding is_number
  number-facts h =
      let e = each (leb 1 (length w) ∷ all (length w) (λ i. is_digit (get_or w i 0)) ∷ (eqb (length w) 1 || not (eqb (get_or w 0 0) 48))
      ∷ leb (value_of w) 4294967295 ∷ []) h in
      record {
        some = leb-true 1 (length w) e.0;
        digit = all-at (length w) _ e.1.0;
        first = e.1.1.0;
        small = leb-true (value_of w) 4294967295 e.1.1.1.0;
      }

  pub number-test : Number → is_number w ≡ true
  unfolding is_number
  number-test n = every_of
      (leb 1 (length w) ∷ all (length w) (λ i. is_digit (get_or w i 0)) ∷ (eqb (length w) 1 || not (eqb (get_or w 0 0) 48))
      ∷ leb (value_of w) 4294967295 ∷ [])
      (le-leb 1 (length w) n.some, (all_of (length w) _ n.digit, (n.first, (le-leb (value_of w) 4294967295 n.small, tt))))

  pub number_is : Number → number_of w ≡ Some (value_of w)
  number_is n = rw (number-test n)

  pub number-some : (v : ℕ) → number_of w ≡ Some v → (is_number w ≡ true) × (value_of w ≡ v)
  number-some v h = cond_some (is_number w) (value_of w) v h

  pub number-other : number_of w ≡ None → is_number w ≡ false
  number-other h = by-test (is_number w) (λ e. absurd (none-some (value_of w) (sym h ∙ rw e))) (λ e. e)
