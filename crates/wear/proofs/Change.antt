-- What one more erasure does to the figures, over whole numbers: the proofs of specs/Rules.
use Rattle.std.proofs.Common.{◌≡◌, ℕ, zero, suc, ◌+◌, ◌-◌, ◌*◌, ◌<◌, ◌≤◌, max, eqb, ltb, List, length, pos, negsuc, ◌-ℤ◌, nat_abs, sym}
use Rattle.std.proofs.Common.{refl, ap, ◌∙◌, mul-le-mul, mul-le-mul_left, mul-add, arith, length-set, get_or-set_other, get_or-set_same}
use Rattle.std.proofs.Common.{ltb-false, ltb-true, le-ltb, lt-ltb, eqb-true}
use lib.IntN.{sub_ℕ}
use borrow.Author.Tests.{eqb-false}
use Rattle.prelude.specs.Scan.{greatest}
use Rattle.prelude.proofs.Tests.{by-test}
use Rattle.prelude.proofs.Scan.{greatest-ge, greatest-le}
use Rattle.wear.specs.Figures.{wear_at, squared, total, largest, squares, spread, erased_once}
use Rattle.wear.specs.Rules.{NeverNegativeRule, FitsRule, ChangeRule, ChangeAtMostRule}
use Rattle.wear.proofs.Sums.{square_sum, cauchy, sum-le, sum-change}

pub never_negative_rule : NeverNegativeRule
unfolding total squares
never_negative_rule l = cauchy (length l) (wear_at l)

pub fits-rule : FitsRule
unfolding total largest squares spread
fits-rule l n h =
    let t = sum-le (length l) (wear_at l) 1000000 h in
    let m = greatest-le (length l) (wear_at l) 1000000 h in
    let q = sum-le (length l) (squared (wear_at l)) 1000000000000 (λ i k. mul-le-mul (h i k) (h i k)) in
    let p = mul-le-mul n q in
    let e : 4096 * (length l * 1000000000000) ≤ 16777216000000000000 = omega arith in
    (omega arith, omega arith, omega arith)

-- ---- one more erasure of block b

module _ (l : List ℕ) (b : ℕ) (h : b < length l) where
  erased-length : length (erased_once l b) ≡ length l
  unfolding erased_once
  erased-length = length-set l b (suc (wear_at l b))

  erased-here : wear_at (erased_once l b) b ≡ wear_at l b + 1
  unfolding erased_once
  erased-here = let e = get_or-set_same l b (suc (wear_at l b)) 0 h in omega arith

  erased-there : (i : ℕ) → (i ≡ b → ⊥) → wear_at (erased_once l b) i ≡ wear_at l i
  unfolding erased_once
  erased-there i ne = get_or-set_other l b i (suc (wear_at l b)) 0 ne

  pub erased-total : total (erased_once l b) ≡ total l + 1
  unfolding total
  erased-total = rw erased-length (
      let c = sum-change (length l) b (wear_at l) (wear_at (erased_once l b)) h (λ i _ ne. erased-there i ne) in
      let e = erased-here in omega arith)

  pub erased-squares : squares (erased_once l b) ≡ squares l + (2 * wear_at l b + 1)
  unfolding squares
  erased-squares = rw erased-length (
      let c = sum-change (length l) b (squared (wear_at l)) (squared (wear_at (erased_once l b))) h
      (λ i _ ne. ap (λ (x : ℕ). x * x) (erased-there i ne)) in
      let e = ap (λ (x : ℕ). x * x) erased-here in let s = square_sum (wear_at l b) 1 in omega arith)

  -- the largest, or the block's own wear
  pub erased-largest : largest (erased_once l b) ≡ max (largest l) (wear_at l b + 1)
  unfolding largest
  erased-largest = rw erased-length (
      let e = erased-here in
      let here = greatest-ge (length l) (wear_at (erased_once l b)) b h in
      let up = greatest-le (length l) (wear_at (erased_once l b)) (max (greatest (length l) (wear_at l)) (wear_at l b + 1))
      (λ i k. let g = greatest-ge (length l) (wear_at l) i k in by-test (eqb i b)
      (λ t. rw (eqb-true i b t) (omega arith)) (λ t. let q = erased-there i (eqb-false i b t) in omega arith)) in
      let down = greatest-le (length l) (wear_at l) (greatest (length l) (wear_at (erased_once l b)))
      (λ i k. let g = greatest-ge (length l) (wear_at (erased_once l b)) i k in by-test (eqb i b)
      (λ t. rw (eqb-true i b t) (omega arith)) (λ t. let q = erased-there i (eqb-false i b t) in omega arith)) in
      omega arith)

  -- in naturals, with what is taken away on the other side
  pub change : spread (erased_once l b) + (2 * total l + 1) ≡ spread l + length l * (2 * wear_at l b + 1)
  unfolding spread
  change =
      let n1 = never_negative_rule l in let n2 = never_negative_rule (erased_once l b) in
      let q : length (erased_once l b) * squares (erased_once l b) ≡ length l * squares l + length l * (2 * wear_at l b + 1)
      = rw (erased-length, erased-squares) (mul-add (length l) (squares l) (2 * wear_at l b + 1)) in
      let t : total (erased_once l b) * total (erased_once l b) ≡ total l * total l + (total l + total l) + 1
      = rw erased-total (let s = square_sum (total l) 1 in omega arith) in
      omega arith

  largest-ge : wear_at l b ≤ largest l
  unfolding largest
  largest-ge = greatest-ge (length l) (wear_at l) b h

  total-le : total l ≤ length l * largest l
  unfolding total largest
  total-le = sum-le (length l) (wear_at l) (greatest (length l) (wear_at l)) (λ i k. greatest-ge (length l) (wear_at l) i k)

  -- both terms of the change are at most N × (2L + 1)
  gain_le : length l * (2 * wear_at l b + 1) ≤ length l * (2 * largest l + 1)
  gain_le = let g = largest-ge in let k : 2 * wear_at l b + 1 ≤ 2 * largest l + 1 = omega arith in mul-le-mul_left (length l) k

  loss_le : 2 * total l + 1 ≤ length l * (2 * largest l + 1)
  loss_le =
      let t = total-le in let m = mul-add (length l) (2 * largest l) 1 in let k = mul-add (length l) (largest l) (largest l) in
      let e : 2 * largest l ≡ largest l + largest l = omega arith in let f = ap (λ (x : ℕ). length l * x) e in omega arith

  pub up-at_most : spread (erased_once l b) ≤ spread l + length l * (2 * largest l + 1)
  up-at_most = let c = change in let g = gain_le in omega arith

  pub down-at_most : spread l ≤ spread (erased_once l b) + length l * (2 * largest l + 1)
  down-at_most = let c = change in let g = loss_le in omega arith

-- ---- over the integers

-- a difference of naturals
minus_sub : (a b : ℕ) → pos a -ℤ pos b ≡ sub_ℕ a b
minus_sub a zero = let z : 0 ≤ a = omega arith in let s : a + 0 ≡ a - 0 = omega arith in rw (le-ltb a 0 z) (ap pos s)
minus_sub a (suc b) = refl

-- two differences are equal where the sums across are
sub_same : (a b c d : ℕ) → a + d ≡ c + b → sub_ℕ a b ≡ sub_ℕ c d
sub_same a b c d e = by-test (ltb a b)
    (λ p. let l = ltb-true a b p in let l' : c < d = omega arith in let q : b - suc a ≡ d - suc c = omega arith in
    rw (p, lt-ltb c d l') (ap negsuc q))
    (λ p. let l = ltb-false a b p in let l' : d ≤ c = omega arith in let q : a - b ≡ c - d = omega arith in
    rw (p, le-ltb c d l') (ap pos q))

abs_le : (a b x : ℕ) → a ≤ b + x → b ≤ a + x → nat_abs (sub_ℕ a b) ≤ x
abs_le a b x up down = by-test (ltb a b)
    (λ p. let l = ltb-true a b p in rw p (omega arith))
    (λ p. let l = ltb-false a b p in rw p (omega arith))

pub change-rule : ChangeRule
change-rule l b h =
    let c = change l b h in
    minus_sub (spread (erased_once l b)) (spread l)
    ∙ sub_same (spread (erased_once l b)) (spread l) (length l * (2 * wear_at l b + 1)) (2 * total l + 1) (omega arith)
    ∙ sym (minus_sub (length l * (2 * wear_at l b + 1)) (2 * total l + 1))

pub change-at_most_rule : ChangeAtMostRule
change-at_most_rule l b h = rw (minus_sub (spread (erased_once l b)) (spread l))
    (abs_le (spread (erased_once l b)) (spread l) (length l * (2 * largest l + 1)) (up-at_most l b h) (down-at_most l b h))
