-- Laws of sums: that N times the sum of squares is at least the total squared, and what one changed entry does.
use Rattle.std.proofs.Common.{◌≡◌, ℕ, zero, suc, ◌+◌, ◌-◌, ◌*◌, ◌<◌, ◌≤◌, eqb, sym, refl, suc-mul, mul_comm, add-mul, zero-mul, mul-add}
use Rattle.std.proofs.Common.{arith, eqb-true}
use native.Mathlib.Decide.{dec_lt}
use borrow.Author.Tests.{eqb-false}
use Rattle.prelude.proofs.Tests.{by-test}
use Rattle.model.specs.Calls.{sum}
use Rattle.wear.specs.Figures.{squared}

-- ---- products

-- (a + k)² = a² + 2ak + k²
pub square_sum : (a k : ℕ) → (a + k) * (a + k) ≡ a * a + (a * k + a * k) + k * k
square_sum a k = let p = add-mul a k (a + k) in let q = mul-add a a k in let r = mul-add k a k in let s = mul_comm k a in omega arith

-- the same where b is a + k
double-up : (a k : ℕ) → a * (a + k) + a * (a + k) ≤ a * a + (a + k) * (a + k)
double-up a k = let p = square_sum a k in let q = mul-add a a k in omega arith

-- 2ab ≤ a² + b²
pub double : (a b : ℕ) → a * b + a * b ≤ a * a + b * b
double a b = by_order (dec_lt a b)
  where
    by_order : Dec (a < b) → a * b + a * b ≤ a * a + b * b
    by_order (yes l) = let e : a + (b - a) ≡ b = omega arith in rw (sym e) (double-up a (b - a))
    by_order (no n) = let e : b + (a - b) ≡ a = omega arith in let p = mul_comm a b in let q : b * a + b * a ≤ b * b + a * a = rw (sym e)
        (double-up b (a - b)) in omega arith

-- ---- Cauchy and Schwarz, for the list of ones

-- 2xS ≤ Q + nx²
pub scaled : (n : ℕ) (f : ℕ → ℕ) (x : ℕ) → sum n f * x + sum n f * x ≤ sum n (squared f) + n * (x * x)
unfolding sum
scaled zero f x = let z = zero-mul x in omega arith
scaled (suc n) f x =
    let ih = scaled n f x in let p = add-mul (sum n f) (f n) x in let q = suc-mul n (x * x) in let d = double (f n) x in omega arith

pub cauchy : (n : ℕ) (f : ℕ → ℕ) → sum n f * sum n f ≤ n * sum n (squared f)
unfolding sum
cauchy zero f = omega arith
cauchy (suc n) f =
    let ih = cauchy n f in let s = square_sum (sum n f) (f n) in let k = scaled n f (f n) in
    let p = suc-mul n (sum n (squared f) + f n * f n) in let q = mul-add n (sum n (squared f)) (f n * f n) in omega arith

-- ---- bounds

pub sum-le : (n : ℕ) (f : ℕ → ℕ) (m : ℕ) → ((i : ℕ) → i < n → f i ≤ m) → sum n f ≤ n * m
unfolding sum
sum-le zero f m h = let z = zero-mul m in omega arith
sum-le (suc n) f m h = let ih = sum-le n f m (λ i l. h i (omega arith)) in let k = h n (omega arith) in let p = suc-mul n m in omega arith

-- ---- one entry changed

pub sum_same : (n : ℕ) (f g : ℕ → ℕ) → ((i : ℕ) → i < n → g i ≡ f i) → sum n g ≡ sum n f
unfolding sum
sum_same zero f g h = refl
sum_same (suc n) f g h = let ih = sum_same n f g (λ i l. h i (omega arith)) in let k = h n (omega arith) in omega arith

pub sum-change : (n b : ℕ) (f g : ℕ → ℕ) → b < n → ((i : ℕ) → i < n → (i ≡ b → ⊥) → g i ≡ f i) → sum n g + f b ≡ sum n f + g b
unfolding sum
sum-change zero b f g l h = absurd (omega arith)
sum-change (suc n) b f g l h = by-test (eqb n b)
    (λ q. let e = eqb-true n b q in let s = sum_same n f g (λ i k. h i (omega arith) (λ (e' : i ≡ b). omega arith)) in rw (sym e) (omega
    arith))
    (λ q. let ne = eqb-false n b q in let ih = sum-change n b f g (omega arith) (λ i k ne'. h i (omega arith) ne') in let e = h n (omega
    arith) ne in omega arith)
