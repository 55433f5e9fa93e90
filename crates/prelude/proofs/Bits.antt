-- Laws of sets as numbers, and of the machine's operations on them.
use mathlib.Core.Path.{◌≡◌, refl, sym, ap, ◌∙◌}
use mathlib.Core.Logic.{◌≢◌}
use mathlib.Core.Bool.{Bool, true, false, ◌||◌}
use Prim.Native.Nat.{ℕ, zero, suc, ◌+◌, ◌-◌, ◌*◌, ◌/◌, ◌%◌, ◌^◌, ◌≤◌, ◌<◌, max}
use native.Mathlib.Nat.{not-suc-le-zero, add-zero, add-mul, zero-add, zero-lt-suc, div-eq_of_lt, pow-suc, add-mul-div_right}
use native.Mathlib.Nat.{add-mul-mod_self_right, add_comm, one-mul, zero-div, mod-lt}
use native.Mathlib.Omega.{arith}
use lib.Dec.{ltb, leb, eqb}
use lib.Arith.{digits_div, digits_mod}
use lib.Pow.{pow_pos, pow-lt, pow-add, pow_mono, split, field, mod-mod-pow, shr-shr, shl-shr, shl_exact}
use lib.Bits.{bit_or, or_step, or_shr, or_lt, or_block, or_zero_r}
use lib.Count.{ones, ones_cat}
use borrow.Author.Tests.{ltb-true, ltb-false, leb-true, eqb-true, eqb-false, lt-ltb, le-leb}
use Rattle.prelude.specs.Scan.{count}
use Rattle.prelude.specs.Bits.{bit, mask, with_bit, first_bits}
use Rattle.prelude.proofs.Tests.{by-test, clash, or_r, or_false, same_test}
use Rattle.prelude.proofs.Scan.{count_same, count-upto}

pub mask_lt : (n : ℕ) (p : ℕ → Bool) → mask n p < 2 ^ n
unfolding mask
mask_lt zero p = omega arith
mask_lt (suc n) p = by-test (p n)
    (λ e. rw (e, pow-suc) (let h = mask_lt n p in omega arith))
    (λ e. rw (e, pow-suc) (let h = mask_lt n p in omega arith))

pow-split : (n i : ℕ) → i < n → 2 ^ n ≡ (2 ^ (n - suc i) * 2) * 2 ^ i
pow-split n i l = ap (λ (k : ℕ). 2 ^ k) (let e : n ≡ suc (n - suc i) + i = omega arith in e) ∙ pow-add 2 (suc (n - suc i)) i
    ∙ ap (λ (k : ℕ). k * 2 ^ i) (pow-suc 2 (n - suc i))

-- a digit above i does not change bit i
pub bit-above : (n m i : ℕ) → i < n → bit (2 ^ n + m) i ≡ bit m i
unfolding bit
bit-above n m i l = ap (λ (x : ℕ). eqb (x % 2) 1) (ap (λ (x : ℕ). (x + m) / 2 ^ i) (pow-split n i l)
    ∙ ap (λ (x : ℕ). x / 2 ^ i) (add_comm ((2 ^ (n - suc i) * 2) * 2 ^ i) m) ∙ add-mul-div_right m (2 ^ (n - suc i) * 2) (pow_pos i))
    ∙ ap (λ (x : ℕ). eqb x 1) (add-mul-mod_self_right (m / 2 ^ i) (2 ^ (n - suc i)) 2)

pub bit-top : (n m : ℕ) → m < 2 ^ n → bit (2 ^ n + m) n ≡ true
unfolding bit
bit-top n m l = ap (λ (x : ℕ). eqb (x % 2) 1) (ap (λ (x : ℕ). (x + m) / 2 ^ n) (sym (one-mul (2 ^ n))) ∙ digits_div 1 l)

pub bit-none : (n m : ℕ) → m < 2 ^ n → bit m n ≡ false
unfolding bit
bit-none n m l = ap (λ (x : ℕ). eqb (x % 2) 1) (div-eq_of_lt l)

pub bit_mask : (n : ℕ) (p : ℕ → Bool) (i : ℕ) → i < n → bit (mask n p) i ≡ p i
unfolding mask
bit_mask zero p i l = absurd (not-suc-le-zero l)
bit_mask (suc n) p i l = by-test (eqb i n)
    (λ q. rw (eqb-true i n q) (by-test (p n)
    (λ e. rw e (bit-top n (mask n p) (mask_lt n p)))
    (λ e. rw (e, zero-add) (bit-none n (mask n p) (mask_lt n p)))))
    (λ q. let h : i < n = (let z = eqb-false i n q in omega arith) in by-test (p n)
    (λ e. rw e (bit-above n (mask n p) i h ∙ bit_mask n p i h))
    (λ e. rw (e, zero-add) (bit_mask n p i h)))

pub bit-zero : (i : ℕ) → bit 0 i ≡ false
unfolding bit
bit-zero i = ap (λ (x : ℕ). eqb (x % 2) 1) (zero-div (2 ^ i))

-- a number with a bit is not 0
pub bit-pos : (m i : ℕ) → bit m i ≡ true → 0 < m
bit-pos zero i h = clash h (bit-zero i)
bit-pos (suc m) i h = zero-lt-suc m

-- a number that is not 0 has a bit
pub bits-some : (n m : ℕ) → 0 < m → m < 2 ^ n → (i : ℕ) × (i < n) × (bit m i ≡ true)
bits-some zero m a b = absurd (omega arith)
bits-some (suc n) m a b = by-test (ltb m (2 ^ n))
    (λ e. let h = bits-some n m a (ltb-true m (2 ^ n) e) in let l = h.1 in (h.0, omega arith, h.2))
    (λ e. let l = ltb-false m (2 ^ n) e in let t : m < 2 ^ n * 2 = (rw pow-suc at b) in
    (n, omega arith, ap (λ (x : ℕ). bit x n) (let q : m ≡ 2 ^ n + (m - 2 ^ n) = omega arith in q) ∙ bit-top n (m - 2 ^ n) (omega arith)))

ones-zero : ones 0 ≡ 0
unfolding ones
ones-zero = refl

ones-one : ones 1 ≡ 1
unfolding ones
ones-one = refl

-- a number with the digit k set is that digit and the rest
top_split : (k m : ℕ) → 2 ^ k ≤ m → m ≡ 2 ^ k + (m - 2 ^ k)
top_split k m h = omega arith

pub ones-count : (k m : ℕ) → m < 2 ^ k → ones m ≡ count k (bit m)
unfolding count
ones-count zero m l = ap ones (let e : m ≡ 0 = omega arith in e) ∙ ones-zero
ones-count (suc k) m l = let t : m < 2 ^ k * 2 = (rw pow-suc at l) in by-test (ltb m (2 ^ k))
    (λ e. let h = ltb-true m (2 ^ k) e in let ih = ones-count k m h in rw (bit-none k m h) (omega arith))
    (λ e. let h = ltb-false m (2 ^ k) e in let n : ℕ = m - 2 ^ k in let nl : n < 2 ^ k = omega arith in
    let s : m ≡ 2 ^ k + n = top_split k m h in
    let ih = ones-count k n nl in
    let c : ones (1 * 2 ^ k + n) ≡ ones 1 + ones n = ones_cat k 1 n nl in
    let q : ones m ≡ ones 1 + ones n = ap ones (s ∙ ap (λ (x : ℕ). x + n) (sym (one-mul (2 ^ k)))) ∙ c in
    let d : count k (bit m) ≡ count k (bit n) = count_same k (bit m) (bit n) (λ j jl. ap (λ (x : ℕ). bit x j) s ∙ bit-above k n j jl) in
    let o1 = ones-one in
    rw (ap (λ (x : ℕ). bit x k) s ∙ bit-top k n nl) (omega arith))

-- numbers below 2 ^ k with the same bits are one
pub bits-ext : (k a b : ℕ) → a < 2 ^ k → b < 2 ^ k → ((i : ℕ) → i < k → bit a i ≡ bit b i) → a ≡ b
bits-ext zero a b la lb h = omega arith
bits-ext (suc k) a b la lb h =
    let ta : a < 2 ^ k * 2 = (rw pow-suc at la) in let tb : b < 2 ^ k * 2 = (rw pow-suc at lb) in
    by-test (ltb a (2 ^ k))
    (λ p. by-test (ltb b (2 ^ k))
    (λ q. bits-ext k a b (ltb-true a _ p) (ltb-true b _ q) (λ i l. h i (omega arith)))
    (λ q. clash (ap (λ (x : ℕ). bit x k) (top_split k b (ltb-false b _ q))
    ∙ bit-top k (b - 2 ^ k) (let w = ltb-false b (2 ^ k) q in omega arith)) (sym (h k (omega arith)) ∙ bit-none k a (ltb-true a _ p))))
    (λ p. by-test (ltb b (2 ^ k))
    (λ q. clash (ap (λ (x : ℕ). bit x k) (top_split k a (ltb-false a _ p))
    ∙ bit-top k (a - 2 ^ k) (let w = ltb-false a (2 ^ k) p in omega arith)) (h k (omega arith) ∙ bit-none k b (ltb-true b _ q)))
    (λ q. let x = ltb-false a (2 ^ k) p in let y = ltb-false b (2 ^ k) q in
    let e = bits-ext k (a - 2 ^ k) (b - 2 ^ k) (omega arith) (omega arith) (λ i l.
    sym (ap (λ (x : ℕ). bit x i) (top_split k a x) ∙ bit-above k (a - 2 ^ k) i l) ∙ h i (omega arith)
    ∙ ap (λ (x : ℕ). bit x i) (top_split k b y) ∙ bit-above k (b - 2 ^ k) i l) in omega arith))

max-bit : (x y : ℕ) → x < 2 → y < 2 → eqb (max x y) 1 ≡ (eqb x 1 || eqb y 1)
max-bit zero zero a b = refl
max-bit zero (suc zero) a b = refl
max-bit (suc zero) zero a b = refl
max-bit (suc zero) (suc zero) a b = refl
max-bit zero (suc (suc y)) a b = absurd (omega arith)
max-bit (suc zero) (suc (suc y)) a b = absurd (omega arith)
max-bit (suc (suc x)) y a b = absurd (omega arith)

pub bit-or : (a b i : ℕ) → bit (bit_or a b) i ≡ (bit a i || bit b i)
unfolding bit
bit-or a b i = let x : ℕ = a / 2 ^ i % 2 in let y : ℕ = b / 2 ^ i % 2 in let xl : x < 2 = mod-lt (a / 2 ^ i) (zero-lt-suc 1) in
    let yl : y < 2 = mod-lt (b / 2 ^ i) (zero-lt-suc 1) in
    ap (λ (t : ℕ). eqb (t % 2) 1) (or_shr a b i ∙ or_step (a / 2 ^ i) (b / 2 ^ i))
    ∙ ap (λ (t : ℕ). eqb t 1) (digits_mod _ (let h : max x y < 2 = omega arith in h)) ∙ max-bit x y xl yl

-- ---- one number more

-- `1 << i` at 64 bits
pub shl_one : (i : ℕ) → i < 64 → 1 * 2 ^ i % 2 ^ 64 ≡ 2 ^ i
shl_one i h = shl_exact {a = 1} 1 i 64 (omega arith) (omega arith) ∙ one-mul (2 ^ i)

-- the set of i alone
pub bit-one : (i : ℕ) → bit (2 ^ i) i ≡ true
bit-one i = ap (λ (x : ℕ). bit x i) (sym (add-zero (2 ^ i))) ∙ bit-top i 0 (pow_pos i)

pub bit-one_other : (i j : ℕ) → i ≢ j → bit (2 ^ i) j ≡ false
bit-one_other i j ne = by-test (ltb j i)
    (λ t. ap (λ (x : ℕ). bit x j) (sym (add-zero (2 ^ i))) ∙ bit-above i 0 j (ltb-true j i t) ∙ bit-zero j)
    (λ t. bit-none j (2 ^ i) (pow-lt (let h = ltb-false j i t in omega arith)))

or_one : (q : ℕ) → bit_or q 1 ≡ q + (1 - q % 2)
or_one q = or_step q 1 ∙ rw (or_zero_r (q / 2)) (omega arith)

module _ (v i : ℕ) where
  -- `v | (1 << i)`: v above i and below i, and digit i
  or_parts : bit_or v (2 ^ i) ≡ (v / 2 ^ i + (1 - v / 2 ^ i % 2)) * 2 ^ i + v % 2 ^ i
  or_parts =
      let e : 1 * 2 ^ i + 0 ≡ 2 ^ i = omega arith in
      let b = or_block i (v / 2 ^ i) 1 (v % 2 ^ i) 0 (mod-lt v (pow_pos i)) (pow_pos i) in
      rw (split v i, e, or_one (v / 2 ^ i), or_zero_r (v % 2 ^ i)) at b

  pub with-again : bit v i ≡ true → with_bit v i ≡ v
  unfolding with_bit
  with-again h = rw h

  pub with-new : bit v i ≡ false → with_bit v i ≡ v + 2 ^ i
  unfolding with_bit
  with-new h = rw h

  pub or_with : bit_or v (2 ^ i) ≡ with_bit v i
  unfolding bit
  or_with = or_parts ∙ by-test (bit v i)
      (λ t. let o = eqb-true (v / 2 ^ i % 2) 1 t in rw (o, add-zero (v / 2 ^ i), split v i) (sym (with-again t)))
      (λ t. let n = eqb-false (v / 2 ^ i % 2) 1 t in let z : v / 2 ^ i % 2 ≡ 0 = omega arith in
      rw (z, add-mul (v / 2 ^ i) 1 (2 ^ i)) (let s = split v i in let w = with-new t in omega arith))

  pub bit-with_same : bit (with_bit v i) i ≡ true
  bit-with_same = ap (λ (x : ℕ). bit x i) (sym or_with) ∙ bit-or v (2 ^ i) i ∙ or_r (bit v i) (bit-one i)

  -- i is in the set exactly where putting it in changes nothing
  pub with-met : with_bit v i ≡ v → bit v i ≡ true
  with-met h = rw (← h) bit-with_same

  pub with-unmet : with_bit v i ≢ v → bit v i ≡ false
  with-unmet h = by-test (bit v i) (λ t. absurd (h (with-again t))) (λ t. t)

  pub bit-with_other : (j : ℕ) → i ≢ j → bit (with_bit v i) j ≡ bit v j
  bit-with_other j ne = ap (λ (x : ℕ). bit x j) (sym or_with) ∙ bit-or v (2 ^ i) j ∙ rw (bit-one_other i j ne) (or_false (bit v j))

  pub with-lt : (k : ℕ) → v < 2 ^ k → i < k → with_bit v i < 2 ^ k
  with-lt k hv hi = rw (← or_with) (or_lt k v (2 ^ i) hv (pow-lt hi))

-- ---- the numbers below k

-- no number from k on
pub bit_high : (k v i : ℕ) → v < 2 ^ k → k ≤ i → bit v i ≡ false
bit_high k v i h g = bit-none i v (omega (arith, pow_mono g))

-- the count of a set of numbers below k is its count over these
pub count-within : (k n v : ℕ) → v < 2 ^ k → k ≤ n → count n (bit v) ≡ count k (bit v)
count-within k n v h g = count-upto k n (bit v) g (λ j a b. bit_high k v j h a)

pub first-is_mask : (k : ℕ) → first_bits k ≡ mask k (λ i. true)
unfolding first_bits mask
first-is_mask zero = refl
first-is_mask (suc k) = let h : 2 ^ k - 1 ≡ mask k (λ i. true) = first-is_mask k in let p = pow_pos k in rw pow-suc (omega arith)

pub bit-first : (k i : ℕ) → i < k → bit (first_bits k) i ≡ true
bit-first k i h = ap (λ (x : ℕ). bit x i) (first-is_mask k) ∙ bit_mask k (λ j. true) i h

pub first-lt : (k : ℕ) → first_bits k < 2 ^ k
unfolding first_bits
first-lt k = omega (arith, pow_pos k)

-- `v <= first_bits k`
pub first-test : (v k : ℕ) → leb v (first_bits k) ≡ ltb v (2 ^ k)
unfolding first_bits
first-test v k = let p = pow_pos k in same_test
    (λ t. let h = leb-true v (2 ^ k - 1) t in lt-ltb v (2 ^ k) (omega arith))
    (λ t. let h = ltb-true v (2 ^ k) t in le-leb v (2 ^ k - 1) (omega arith))

-- ---- a set moved by r within words of 64

pub bit-mod : (v k i : ℕ) → i < k → bit (v % 2 ^ k) i ≡ bit v i
unfolding bit
bit-mod v k i h =
    let e : k ≡ (k - i - 1 + 1) + i = omega arith in
    rw (e, field v (k - i - 1 + 1) i) (ap (λ (x : ℕ). eqb x 1) (mod-mod-pow (v / 2 ^ i) (k - i - 1) 1))

-- `v << r`: what stays in the word
pub shl_bit : (v r o : ℕ) → r + o < 64 → bit (v * 2 ^ r % 2 ^ 64) (r + o) ≡ bit v o
unfolding bit
shl_bit v r o h = bit-mod (v * 2 ^ r) 64 (r + o) h ∙ rw (← shr-shr (v * 2 ^ r) r o, shl-shr v r)

-- `(v >> 1) >> (63 - r)`: what goes to the next word
pub shr_bit : (v r o : ℕ) → r < 64 → 64 ≤ r + o → bit (v / 2 ^ 1 / 2 ^ (63 - r)) (r + o - 64) ≡ bit v o
unfolding bit
shr_bit v r o l h =
    let e : 1 + ((63 - r) + (r + o - 64)) ≡ o = omega arith in
    rw (shr-shr (v / 2 ^ 1) (63 - r) (r + o - 64), shr-shr v 1 ((63 - r) + (r + o - 64)), e)
