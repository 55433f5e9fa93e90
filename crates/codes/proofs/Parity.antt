-- Laws of exclusive-or and parity.
use mathlib.Core.Path.{◌≡◌, refl, sym, ap, ap₂, ◌∙◌}
use mathlib.Core.Bool.{Bool, true, false, not, cond, ◌&&◌, xor, and_comm}
use Prim.Native.Nat.{ℕ, zero, suc, ◌+◌, ◌*◌, ◌/◌, ◌%◌, ◌^◌, ◌<◌}
use native.Mathlib.Nat.{add-zero, zero-add, suc-mul, zero-mul, mod-lt, zero-lt-suc, add-suc}
use native.Mathlib.Omega.{arith}
use lib.Dec.{eqb}
use lib.Arith.{digits_mod}
use lib.Bits.{bit_xor, xor_step, xor_shr, differ}
use borrow.Author.Tests.{eqb-true, eqb-false, eq-eqb, ne_eqb}
use Rattle.prelude.specs.Scan.{count}
use Rattle.prelude.specs.Bits.{bit}
use Rattle.prelude.proofs.Tests.{by-test}
use Rattle.prelude.proofs.Scan.{count_same, count_none}
use Rattle.codes.specs.Code.{odd}

-- ---- exclusive-or

pub xor_assoc : (a b c : Bool) → xor (xor a b) c ≡ xor a (xor b c)
unfolding xor
xor_assoc true true true = refl
xor_assoc true true false = refl
xor_assoc true false true = refl
xor_assoc true false false = refl
xor_assoc false true true = refl
xor_assoc false true false = refl
xor_assoc false false true = refl
xor_assoc false false false = refl

pub xor_comm : (a b : Bool) → xor a b ≡ xor b a
unfolding xor
xor_comm true true = refl
xor_comm true false = refl
xor_comm false true = refl
xor_comm false false = refl

pub xor-false : (a : Bool) → xor a false ≡ a
unfolding xor
xor-false true = refl
xor-false false = refl

pub false-xor : (a : Bool) → xor false a ≡ a
unfolding xor
false-xor true = refl
false-xor false = refl

pub xor-true : (a : Bool) → xor a true ≡ not a
unfolding xor
xor-true true = refl
xor-true false = refl

pub xor_self : (a : Bool) → xor a a ≡ false
unfolding xor
xor_self true = refl
xor_self false = refl

pub xor-back : (a b : Bool) → xor a (xor a b) ≡ b
xor-back a b = rw (← xor_assoc a a b, xor_self a) (false-xor b)

pub xor-swap : (a b c d : Bool) → xor (xor a b) (xor c d) ≡ xor (xor a c) (xor b d)
xor-swap a b c d = xor_assoc a b (xor c d) ∙ ap (xor a) (sym (xor_assoc b c d) ∙ ap (λ (x : Bool). xor x d) (xor_comm b c)
    ∙ xor_assoc c b d) ∙ sym (xor_assoc a c (xor b d))

pub and_xor : (a b c : Bool) → (xor a b && c) ≡ xor (a && c) (b && c)
unfolding xor
and_xor true true true = refl
and_xor true true false = refl
and_xor true false true = refl
and_xor true false false = refl
and_xor false true true = refl
and_xor false true false = refl
and_xor false false true = refl
and_xor false false false = refl

-- ---- parity

pub odd-zero : (p : ℕ → Bool) → odd 0 p ≡ false
unfolding odd count
odd-zero p = refl

odd-more : (b : Bool) (k : ℕ) → eqb ((cond b 1 0 + k) % 2) 1 ≡ xor (eqb (k % 2) 1) b
odd-more true k = by-test (eqb (k % 2) 1)
    (λ t. let h = eqb-true (k % 2) 1 t in rw (t, ne_eqb ((1 + k) % 2) 1 (λ e. omega arith)) (sym (xor_self true)))
    (λ t. let h = eqb-false (k % 2) 1 t in rw (t, eq-eqb ((1 + k) % 2) 1 (omega arith)) (sym (false-xor true)))
odd-more false k = rw zero-add (sym (xor-false (eqb (k % 2) 1)))

pub odd-suc : (n : ℕ) (p : ℕ → Bool) → odd (suc n) p ≡ xor (odd n p) (p n)
unfolding odd count
odd-suc n p = odd-more (p n) (count n p)

pub odd-same : (n : ℕ) (p q : ℕ → Bool) → ((j : ℕ) → j < n → p j ≡ q j) → odd n p ≡ odd n q
unfolding odd
odd-same n p q h = ap (λ (x : ℕ). eqb (x % 2) 1) (count_same n p q h)

pub odd-none : (n : ℕ) (p : ℕ → Bool) → ((j : ℕ) → j < n → p j ≡ false) → odd n p ≡ false
unfolding odd
odd-none n p h = ap (λ (x : ℕ). eqb (x % 2) 1) (count_none n p h)

pub odd-xor : (n : ℕ) (p q : ℕ → Bool) → odd n (λ i. xor (p i) (q i)) ≡ xor (odd n p) (odd n q)
odd-xor zero p q = rw (odd-zero p, odd-zero q, odd-zero (λ i. xor (p i) (q i))) (sym (xor_self false))
odd-xor (suc n) p q = odd-suc n (λ i. xor (p i) (q i)) ∙ ap (λ (x : Bool). xor x (xor (p n) (q n))) (odd-xor n p q)
    ∙ xor-swap (odd n p) (odd n q) (p n) (q n) ∙ sym (ap₂ xor (odd-suc n p) (odd-suc n q))

pub odd-and : (n : ℕ) (p : ℕ → Bool) (b : Bool) → odd n (λ i. p i && b) ≡ (odd n p && b)
odd-and n p true = odd-same n (λ i. p i && true) p (λ j l. and_comm (p j) true) ∙ and_comm true (odd n p)
odd-and n p false = odd-none n (λ i. p i && false) (λ j l. and_comm (p j) false) ∙ and_comm false (odd n p)

-- one only
pub odd-one : (n a : ℕ) (p : ℕ → Bool) → a < n → ((j : ℕ) → j < n → eqb j a ≡ false → p j ≡ false) → odd n p ≡ p a
odd-one zero a p l h = absurd (omega arith)
odd-one (suc n) a p l h = odd-suc n p ∙ by-test (eqb a n)
    (λ t. let e = eqb-true a n t in ap (λ (x : Bool). xor x (p n))
    (odd-none n p (λ j jl. h j (omega arith) (ne_eqb j a (λ q. omega arith)))) ∙ false-xor (p n) ∙ ap p (sym e))
    (λ t. let e = eqb-false a n t in ap (xor (odd n p)) (h n (omega arith) (ne_eqb n a (λ q. omega arith))) ∙ xor-false (odd n p)
    ∙ odd-one n a p (omega arith) (λ j jl. h j (omega arith)))

pub odd-add : (n m : ℕ) (p : ℕ → Bool) → odd (n + m) p ≡ xor (odd n p) (odd m (λ i. p (n + i)))
odd-add n zero p = rw (add-zero n, odd-zero (λ i. p (n + i))) (sym (xor-false (odd n p)))
odd-add n (suc m) p = ap (λ (k : ℕ). odd k p) (add-suc n m) ∙ odd-suc (n + m) p ∙ ap (λ (x : Bool). xor x (p (n + m))) (odd-add n m p)
    ∙ xor_assoc (odd n p) (odd m (λ i. p (n + i))) (p (n + m)) ∙ ap (xor (odd n p)) (sym (odd-suc m (λ i. p (n + i))))

-- in rows of k
pub odd-rows : (n k : ℕ) (p : ℕ → Bool) → odd (n * k) p ≡ odd n (λ i. odd k (λ j. p (i * k + j)))
odd-rows zero k p = ap (λ (x : ℕ). odd x p) (zero-mul k) ∙ odd-zero p ∙ sym (odd-zero (λ i. odd k (λ j. p (i * k + j))))
odd-rows (suc n) k p = ap (λ (x : ℕ). odd x p) (suc-mul n k) ∙ odd-add (n * k) k p
    ∙ ap (λ (x : Bool). xor x (odd k (λ i. p (n * k + i)))) (odd-rows n k p) ∙ sym (odd-suc n (λ i. odd k (λ j. p (i * k + j))))

-- by rows or by columns
pub odd-swap : (n k : ℕ) (p : ℕ → ℕ → Bool) → odd n (λ i. odd k (p i)) ≡ odd k (λ j. odd n (λ i. p i j))
odd-swap zero k p = odd-zero (λ i. odd k (p i)) ∙ sym (odd-none k (λ j. odd 0 (λ i. p i j)) (λ j l. odd-zero (λ i. p i j)))
odd-swap (suc n) k p = odd-suc n (λ i. odd k (p i)) ∙ ap (λ (x : Bool). xor x (odd k (p n))) (odd-swap n k p)
    ∙ sym (odd-xor k (λ j. odd n (λ i. p i j)) (p n)) ∙ odd-same k (λ j. xor (odd n (λ i. p i j)) (p n j)) (λ j. odd (suc n) (λ i. p i j))
    (λ j l. sym (odd-suc n (λ i. p i j)))

-- ---- bits of an exclusive-or

differ-bit : (x y : ℕ) → x < 2 → y < 2 → (differ x y < 2) × (eqb (differ x y) 1 ≡ xor (eqb x 1) (eqb y 1))
unfolding xor
differ-bit zero zero a b = (omega arith, refl)
differ-bit zero (suc zero) a b = (omega arith, refl)
differ-bit (suc zero) zero a b = (omega arith, refl)
differ-bit (suc zero) (suc zero) a b = (omega arith, refl)
differ-bit zero (suc (suc y)) a b = absurd (omega arith)
differ-bit (suc zero) (suc (suc y)) a b = absurd (omega arith)
differ-bit (suc (suc x)) y a b = absurd (omega arith)

pub bit-xor : (a b i : ℕ) → bit (bit_xor a b) i ≡ xor (bit a i) (bit b i)
unfolding bit
bit-xor a b i = let h = differ-bit (a / 2 ^ i % 2) (b / 2 ^ i % 2) (mod-lt (a / 2 ^ i) (zero-lt-suc 1))
    (mod-lt (b / 2 ^ i) (zero-lt-suc 1)) in
    ap (λ (t : ℕ). eqb (t % 2) 1) (xor_shr a b i ∙ xor_step (a / 2 ^ i) (b / 2 ^ i)) ∙ ap (λ (t : ℕ). eqb t 1) (digits_mod _ h.0) ∙ h.1
