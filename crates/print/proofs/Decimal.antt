-- Laws of numbers in decimal.
use mathlib.Core.Path.{◌≡◌, refl, sym, ap, ◌∙◌}
use mathlib.Core.List.{List, [], ◌∷◌, ◌++◌}
use Prim.Native.Nat.{ℕ, zero, suc, ◌+◌, ◌/◌, ◌^◌, ◌≤◌, ◌<◌}
use native.Mathlib.Omega.{arith}
use native.Mathlib.Nat.{pow-suc}
use lib.Dec.{ltb}
use lib.ListN.{length, length-append}
use borrow.Author.Tests.{lt-ltb, le-ltb, ltb-true, ltb-false}
use Rattle.prelude.proofs.Tests.{by-test}
use Rattle.print.specs.Text.{last_digit, digits, decimal}

digits-one : (c n : ℕ) → n < 10 → digits c n ≡ last_digit n ∷ []
unfolding digits
digits-one zero n h = refl
digits-one (suc c) n h = rw (lt-ltb n 10 h, digits)

digits_more : (c n : ℕ) → 10 ≤ n → digits (suc c) n ≡ digits c (n / 10) ++ (last_digit n ∷ [])
unfolding digits
digits_more c n h = rw (le-ltb n 10 h, digits)

-- it does not matter how many more digits than enough are looked at
digits-enough : (c d n : ℕ) → n ≤ c → n ≤ d → digits c n ≡ digits d n
digits-enough zero d n h k = digits-one 0 n (omega arith) ∙ sym (digits-one d n (omega arith))
digits-enough (suc c) zero n h k = digits-one (suc c) n (omega arith) ∙ sym (digits-one 0 n (omega arith))
digits-enough (suc c) (suc d) n h k = by-test (ltb n 10)
    (λ e. let small : n < 10 = ltb-true n 10 e in digits-one (suc c) n small ∙ sym (digits-one (suc d) n small))
    (λ e. let large : 10 ≤ n = ltb-false n 10 e in
    digits_more c n large ∙ ap (λ (l : List ℕ). l ++ (last_digit n ∷ [])) (digits-enough c d (n / 10) (omega arith) (omega arith))
    ∙ sym (digits_more d n large))

pub decimal-one : (n : ℕ) → n < 10 → decimal n ≡ last_digit n ∷ []
unfolding decimal
decimal-one n h = digits-one n n h

more : (c n : ℕ) → n ≤ c → 10 ≤ n → digits c n ≡ digits (n / 10) (n / 10) ++ (last_digit n ∷ [])
more zero n h k = absurd (omega arith)
more (suc c) n h k = digits_more c n k ∙ ap (λ (l : List ℕ). l ++ (last_digit n ∷ []))
    (digits-enough c (n / 10) (n / 10) (omega arith) (omega arith))

pub decimal-more : (n : ℕ) → 10 ≤ n → decimal n ≡ decimal (n / 10) ++ (last_digit n ∷ [])
unfolding decimal
decimal-more n h = more n n (omega arith) h

pub length-one : (n : ℕ) → n < 10 → length (decimal n) ≡ 1
length-one n h = ap length (decimal-one n h)

pub length_more : (n : ℕ) → 10 ≤ n → length (decimal n) ≡ length (decimal (n / 10)) + 1
length_more n h = ap length (decimal-more n h) ∙ length-append (decimal (n / 10)) _

-- a number below ten to the c + 1 has at most c + 1 digits
pub decimal-short : (c n : ℕ) → n < 10 ^ suc c → length (decimal n) ≤ suc c
decimal-short zero n h = let z = length-one n h in omega arith
decimal-short (suc c) n h = by-test (ltb n 10)
    (λ e. let z = length-one n (ltb-true n 10 e) in omega arith)
    (λ e.
    let z = length_more n (ltb-false n 10 e) in
    let p = pow-suc 10 (suc c) in
    let r = decimal-short c (n / 10) (omega arith) in
    omega arith)

-- a number of 32 bits has at most ten
pub decimal-word : (n : ℕ) → n < 2 ^ 32 → length (decimal n) ≤ 10
decimal-word n h = decimal-short 9 n (omega arith)
