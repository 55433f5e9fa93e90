-- The tests of a difference, as code makes them.
use mathlib.Core.Path.{◌≡◌, refl, sym, ap, ap₂, ◌∙◌}
use mathlib.Core.Bool.{Bool, true, false, xor}
use Prim.Native.Nat.{ℕ, ◌+◌, ◌*◌, ◌%◌, ◌^◌, ◌≤◌, ◌<◌}
use native.Mathlib.Nat.{add_comm, zero-add, one-mul, pow-suc}
use native.Mathlib.Numerals.{add-one}
use native.Mathlib.Omega.{arith}
use lib.Pow.{shl_exact, pow_mono}
use Rattle.prelude.specs.Bits.{bit, mask}
use Rattle.prelude.proofs.Bits.{mask_lt, ones-count}
use Rattle.prelude.proofs.Scan.{all_none, all_end}
use Rattle.codes.specs.Reading.{addressed}

-- one of pair i
abbrev pub pair_at : ℕ → ℕ → Bool
pair_at x i = xor (bit x (i * 2)) (bit x (i * 2 + 1))

-- the odd one of pair i
abbrev pub odd_one : ℕ → ℕ → Bool
odd_one x i = bit x (i * 2 + 1)

-- `1 << i` at 8 bits
pub shl_byte : (i : ℕ) → i < 8 → 1 * 2 ^ i % 2 ^ 8 ≡ 2 ^ i
shl_byte i h = shl_exact {a = 1} 1 i 8 (omega arith) (omega arith) ∙ one-mul (2 ^ i)

-- ---- the address by its bits, in ascending order

module _ (x : ℕ) where
  -- a has the bits below i of the address that x names, and p is the weight of bit i
  pub record Naming (i p a : ℕ) : Type 0 where
    pub weight : p ≡ 2 ^ i
    pub bits : a ≡ mask i (odd_one x)

  pub name_start : Naming 0 1 0
  unfolding mask
  name_start = record { weight = refl; bits = refl }

  -- so that nothing overflows
  pub name_bound : {i p a : ℕ} → i < 11 → Naming i p a → (p ≤ 1024) × (a < 1024)
  name_bound {i} {p} {a} l h = let w = h.weight in let b = h.bits in let m = mask_lt i (odd_one x) in
      let q : 2 ^ i ≤ 1024 = pow_mono {i = i} {j = 10} (omega arith) in (omega arith, omega arith)

  module _ {i p a : ℕ} (l : i < 11) (h : Naming i p a) where
    doubled : p * 2 ≡ 2 ^ (i + 1)
    doubled = ap (λ (k : ℕ). k * 2) h.weight ∙ sym (ap (λ (k : ℕ). 2 ^ k) (add-one i) ∙ pow-suc 2 i)

    pub name_hit : odd_one x i ≡ true → Naming (i + 1) (p * 2) (a + p)
    unfolding mask
    name_hit t = record {
      weight = doubled;
      bits = ap₂ (λ (m n : ℕ). m + n) h.bits h.weight ∙ rw (add-one i, t) (add_comm (mask i (odd_one x)) (2 ^ i));
    }

    pub name_miss : odd_one x i ≡ false → Naming (i + 1) (p * 2) a
    unfolding mask
    name_miss t = record { weight = doubled; bits = h.bits ∙ rw (add-one i, t) (sym (zero-add (mask i (odd_one x)))) }

  pub name_end : {i p a : ℕ} → i ≡ 11 → Naming i p a → (a ≡ addressed x) × (a < 2048)
  unfolding addressed
  name_end {i} {p} {a} l h = let e : a ≡ mask 11 (odd_one x) = h.bits ∙ ap (λ (k : ℕ). mask k (odd_one x)) l in
      (e, rw e (mask_lt 11 (odd_one x)))

-- what the tests of a difference are proved by
pub ruleset ones = (ones-count)

pub ruleset pairing = (all_none, all_end)
