-- A set of numbers below 64 as one number: i is in the set where binary digit i is 1.
use Rattle.std.specs.Prelude.{Bool, not, cond, ◌&&◌, ℕ, zero, suc, ◌+◌, ◌-◌, ◌/◌, ◌%◌, ◌^◌, eqb}

-- i is in the set m
unfoldable pub bit : ℕ → ℕ → Bool
bit m i = eqb (m / 2 ^ i % 2) 1

-- i is in the set v and not in the set w
abbrev pub bit_without : ℕ → ℕ → ℕ → Bool
bit_without v w i = bit v i && not (bit w i)

-- the set of the numbers below n that pass
unfoldable pub mask : ℕ → (ℕ → Bool) → ℕ
mask zero p = 0
mask (suc n) p = cond (p n) (2 ^ n) 0 + mask n p

-- the set m with i
unfoldable pub with_bit : ℕ → ℕ → ℕ
with_bit m i = cond (bit m i) m (m + 2 ^ i)

-- the set of all numbers below k
unfoldable pub first_bits : ℕ → ℕ
first_bits k = 2 ^ k - 1
