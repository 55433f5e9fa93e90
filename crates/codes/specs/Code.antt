-- The code of a chunk of 256 bytes, 24 bits that tell of a flipped bit, and the codes of a page (request A6).
use Rattle.std.specs.Prelude.{Bool, not, ◌&&◌, ◌||◌, List, ℕ, ◌*◌, ◌/◌, ◌%◌, ◌^◌, eqb, leb, get_or}
use Rattle.prelude.specs.Scan.{count, tab}
use Rattle.prelude.specs.Bits.{bit, mask}
use Rattle.prelude.specs.Pages.{page_at}

-- the parity: whether an odd number of the numbers below n pass
unfoldable pub odd : ℕ → (ℕ → Bool) → Bool
odd n p = eqb (count n p % 2) 1

-- the data bit at address a: "a bit's address is byte index × 8 + bit index"
unfoldable pub bit_at : List ℕ → ℕ → Bool
bit_at d a = bit (get_or d (a / 8) 0) (a % 8)

-- "code bit 2i is the inverted parity of the set data bits whose address bit i is 0, bit 2i+1 of those where it is 1; bits 22 and 23 are 1"
unfoldable pub code_bit : List ℕ → ℕ → Bool
code_bit d j = leb 22 j || not (odd 2048 (λ a. bit_at d a && eqb (a / 2 ^ (j / 2) % 2) (j % 2)))

-- the code of a chunk as a number of 24 bits
unfoldable pub code_of : List ℕ → ℕ
code_of d = mask 24 (code_bit d)

-- the codes of a page of m chunks, "3 bytes per 256-byte chunk", "low byte first"
unfoldable pub codes_of : ℕ → List ℕ → List ℕ
codes_of m page = tab (m * 3) (λ k. code_of (page_at 256 page (k / 3)) / 256 ^ (k % 3) % 256)
