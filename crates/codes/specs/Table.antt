-- The table of 256 entries that codes are computed with.
use Rattle.std.specs.Prelude.{cond, List, ℕ, zero, suc, ◌+◌}
use Rattle.std.specs.Int.Bits.{bit_xor}
use Rattle.prelude.specs.Scan.{tab}
use Rattle.prelude.specs.Bits.{bit}
use Rattle.codes.specs.Code.{odd}

-- the exclusive-or of the positions below n of a byte's set bits
unfoldable pub positions : ℕ → ℕ → ℕ
positions zero b = 0
positions (suc n) b = bit_xor (positions n b) (cond (bit b n) n 0)

-- a byte's entry: "each byte's parity in bit 3 and the exclusive-or of its set bits' positions in bits 0 to 2"
unfoldable pub entry_of : ℕ → ℕ
entry_of b = cond (odd 8 (bit b)) 8 0 + positions 8 b

-- "a table of 256 entries"
unfoldable pub entries : List ℕ
entries = tab 256 entry_of
