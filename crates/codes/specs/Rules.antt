-- The rules of request A6 a second time, in another form than their definitions: how codes change, bit by bit, and which difference is read
-- how. `proofs/Rules` proves each.
use Rattle.std.specs.Prelude.{◌≡◌, ◌≢◌, ◌⊎◌, true, false, not, List, ℕ, ◌+◌, ◌*◌, ◌/◌, ◌%◌, ◌^◌, ◌<◌, length, get_or, replicate}
use Rattle.std.specs.Int.Bits.{bit_xor}
use Rattle.prelude.specs.Bits.{bit}
use Rattle.prelude.specs.Pages.{page_at}
use Rattle.codes.specs.Code.{code_of, codes_of}
use Rattle.codes.specs.Table.{entry_of}
use Rattle.codes.specs.Reading.{flipped, legible, mended, differs, code_at, page_legible, page_mended, page_mends, Bytes}

-- the code bit of pair i that tells of address a: 2i + bit i of a
abbrev pub teller : ℕ → ℕ → ℕ
teller a i = i * 2 + a / 2 ^ i % 2

-- from c to c' code bit j turns, and no other
pub record OneTurns (c c' j : ℕ) : Type 0 where
  pub turns : bit c' j ≡ not (bit c j)
  pub others : (k : ℕ) → k < 24 → k ≢ j → bit c' k ≡ bit c k

-- from c to c' the code bits that tell of address a turn, one of each pair, and no others
pub record TellersTurn (c c' a : ℕ) : Type 0 where
  pub turn : (i : ℕ) → i < 11 → bit c' (teller a i) ≡ not (bit c (teller a i))
  pub others : (k : ℕ) → k < 24 → ((i : ℕ) → i < 11 → k ≢ teller a i) → bit c' k ≡ bit c k

-- ---- codes. The first two fix the code of any chunk of bytes: it is zeros with some bits flipped.

-- A chunk of zeros has a code of 24 ones.
abbrev pub ZerosRule : Type 0
ZerosRule = code_of (replicate 256 0) ≡ 16777215

-- Flipping the data bit at address a turns code bits 2i + bit i of a, and no others.
abbrev pub DataFlipRule : Type 0
DataFlipRule = (d : List ℕ) (a : ℕ) → length d ≡ 256 → a < 2048 → TellersTurn (code_of d) (code_of (flipped d a)) a

-- Flipping code bit j turns bit j alone.
abbrev pub CodeFlipRule : Type 0
CodeFlipRule = (c j : ℕ) → OneTurns c (bit_xor c (2 ^ j)) j

-- The three bytes from 3i on among a page's codes are chunk i's code, low byte first.
pub record CodesRule (m : ℕ) (page : List ℕ) : Type 0 where
  pub long : length (codes_of m page) ≡ m * 3
  pub bytes : Bytes (codes_of m page)
  pub each : (i : ℕ) → i < m → let at = get_or (codes_of m page) in
      at (i * 3) 0 + at (i * 3 + 1) 0 * 256 + at (i * 3 + 2) 0 * 65536 ≡ code_of (page_at 256 page i)

-- A byte's entry is 0 for the byte 0, and setting or clearing bit q of a byte changes its entry by 8 and q, exclusive-or.
pub record TableRule : Type 0 where
  pub nothing : entry_of 0 ≡ 0
  pub one_more : (b q : ℕ) → b < 256 → q < 8 → entry_of (bit_xor b (2 ^ q)) ≡ bit_xor (entry_of b) (8 + q)

-- ---- reading a chunk d with a stored code c of 24 bits: three cases, of which always one and only one holds

-- the stored code is equal to the chunk's, or differs in just one bit
abbrev pub Leaves : List ℕ → ℕ → Type 0
Leaves d c = (c ≡ code_of d) ⊎ ((j : ℕ) × (j < 24) × OneTurns (code_of d) c j)

-- it differs as if the data bit at address a had flipped
abbrev pub Flips : List ℕ → ℕ → ℕ → Type 0
Flips d c a = (a < 2048) × TellersTurn (code_of d) c a

-- In the first case the data are left.
abbrev pub LeavesRule : Type 0
LeavesRule = (d : List ℕ) (c : ℕ) → Leaves d c → (legible d c ≡ true) × (mended d c ≡ d)

-- In the second the addressed data bit is flipped.
abbrev pub FlipsRule : Type 0
FlipsRule = (d : List ℕ) (c a : ℕ) → Flips d c a → (legible d c ≡ true) × (mended d c ≡ flipped d a)

-- In any other case the chunk is unreadable.
abbrev pub UnreadableRule : Type 0
UnreadableRule = (d : List ℕ) (c : ℕ) → c < 2 ^ 24 → (Leaves d c → ⊥) → ((a : ℕ) → Flips d c a → ⊥) → legible d c ≡ false

-- The first two cases exclude each other.
abbrev pub ApartRule : Type 0
ApartRule = (d : List ℕ) (c a : ℕ) → Leaves d c → Flips d c a → ⊥

-- A chunk counts as mended where the stored code is not equal to its own, and only there.
pub record MendsRule (d : List ℕ) (c : ℕ) : Type 0 where
  pub equal : c ≡ code_of d → differs d c ≡ false
  pub other : c < 2 ^ 24 → c ≢ code_of d → differs d c ≡ true

-- ---- reading a page

-- A page can be read where each of its chunks can, chunk i is read as it is alone, and an unreadable page has no mends.
pub record PageRule (m : ℕ) (page codes : List ℕ) : Type 0 where
  pub can : ((i : ℕ) → i < m → legible (page_at 256 page i) (code_at codes i) ≡ true) → page_legible m page codes ≡ true
  pub cannot : (i : ℕ) → i < m → legible (page_at 256 page i) (code_at codes i) ≡ false → page_legible m page codes ≡ false
  pub each : length page ≡ m * 256 → (i : ℕ) → i < m
      → page_at 256 (page_mended m page codes) i ≡ mended (page_at 256 page i) (code_at codes i)
  pub none : page_legible m page codes ≡ false → page_mends m page codes ≡ 0
