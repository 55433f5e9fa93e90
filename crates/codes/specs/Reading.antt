-- How a chunk is read with the code stored for it, and a page of chunks with its codes; what flipped bits are.
use Rattle.std.specs.Prelude.{Bool, true, not, cond, ◌&&◌, ◌||◌, ◌≡◌, ◌⊎◌, List, ℕ, ◌+◌, ◌*◌, ◌/◌, ◌%◌, ◌^◌, ◌<◌, ◌≤◌, eqb, leb, ltb}
use Rattle.std.specs.Prelude.{get_or, set}
use Rattle.std.specs.Bool.{xor}
use Rattle.std.specs.Int.Bits.{bit_xor}
use Rattle.prelude.specs.Scan.{count, all, tab}
use Rattle.prelude.specs.Bits.{bit, mask}
use Rattle.prelude.specs.Pages.{page_at, flat}
use Rattle.codes.specs.Code.{bit_at, code_of}

-- ---- a chunk d with the code c stored for it

-- d with the data bit at address a flipped
unfoldable pub flipped : List ℕ → ℕ → List ℕ
flipped d a = set d (a / 8) (bit_xor (get_or d (a / 8) 0) (2 ^ (a % 8)))

-- "reading recomputes the code": the set of the bits in which it and the code stored differ
unfoldable pub difference : List ℕ → ℕ → ℕ
difference d c = bit_xor (code_of d) c

-- "equal, or differing in just one bit"
unfoldable pub leaves : ℕ → Bool
leaves x = leb (count 24 (bit x)) 1

-- "differing in exactly one bit of each of the 11 pairs, and nowhere else"
unfoldable pub pairs : ℕ → Bool
pairs x = (all 11 (λ i. xor (bit x (i * 2)) (bit x (i * 2 + 1))) && not (bit x 22)) && not (bit x 23)

-- "the addressed data bit": bit i of its address is 1 where code bit 2i+1 differs
unfoldable pub addressed : ℕ → ℕ
addressed x = mask 11 (λ i. bit x (i * 2 + 1))

-- the chunk can be read; "anything else is unreadable"
unfoldable pub legible : List ℕ → ℕ → Bool
legible d c = leaves (difference d c) || pairs (difference d c)

-- what is read then: the rule "leaves the data" or "flips the addressed data bit"
unfoldable pub mended : List ℕ → ℕ → List ℕ
mended d c = cond (leaves (difference d c)) d (flipped d (addressed (difference d c)))

-- a chunk that can be read is "mended, data or code" where the codes are not equal
unfoldable pub differs : List ℕ → ℕ → Bool
differs d c = not (eqb (difference d c) 0)

-- ---- a page of m chunks with the codes stored for it

-- the code of chunk i, "low byte first"
unfoldable pub code_at : List ℕ → ℕ → ℕ
code_at codes i = get_or codes (i * 3) 0 + get_or codes (i * 3 + 1) 0 * 256 + get_or codes (i * 3 + 2) 0 * 65536

-- the page can be read: each of its chunks can
unfoldable pub page_legible : ℕ → List ℕ → List ℕ → Bool
page_legible m page codes = all m (λ i. legible (page_at 256 page i) (code_at codes i))

-- what it is read as then
unfoldable pub page_mended : ℕ → List ℕ → List ℕ → List ℕ
page_mended m page codes = flat (tab m (λ i. mended (page_at 256 page i) (code_at codes i)))

-- how many chunks are mended: none of a page that is unreadable
unfoldable pub page_mends : ℕ → List ℕ → List ℕ → ℕ
page_mends m page codes = cond (page_legible m page codes) (count m (λ i. differs (page_at 256 page i) (code_at codes i))) 0

-- ---- flipped bits

-- how many bits of the chunk d with the code c are flipped in d' with c'
unfoldable pub flips : List ℕ → ℕ → List ℕ → ℕ → ℕ
flips d c d' c' = count 2048 (λ a. xor (bit_at d a) (bit_at d' a)) + count 24 (λ j. xor (bit c j) (bit c' j))

-- how many bits of chunk i of a page, with its code, are flipped
abbrev pub flips_at : List ℕ → List ℕ → List ℕ → List ℕ → ℕ → ℕ
flips_at page codes page' codes' i = flips (page_at 256 page i) (code_at codes i) (page_at 256 page' i) (code_at codes' i)

-- "at most one bit of any chunk with its code has flipped"
abbrev pub OneFlip : ℕ → List ℕ → List ℕ → List ℕ → List ℕ → Type 0
OneFlip m page codes page' codes' = (i : ℕ) → i < m → flips_at page codes page' codes' i ≤ 1

-- how many chunks have a flipped bit
unfoldable pub flipped_chunks : ℕ → List ℕ → List ℕ → List ℕ → List ℕ → ℕ
flipped_chunks m page codes page' codes' = count m (λ i. ltb 0 (flips_at page codes page' codes' i))

-- a list of bytes
abbrev pub Bytes : List ℕ → Type 0
Bytes l = (i : ℕ) → get_or l i 0 < 256

-- a page with its codes is as it was, or it is bytes of which "at most one bit of any chunk with its code has flipped"
abbrev pub FewFlips : ℕ → List ℕ → List ℕ → List ℕ → List ℕ → Type 0
FewFlips m page codes page' codes' = ((page' ≡ page) × (codes' ≡ codes))
    ⊎ (Bytes page × Bytes page' × Bytes codes' × OneFlip m page codes page' codes')

-- ---- what reading gives

-- the chunk d with the code c is read as `was`, and counts as mended or not
pub record ReadAs (d : List ℕ) (c : ℕ) (was : List ℕ) (mend : Bool) : Type 0 where
  pub can : legible d c ≡ true
  pub data_is : mended d c ≡ was
  pub counts : differs d c ≡ mend

-- the page with the codes is read as `was`, with a number of chunks mended
pub record PageReadAs (m : ℕ) (page codes was : List ℕ) (mends : ℕ) : Type 0 where
  pub can : page_legible m page codes ≡ true
  pub data_is : page_mended m page codes ≡ was
  pub mends-are : page_mends m page codes ≡ mends
