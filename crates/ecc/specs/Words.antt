-- How the code is computed: by words of 64 bits, and parities of words. What the functions that do so ask and give.
use Rattle.std.specs.Prelude.{◌≡◌, Bool, true, cond, ◌&&◌, List, ℕ, ◌+◌, ◌*◌, ◌<◌, ◌≤◌}
use Rattle.prelude.specs.Bits.{bit}
use Rattle.codes.specs.Code.{odd, bit_at}
use Rattle.ecc.specs.declared.words.Eight.{Eight}
use Rattle.ecc.specs.declared.words.Sums.{Sums}
use Rattle.ecc.specs.declared.parity.Inner.{Inner}

-- a test as a number
abbrev pub num : Bool → ℕ
num b = cond b 1 0

-- x is the 8 bytes of d from index i on, low byte first
abbrev pub Word : List ℕ → ℕ → ℕ → Type 0
Word d i x = (p : ℕ) → p < 64 → bit x p ≡ bit_at d (i * 8 + p)

-- bit by bit, x is the exclusive-or of those of the n words of d from word i on that pass
abbrev pub Sum : List ℕ → ℕ → ℕ → (ℕ → Bool) → ℕ → Type 0
Sum d i n q x = (p : ℕ) → p < 64 → bit x p ≡ odd n (λ w. bit_at d ((i + w) * 64 + p) && q w)

-- bit by bit, x is the exclusive-or of those of the 32 words of d that pass
abbrev pub Total : List ℕ → (ℕ → Bool) → ℕ → Type 0
Total d q x = (p : ℕ) → p < 64 → bit x p ≡ odd 32 (λ w. bit_at d (w * 64 + p) && q w)

-- the sums of 8 words: of all, and of those whose index has bit 0, 1, 2
pub record Eights (d : List ℕ) (i : ℕ) (r : Eight) : Type 0 where
  pub all : Sum d i 8 (λ w. true) r.all
  pub one : Sum d i 8 (λ w. bit w 0) r.one
  pub two : Sum d i 8 (λ w. bit w 1) r.two
  pub four : Sum d i 8 (λ w. bit w 2) r.four

-- the sums of a chunk's 32 words: of all, and of those whose index has bit 0 to 4
pub record Totals (d : List ℕ) (r : Sums) : Type 0 where
  pub all : Total d (λ w. true) r.all
  pub one : Total d (λ w. bit w 0) r.one
  pub two : Total d (λ w. bit w 1) r.two
  pub four : Total d (λ w. bit w 2) r.four
  pub eight : Total d (λ w. bit w 3) r.eight
  pub sixteen : Total d (λ w. bit w 4) r.sixteen

-- the parity of a word's set bits at positions that have bit i
unfoldable pub odd_at : ℕ → ℕ → Bool
odd_at x i = odd 64 (λ p. bit x p && bit p i)

-- a word's parity, and its parities at positions that have bit 0 to 5, as digits of base 4
pub record Inners (x : ℕ) (r : Inner) : Type 0 where
  pub parity : r.parity ≡ num (odd 64 (bit x))
  pub digits : r.digits ≡ num (odd_at x 0) + num (odd_at x 1) * 4 + num (odd_at x 2) * 16 + num (odd_at x 3) * 64 + num
      (odd_at x 4) * 256 + num (odd_at x 5) * 1024
  pub digits-high : r.digits ≤ 1365
