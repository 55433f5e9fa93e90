-- What request A14 asks to be shown of the figures, over whole numbers.
use Rattle.std.specs.Prelude.{◌≡◌, ℕ, ◌+◌, ◌*◌, ◌^◌, ◌<◌, ◌≤◌, List, length, pos, ◌-ℤ◌, unsigned_abs}
use Rattle.wear.specs.Figures.{wear_at, total, largest, squares, spread, erased_once}

-- T squared is at most N times the sum of squares: the spread is never negative, and its subtraction cuts nothing off.
abbrev pub NeverNegativeRule : Type 0
NeverNegativeRule = (l : List ℕ) → total l * total l ≤ length l * squares l

-- With at most 4,096 blocks of wear at most 1,000,000 each figure has 64 bits.
abbrev pub FitsRule : Type 0
FitsRule = (l : List ℕ) → length l ≤ 4096 → ((b : ℕ) → b < length l → wear_at l b ≤ 1000000)
    → (total l < 2 ^ 64) × (largest l < 2 ^ 64) × (spread l < 2 ^ 64)

-- One more erasure of a block with wear c changes the spread by N×(2c+1) - (2T+1),
abbrev pub ChangeRule : Type 0
ChangeRule = (l : List ℕ) (b : ℕ) → b < length l
    → pos (spread (erased_once l b)) -ℤ pos (spread l) ≡ pos (length l * (2 * wear_at l b + 1)) -ℤ pos (2 * total l + 1)

-- hence by at most N×(2L+1) either way.
abbrev pub ChangeAtMostRule : Type 0
ChangeAtMostRule = (l : List ℕ) (b : ℕ) → b < length l
    → unsigned_abs (pos (spread (erased_once l b)) -ℤ pos (spread l)) ≤ length l * (2 * largest l + 1)
