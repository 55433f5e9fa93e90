-- The words that the definitions are made of, said a second time: each by what it finds, and not by how it goes over the numbers.
use Rattle.std.specs.Prelude.{◌≡◌, Bool, true, false, List, [], ℕ, ◌+◌, ◌*◌, ◌^◌, ◌≤◌, ◌<◌, length, get_or}
use Rattle.prelude.specs.Scan.{first, count, all, nth, argmax, least, greatest, tab}
use Rattle.prelude.specs.Bits.{bit, mask}
use Rattle.prelude.specs.Pages.{page_at, laid, flat}

-- ---- scans

-- The first number below n that passes: it passes, and none before it does.
abbrev pub FirstRule : Type 0
FirstRule = (n : ℕ) (p : ℕ → Bool) (i : ℕ) → i < n → p i ≡ true → ((j : ℕ) → j < i → p j ≡ false) → first n p ≡ i

-- Where none passes it is n.
abbrev pub FirstNoneRule : Type 0
FirstNoneRule = (n : ℕ) (p : ℕ → Bool) → ((i : ℕ) → i < n → p i ≡ false) → first n p ≡ n

-- the c numbers below n that pass, upward: one for each index below c
pub record Upward (n : ℕ) (p : ℕ → Bool) (c : ℕ) (at : ℕ → ℕ) : Type 0 where
  pub within : (k : ℕ) → k < c → at k < n
  pub passing : (k : ℕ) → k < c → p (at k) ≡ true
  pub rising : (k l : ℕ) → k < l → l < c → at k < at l
  pub all_there : (i : ℕ) → i < n → p i ≡ true → (k : ℕ) × (k < c) × (at k ≡ i)

-- The count of the numbers that pass is how many there are in a row of them all; the row's entry k is the one with k of them below it.
abbrev pub CountRule : Type 0
CountRule = (n : ℕ) (p : ℕ → Bool) → Upward n p (count n p) (nth n p)

-- Two rows of the same numbers are equally long, so that nothing but the count fits.
abbrev pub CountOneRule : Type 0
CountOneRule = (n : ℕ) (p : ℕ → Bool) (c : ℕ) (at : ℕ → ℕ) → Upward n p c at → c ≡ count n p

-- All numbers below n pass where each does, and else not.
abbrev pub AllRule : Type 0
AllRule = (n : ℕ) (p : ℕ → Bool) → ((all n p ≡ true) → (i : ℕ) → i < n → p i ≡ true) × (((i : ℕ) → i < n → p i ≡ true) → all n p ≡ true)

-- The least index of the greatest value.
abbrev pub ArgmaxRule : Type 0
ArgmaxRule = (n : ℕ) (g : ℕ → ℕ) (i : ℕ) → i < n → ((j : ℕ) → j < n → g j ≤ g i) → ((j : ℕ) → j < i → g j < g i) → argmax n g ≡ i

-- The least value, where one is below d.
abbrev pub LeastRule : Type 0
LeastRule = (n : ℕ) (g : ℕ → ℕ) (d i : ℕ) → i < n → g i < d → ((j : ℕ) → j < n → g i ≤ g j) → least n g d ≡ g i

-- The greatest value.
abbrev pub GreatestRule : Type 0
GreatestRule = (n : ℕ) (g : ℕ → ℕ) (i : ℕ) → i < n → ((j : ℕ) → j < n → g j ≤ g i) → greatest n g ≡ g i

-- A table has n entries, entry i what the rule gives.
abbrev pub TabRule : Type 1
TabRule = (A : Type 0) (n : ℕ) (f : ℕ → A) (z : A) → (length (tab n f) ≡ n) × ((i : ℕ) → i < n → get_or (tab n f) i z ≡ f i)

-- ---- bits

-- Bit i of a number written in binary: what stands above it, the bit, and what stands below it.
abbrev pub BitRule : Type 0
BitRule = (above below i : ℕ) → below < 2 ^ i
    → (bit ((above * 2 + 1) * 2 ^ i + below) i ≡ true) × (bit (above * 2 * 2 ^ i + below) i ≡ false)

-- Every number is so written, at each i.
abbrev pub BitWholeRule : Type 0
BitWholeRule = (m i : ℕ) → (above digit below : ℕ) × (digit < 2) × (below < 2 ^ i) × (m ≡ (above * 2 + digit) * 2 ^ i + below)

-- The set of the numbers below n that pass has exactly their bits.
abbrev pub MaskRule : Type 0
MaskRule = (n : ℕ) (p : ℕ → Bool) → ((i : ℕ) → i < n → bit (mask n p) i ≡ p i) × ((i : ℕ) → n ≤ i → bit (mask n p) i ≡ false)

-- ---- pages

-- Byte j of page i of s bytes is byte i×s+j.
abbrev pub PageAtRule : Type 1
PageAtRule = (A : Type 0) (s : ℕ) (l : List A) (i : ℕ) (z : A) → i * s + s ≤ length l
    → (length (page_at s l i) ≡ s) × ((j : ℕ) → j < s → get_or (page_at s l i) j z ≡ get_or l (i * s + j) z)

-- Pages of s bytes joined: byte i×s+j is byte j of page i.
abbrev pub FlatRule : Type 1
FlatRule = (A : Type 0) (s : ℕ) (ps : List (List A)) (z : A) → ((i : ℕ) → i < length ps → length (get_or ps i []) ≡ s)
    → (length (flat ps) ≡ length ps * s)
    × ((i j : ℕ) → i < length ps → j < s → get_or (flat ps) (i * s + j) z ≡ get_or (get_or ps i []) j z)

-- Bytes laid into a page from byte first on: they stand there, and every other byte stays.
abbrev pub LaidRule : Type 1
LaidRule = (A : Type 0) (first : ℕ) (x l : List A) (z : A) → first + length x ≤ length l
    → (length (laid first x l) ≡ length l) × ((j : ℕ) → j < first → get_or (laid first x l) j z ≡ get_or l j z)
    × ((j : ℕ) → j < length x → get_or (laid first x l) (first + j) z ≡ get_or x j z)
    × ((j : ℕ) → first + length x ≤ j → get_or (laid first x l) j z ≡ get_or l j z)
