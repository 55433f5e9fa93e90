-- Request A9 said a second time, as laws: sheets on pages, which sheets count, numbers, positions and pages. `proofs/Rules` proves each.
use Rattle.std.specs.Prelude.{◌≡◌, ◌⊎◌, List, ℕ, ◌+◌, ◌*◌, ◌≤◌, ◌<◌, length, get_or}
use Rattle.prelude.specs.Scan.{count}
use Rattle.prelude.specs.Rules.{Upward}
use Rattle.runs.specs.Sheet.{Sheet, numbers, sheet_of, page_of, is_empty, Words}
use Rattle.runs.specs.Runs.{run_at, counts, find, known, first_empty, largest, full, position}
use Rattle.runs.specs.Ranges.{overlaps, taken, range_ok, index_ok}
use Rattle.runs.specs.RulesWords.{Tests, InUse, StandsOn, Counts, Among, Has, Full, FirstEmpty, LargestIs, RangeFits}

-- ---- sheets on pages

-- four bytes of a page from byte i on, as a number, low byte first
abbrev pub four_bytes : List ℕ → ℕ → ℕ
four_bytes p i = get_or p i 0 + get_or p (i + 1) 0 * 256 + get_or p (i + 2) 0 * 65536 + get_or p (i + 3) 0 * 16777216

-- Number k of the sheet on a page is the four bytes from 4k on.
abbrev pub SheetRule : Type 0
SheetRule = (p : List ℕ) (k : ℕ) → k < 7 → get_or (numbers (sheet_of p)) k 0 ≡ four_bytes p (k * 4)

-- The page of a sheet: S bytes, the four from 4k on number k of the sheet, and 0 from byte 28 on.
pub record PageRule (S : ℕ) (s : Sheet) : Type 0 where
  pub long : length (page_of S s) ≡ S
  pub bytes : (j : ℕ) → get_or (page_of S s) j 0 < 256
  pub each : 28 ≤ S → Words s → (k : ℕ) → k < 7 → four_bytes (page_of S s) (k * 4) ≡ get_or (numbers s) k 0
  pub rest : (j : ℕ) → 28 ≤ j → get_or (page_of S s) j 0 ≡ 0

-- Reading back the page of a sheet gives the sheet.
abbrev pub ReadBackRule : Type 0
ReadBackRule = (S : ℕ) (s : Sheet) → 28 ≤ S → Words s → sheet_of (page_of S s) ≡ s

-- The sheet on any page of bytes has 32-bit numbers.
abbrev pub WordsRule : Type 0
WordsRule = (p : List ℕ) → ((j : ℕ) → get_or p j 0 < 256) → Words (sheet_of p)

-- Run 0 or 4,294,967,295 is an empty sheet.
abbrev pub EmptyRule : Type 0
EmptyRule = (s : Sheet) → Tests (is_empty s) ((s.run ≡ 0) ⊎ (s.run ≡ 4294967295))

-- ---- runs

-- Of equal run numbers the first sheet counts.
abbrev pub CountsRule : Type 0
CountsRule = (ss : List Sheet) (i : ℕ) → Tests (counts ss i) (Counts ss i)

-- A run is found on the sheet that it stands on,
abbrev pub FindRule : Type 0
FindRule = (c : ℕ) (ss : List Sheet) (r i : ℕ) → i < c → StandsOn ss r i → find c ss r ≡ i

-- and nowhere where no sheet in use has its number.
abbrev pub FindNoneRule : Type 0
FindNoneRule = (c : ℕ) (ss : List Sheet) (r : ℕ) → ((i : ℕ) → i < c → InUse ss i → run_at ss i ≡ r → ⊥) → find c ss r ≡ c

-- So it is known exactly where it stands on a sheet.
abbrev pub KnownRule : Type 0
KnownRule = (c : ℕ) (ss : List Sheet) (r : ℕ) → Tests (known c ss r) ((i : ℕ) × (i < c) × StandsOn ss r i)

-- The first empty sheet: it is empty, and none before it is.
abbrev pub FirstEmptyRule : Type 0
FirstEmptyRule = (c : ℕ) (ss : List Sheet) (i : ℕ) → FirstEmpty c ss i → first_empty c ss ≡ i

-- The largest number in use: no sheet in use has a larger one, and one has it, unless it is 0.
abbrev pub LargestRule : Type 0
LargestRule = (c : ℕ) (ss : List Sheet) (l : ℕ) → LargestIs c ss l → largest c ss ≡ l

-- There is always one.
abbrev pub LargestIsRule : Type 0
LargestIsRule = (c : ℕ) (ss : List Sheet) → LargestIs c ss (largest c ss)

-- Full: no empty sheet, or the largest number is 4,294,967,294.
abbrev pub FullRule : Type 0
FullRule = (c : ℕ) (ss : List Sheet) → Tests (full c ss) (Full c ss)

-- The positions from 0 on are the sheets that count, upward and none left out;
abbrev pub PositionRule : Type 0
PositionRule = (c : ℕ) (ss : List Sheet) → Upward c (counts ss) (count c (counts ss)) (position c ss)

-- past the last there is none.
abbrev pub PositionPastRule : Type 0
PositionPastRule = (c : ℕ) (ss : List Sheet) (n : ℕ) → count c (counts ss) ≤ n → position c ss n ≡ c

-- ---- pages

-- Two ranges overlap exactly where a page is among both.
abbrev pub OverlapsRule : Type 0
OverlapsRule = (a n b m : ℕ) → Tests (overlaps a n b m) ((p : ℕ) × Among a n p × Among b m p)

-- Pages are taken exactly where a run has one of them.
abbrev pub TakenRule : Type 0
TakenRule = (c : ℕ) (ss : List Sheet) (f n : ℕ) → Tests (taken c ss f n) ((i p : ℕ) × (i < c) × Has ss i p × Among f n p)

-- The pages of a run to be added: at least 1, from c to the last, none of them another run's.
abbrev pub RangeRule : Type 0
RangeRule = (c : ℕ) (ss : List Sheet) (pages f n : ℕ) → Tests (range_ok c ss pages f n) (RangeFits c ss pages f n)

-- The page of a run to be read, by its index: below the run's count, and a page from c to the last.
abbrev pub IndexRule : Type 0
IndexRule = (c pages : ℕ) (s : Sheet) (x : ℕ)
    → Tests (index_ok c pages s x) ((x < s.count) × (c ≤ s.first + x) × (s.first + x < pages))
