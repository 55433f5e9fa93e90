-- The words that the laws of the catalogue are said in. Each speaks of the sheets one by one, and not by the definitions' scans.
use Rattle.std.specs.Prelude.{◌≡◌, ◌⊎◌, Bool, true, List, ℕ, zero, suc, ◌+◌, ◌-◌, ◌≤◌, ◌<◌}
use Rattle.runs.specs.Sheet.{Sheet}
use Rattle.runs.specs.Runs.{sheet_at, run_at}

-- a test passes exactly where something holds
pub record Tests (b : Bool) (P : Type 0) : Type 0 where
  pub holds : b ≡ true → P
  pub passes : P → b ≡ true

-- sheet i is in use: its run number is neither 0 nor 4,294,967,295
abbrev pub InUse : List Sheet → ℕ → Type 0
InUse ss i = (run_at ss i ≡ 0 → ⊥) × (run_at ss i ≡ 4294967295 → ⊥)

-- run r stands on sheet i: it is in use with this number, and no sheet before it has the number
pub record StandsOn (ss : List Sheet) (r i : ℕ) : Type 0 where
  pub in_use : InUse ss i
  pub number : run_at ss i ≡ r
  pub none_before : (j : ℕ) → j < i → run_at ss j ≡ r → ⊥

-- sheet i counts: its run stands on it
abbrev pub Counts : List Sheet → ℕ → Type 0
Counts ss i = StandsOn ss (run_at ss i) i

-- page p is one of the n from f on
abbrev pub Among : ℕ → ℕ → ℕ → Type 0
Among f n p = (f ≤ p) × (p < f + n)

-- a run has page p: its sheet counts, and p is among its pages
abbrev pub Has : List Sheet → ℕ → ℕ → Type 0
Has ss i p = Counts ss i × Among (sheet_at ss i).first (sheet_at ss i).count p

-- sheet i replaces run r: it counts, it names r, and r is a number below its own
pub record Replaces (ss : List Sheet) (r i : ℕ) : Type 0 where
  pub counted : Counts ss i
  pub named : (sheet_at ss i).replaces ≡ r
  pub some-run : r ≡ 0 → ⊥
  pub below : r < run_at ss i

module _ (c : ℕ) (ss : List Sheet) where
  -- no sheet is empty, or the last number is in use
  abbrev pub Full : Type 0
  Full = ((i : ℕ) → i < c → InUse ss i) ⊎ ((i : ℕ) × (i < c) × InUse ss i × (4294967294 ≤ run_at ss i))

  -- sheet i is the first empty one
  abbrev pub FirstEmpty : ℕ → Type 0
  FirstEmpty i = (i < c) × (InUse ss i → ⊥) × ((j : ℕ) → j < i → InUse ss j)

  -- l is the largest number in use: 0 where there is none
  pub record LargestIs (l : ℕ) : Type 0 where
    pub greatest : (i : ℕ) → i < c → InUse ss i → run_at ss i ≤ l
    pub found : (0 < l) → (i : ℕ) × (i < c) × InUse ss i × (run_at ss i ≡ l)

  -- a run to be added may have the n pages from f on, of so many pages
  pub record RangeFits (pages f n : ℕ) : Type 0 where
    pub some-page : 1 ≤ n
    pub each_in : (p : ℕ) → Among f n p → (c ≤ p) × (p < pages)
    pub alone : (i p : ℕ) → i < c → Has ss i p → Among f n p → ⊥

  -- some sheet replaces run r
  abbrev pub Replaced : ℕ → Type 0
  Replaced r = (i : ℕ) × (i < c) × Replaces ss r i

  -- a step leads from run r to run q, the highest of those that replace it
  pub record Step (r q : ℕ) : Type 0 where
    pub by : (i : ℕ) × (i < c) × Replaces ss r i × (run_at ss i ≡ q)
    pub highest : (i : ℕ) → i < c → Replaces ss r i → run_at ss i ≤ q

  -- so many steps lead from run r to run q
  abbrev pub Leads : ℕ → ℕ → ℕ → Type 0
  Leads zero r q = r ≡ q
  Leads (suc n) r q = (m : ℕ) × Step r m × Leads n m q

  -- q is the current run of r
  pub record CurrentIs (r q : ℕ) : Type 0 where
    -- at most c - 1 steps lead to it
    pub steps : ℕ
    pub few : steps ≤ c - 1
    pub leads : Leads steps r q
    -- it stands on a sheet, and nothing replaces it
    pub stands : (i : ℕ) × (i < c) × StandsOn ss q i
    pub last : Replaced q → ⊥
