-- Which run replaces which, and the current run, found by following replacements upward (A11).
use Rattle.std.specs.Prelude.{Bool, true, false, cond, List, [], ◌∷◌, ℕ, zero, suc, ◌-◌, ltb, eqb}
use Rattle.prelude.specs.Tests.{every}
use Rattle.prelude.specs.Scan.{greatest}
use Rattle.runs.specs.Sheet.{Sheet}
use Rattle.runs.specs.Runs.{sheet_at, run_at, counts}

-- sheet i replaces run r: it names r, which is no 0 and is below its own run number, and it counts
unfoldable pub replaces : List Sheet → ℕ → ℕ → Bool
replaces ss r i = every (eqb (sheet_at ss i).replaces r ∷ ltb 0 r ∷ ltb r (run_at ss i) ∷ counts ss i ∷ [])

module _ (c : ℕ) (ss : List Sheet) where
  -- the highest run that replaces run r: 0 where none does
  unfoldable pub replacer : ℕ → ℕ
  replacer r = greatest c (λ i. cond (replaces ss r i) (run_at ss i) 0)

  abbrev pub replaced : ℕ → Bool
  replaced r = ltb 0 (replacer r)

  -- the run reached from run r by at most n replacements
  unfoldable pub follow : ℕ → ℕ → ℕ
  follow zero r = r
  follow (suc n) r = elim (replaced r) [ true ↦ follow n (replacer r) | false ↦ r ]

  -- the current run of run r: c - 1 steps lead there (`CurrentRule`)
  unfoldable pub current : ℕ → ℕ
  current r = follow (c - 1) r
