-- Request A11 said a second time, as laws: what replaces a run, and the current run.
use Rattle.std.specs.Prelude.{◌≡◌, List, ℕ, ◌<◌}
use Rattle.runs.specs.Sheet.{Sheet}
use Rattle.runs.specs.Current.{replaces, replacer, replaced, current}
use Rattle.runs.specs.RulesWords.{Tests, StandsOn, Replaces, Replaced, Step, Leads, CurrentIs}

-- A sheet naming a run not below its own counts as replacing none.
abbrev pub ReplacesRule : Type 0
ReplacesRule = (ss : List Sheet) (r i : ℕ) → Tests (replaces ss r i) (Replaces ss r i)

-- A run is replaced exactly where some sheet replaces it.
abbrev pub ReplacedRule : Type 0
ReplacedRule = (c : ℕ) (ss : List Sheet) (r : ℕ) → Tests (replaced c ss r) (Replaced c ss r)

-- A step goes to the highest where several name one run.
abbrev pub StepRule : Type 0
StepRule = (c : ℕ) (ss : List Sheet) (r q : ℕ) → Step c ss r q → replacer c ss r ≡ q

-- The current run always exists, at most c - 1 steps lead to it, and nothing replaces it.
abbrev pub CurrentRule : Type 0
CurrentRule = (c : ℕ) (ss : List Sheet) (r i : ℕ) → i < c → StandsOn ss r i → CurrentIs c ss r (current c ss r)

-- No other run is reached by following replacements to their end, in however many steps.
abbrev pub CurrentOneRule : Type 0
CurrentOneRule = (c : ℕ) (ss : List Sheet) (r i : ℕ) → i < c → StandsOn ss r i
    → (n q : ℕ) → Leads c ss n r q → (Replaced c ss q → ⊥) → q ≡ current c ss r
