-- Trainee, tutor, examiner: the grid of three roles by six operations, and what a trainee sees of another's sheet (A10).
use Rattle.std.specs.Prelude.{Bool, true, false, not, cond, ◌&&◌, List, [], ◌∷◌, ℕ, eqb, get_or}
use Rattle.runs.specs.Sheet.{Sheet, unmarked}

pub data Role : Type 0 where
  trainee : Role
  tutor : Role
  examiner : Role

-- an operation with its arguments
pub data Operation : Type 0 where
  -- sample, first data page, page count
  add : ℕ → ℕ → ℕ → Operation
  -- run
  look : ℕ → Operation
  -- position
  list : ℕ → Operation
  -- run, index of the page in the run
  read : ℕ → ℕ → Operation
  -- the run to replace, then as add
  replace : ℕ → ℕ → ℕ → ℕ → Operation
  -- run, mark
  mark : ℕ → ℕ → Operation

-- the grid: rows trainee, tutor, examiner; columns add, look, list, read, replace, mark
unfoldable pub grid : List (List Bool)
grid =
    (true ∷ true ∷ true ∷ true ∷ false ∷ false ∷ [])
    ∷ (true ∷ true ∷ true ∷ true ∷ true ∷ false ∷ [])
    ∷ (true ∷ true ∷ true ∷ true ∷ true ∷ true ∷ [])
    ∷ []

abbrev pub row_of : Role → ℕ
row_of trainee = 0
row_of tutor = 1
row_of examiner = 2

abbrev pub column_of : Operation → ℕ
column_of (add s f n) = 0
column_of (look r) = 1
column_of (list p) = 2
column_of (read r x) = 3
column_of (replace r s f n) = 4
column_of (mark r m) = 5

-- what the grid says of a role and an operation
unfoldable pub allowed : Role → Operation → Bool
allowed w o = get_or (get_or grid (row_of w) []) (column_of o) false

-- who calls: the role, and the trainee number, which an added run takes
pub record Caller : Type 0 where
  pub role : Role
  pub number : ℕ

abbrev pub is_trainee : Role → Bool
is_trainee trainee = true
is_trainee tutor = false
is_trainee examiner = false

-- a trainee looks at another's sheet
unfoldable pub another : Caller → Sheet → Bool
another w s = is_trainee w.role && not (eqb s.trainee w.number)

-- another's sheet as a trainee sees it: trainee 0 and mark 255, all else as stored
abbrev pub hidden : Sheet → Sheet
hidden s = record {
  run = s.run;
  trainee = 0;
  sample = s.sample;
  first = s.first;
  count = s.count;
  mark = unmarked;
  replaces = s.replaces;
}

-- what the caller sees of a sheet
unfoldable pub masked : Caller → Sheet → Sheet
masked w s = cond (another w s) (hidden s) s
