-- The refusals of requests A9 to A11 and their order said a second time, as laws: which verdict follows where the paper's condition holds.
use Rattle.std.specs.Prelude.{◌≡◌, true, false, List, ℕ, ◌+◌, ◌≤◌, ◌<◌}
use Rattle.runs.specs.Sheet.{Sheet}
use Rattle.runs.specs.Runs.{sheet_at, run_at, counts, position}
use Rattle.runs.specs.Roles.{Operation, add, look, list, read, replace, mark, allowed, Caller, masked}
use Rattle.runs.specs.Current.{current}
use Rattle.runs.specs.Verdict.{refuse, show, tell, fetch, put, with_mark, verdict, Check, passed, stopped, outside, decided, judged}
use Rattle.runs.specs.RulesWords.{StandsOn, Full, FirstEmpty, LargestIs, RangeFits, Replaced}
use Rattle.prelude.specs.Scan.{count}

-- no run has number r
abbrev pub Unknown : ℕ → List Sheet → ℕ → Type 0
Unknown c ss r = (i : ℕ) → i < c → StandsOn ss r i → ⊥

-- the sheet of a run that is added with this number: the caller's trainee number, unmarked
abbrev pub added_sheet : Caller → ℕ → ℕ → ℕ → ℕ → ℕ → Sheet
added_sheet w number r s f n = record { run = number; trainee = w.number; sample = s; first = f; count = n; mark = 255; replaces = r }

-- 12 "role" stands before every other check, then what comes from outside, then what the sheets decide.
pub record OrderRule (Answer : Type 0) (c pages : ℕ) (ss : List Sheet) (w : Caller) (o : Operation) : Type 0 where
  pub role-first : (k : Check Answer) → allowed w.role o ≡ false → judged c pages ss w o k ≡ decided (refuse 12)
  pub then-outside : (a : Answer) → allowed w.role o ≡ true → judged c pages ss w o (stopped a) ≡ outside a
  pub then-sheets : allowed w.role o ≡ true → judged {Answer = Answer} c pages ss w o passed ≡ decided (verdict c pages ss w o)

module _ (c pages : ℕ) (ss : List Sheet) (w : Caller) where
  -- Adding: 9 when full, then 11 by the pages; else the run with the largest number plus 1, unmarked, on the first empty sheet.
  pub record AddRule (s f n : ℕ) : Type 0 where
    pub full-first : Full c ss → verdict c pages ss w (add s f n) ≡ refuse 9
    pub then-pages : (Full c ss → ⊥) → (RangeFits c ss pages f n → ⊥) → verdict c pages ss w (add s f n) ≡ refuse 11
    pub else_adds : (Full c ss → ⊥) → RangeFits c ss pages f n → (i l : ℕ) → FirstEmpty c ss i → LargestIs c ss l
        → verdict c pages ss w (add s f n) ≡ put i (added_sheet w (l + 1) 0 s f n)

  -- Looking: 10 where there is no such run; else the sheet as the caller sees it, and the current run.
  pub record LookRule (r : ℕ) : Type 0 where
    pub unknown-first : Unknown c ss r → verdict c pages ss w (look r) ≡ refuse 10
    pub else_shows : (i : ℕ) → i < c → StandsOn ss r i → verdict c pages ss w (look r) ≡ show (masked w (sheet_at ss i)) (current c ss r)

  -- Listing: the run at a position, from 0 in sheet order; 10 past the last.
  pub record ListRule (p : ℕ) : Type 0 where
    pub past : count c (counts ss) ≤ p → verdict c pages ss w (list p) ≡ refuse 10
    pub else_tells : p < count c (counts ss) → verdict c pages ss w (list p) ≡ tell (run_at ss (position c ss p))

  -- Reading: 10, then 11 for an index from the count on, or a page below c or from the number of pages up; else the page.
  pub record ReadRule (r x : ℕ) : Type 0 where
    pub unknown-first : Unknown c ss r → verdict c pages ss w (read r x) ≡ refuse 10
    pub then-pages : (i : ℕ) → i < c → StandsOn ss r i
        → ((x < (sheet_at ss i).count) × (c ≤ (sheet_at ss i).first + x) × ((sheet_at ss i).first + x < pages) → ⊥)
        → verdict c pages ss w (read r x) ≡ refuse 11
    pub else_reads : (i : ℕ) → i < c → StandsOn ss r i
        → (x < (sheet_at ss i).count) × (c ≤ (sheet_at ss i).first + x) × ((sheet_at ss i).first + x < pages)
        → verdict c pages ss w (read r x) ≡ fetch ((sheet_at ss i).first + x)

  -- Replacing: 9, then 10, then 13 when the run is already replaced, then 11; else a run is added that names it.
  pub record ReplaceRule (r s f n : ℕ) : Type 0 where
    pub full-first : Full c ss → verdict c pages ss w (replace r s f n) ≡ refuse 9
    pub then-unknown : (Full c ss → ⊥) → Unknown c ss r → verdict c pages ss w (replace r s f n) ≡ refuse 10
    pub then-replaced : (Full c ss → ⊥) → (i : ℕ) → i < c → StandsOn ss r i → Replaced c ss r
        → verdict c pages ss w (replace r s f n) ≡ refuse 13
    pub then-pages : (Full c ss → ⊥) → (i : ℕ) → i < c → StandsOn ss r i → (Replaced c ss r → ⊥)
        → (RangeFits c ss pages f n → ⊥) → verdict c pages ss w (replace r s f n) ≡ refuse 11
    pub else_adds : (Full c ss → ⊥) → (i : ℕ) → i < c → StandsOn ss r i → (Replaced c ss r → ⊥) → RangeFits c ss pages f n
        → (e l : ℕ) → FirstEmpty c ss e → LargestIs c ss l → verdict c pages ss w (replace r s f n) ≡ put e (added_sheet w (l + 1) r s f n)

  -- Marking: 10, then 13, marks going to current runs only, then 11 for a mark above 100; else the sheet with the mark.
  pub record MarkRule (r m : ℕ) : Type 0 where
    pub unknown-first : Unknown c ss r → verdict c pages ss w (mark r m) ≡ refuse 10
    pub then-replaced : (i : ℕ) → i < c → StandsOn ss r i → Replaced c ss r → verdict c pages ss w (mark r m) ≡ refuse 13
    pub then-above : (i : ℕ) → i < c → StandsOn ss r i → (Replaced c ss r → ⊥) → 100 < m
        → verdict c pages ss w (mark r m) ≡ refuse 11
    pub else_marks : (i : ℕ) → i < c → StandsOn ss r i → (Replaced c ss r → ⊥) → m ≤ 100
        → verdict c pages ss w (mark r m) ≡ put i (with_mark (sheet_at ss i) m)
