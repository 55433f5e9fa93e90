-- What a list of c sheets over so many pages decides of an operation, refusals in their order (A9 to A11).
use Rattle.std.specs.Prelude.{Bool, true, false, not, List, ℕ, ◌+◌, ltb}
use Rattle.runs.specs.Sheet.{Sheet, unmarked}
use Rattle.runs.specs.Runs.{sheet_at, run_at, find, known, first_empty, largest, full, position}
use Rattle.runs.specs.Ranges.{range_ok, index_ok}
use Rattle.runs.specs.Roles.{Operation, add, look, list, read, replace, mark, allowed, Caller, masked}
use Rattle.runs.specs.Current.{replaced, current}

pub data Verdict : Type 0 where
  -- refused with 12, 9, 10, 13 or 11
  refuse : ℕ → Verdict
  -- a look answers the sheet as the caller sees it, and the current run
  show : Sheet → ℕ → Verdict
  -- a listing answers the run
  tell : ℕ → Verdict
  -- a read reads this page
  fetch : ℕ → Verdict
  -- add, replace and mark write this sheet on this page
  put : ℕ → Sheet → Verdict

-- refused with this number where the test passes
unfoldable pub unless : Bool → ℕ → Verdict → Verdict
unless b n v = elim b [ true ↦ refuse n | false ↦ v ]

-- a sheet with another mark
abbrev pub with_mark : Sheet → ℕ → Sheet
with_mark s m = record {
  run = s.run;
  trainee = s.trainee;
  sample = s.sample;
  first = s.first;
  count = s.count;
  mark = m;
  replaces = s.replaces;
}

module _ (c : ℕ) (ss : List Sheet) where
  -- the sheet of a run to be added, unmarked: the largest number in use plus 1, with the caller's trainee number
  unfoldable pub new_sheet : Caller → ℕ → ℕ → ℕ → ℕ → Sheet
  new_sheet w r s f n = record {
    run = largest c ss + 1;
    trainee = w.number;
    sample = s;
    first = f;
    count = n;
    mark = unmarked;
    replaces = r;
  }

  -- 11 of the new sheet's pages, then it goes on the first empty sheet
  unfoldable pub placing : ℕ → Sheet → Verdict
  placing pages s = unless (not (range_ok c ss pages s.first s.count)) 11 (put (first_empty c ss) s)

  -- 9, 11
  unfoldable pub adding : ℕ → Caller → ℕ → ℕ → ℕ → Verdict
  adding pages w s f n = unless (full c ss) 9 (placing pages (new_sheet w 0 s f n))

  -- 10
  unfoldable pub looking : Caller → ℕ → Verdict
  looking w r = unless (not (known c ss r)) 10 (show (masked w (sheet_at ss (find c ss r))) (current c ss r))

  -- 10 past the last
  unfoldable pub listing : ℕ → Verdict
  listing p = unless (not (ltb (position c ss p) c)) 10 (tell (run_at ss (position c ss p)))

  -- 10, 11
  unfoldable pub reading : ℕ → ℕ → ℕ → Verdict
  reading pages r x = let s = sheet_at ss (find c ss r) in
      unless (not (known c ss r)) 10 (unless (not (index_ok c pages s x)) 11 (fetch (s.first + x)))

  -- 9, 10, 13, 11
  unfoldable pub replacing : ℕ → Caller → ℕ → ℕ → ℕ → ℕ → Verdict
  replacing pages w r s f n =
      unless (full c ss) 9 (unless (not (known c ss r)) 10 (unless (replaced c ss r) 13 (placing pages (new_sheet w r s f n))))

  -- 10, 13, 11
  unfoldable pub marking : ℕ → ℕ → Verdict
  marking r m = unless (not (known c ss r)) 10 (unless (replaced c ss r) 13
      (unless (ltb 100 m) 11 (put (find c ss r) (with_mark (sheet_at ss (find c ss r)) m))))

-- what the sheets decide of an operation, once the role may do it and nothing outside stops it
unfoldable pub verdict : ℕ → ℕ → List Sheet → Caller → Operation → Verdict
verdict c pages ss w (add s f n) = adding c ss pages w s f n
verdict c pages ss w (look r) = looking c ss w r
verdict c pages ss w (list p) = listing c ss p
verdict c pages ss w (read r x) = reading c ss pages r x
verdict c pages ss w (replace r s f n) = replacing c ss pages w r s f n
verdict c pages ss w (mark r m) = marking c ss r m

-- what comes from outside between 12 and the rest: 4 and 2 of the store, 1, and of the sheets the lowest that the store refuses
pub data Check (Answer : Type 0) : Type 0 where
  passed : Check Answer
  stopped : Answer → Check Answer

pub data Judged (Answer : Type 0) : Type 0 where
  outside : Answer → Judged Answer
  decided : Verdict → Judged Answer

-- 12 before every other check, then what comes from outside, then what the sheets decide
unfoldable pub in_order : {Answer : Type 0} → Bool → Check Answer → Verdict → Judged Answer
in_order false k v = decided (refuse 12)
in_order true (stopped a) v = outside a
in_order true passed v = decided v

-- what becomes of an operation, by the role, what comes from outside, and the sheets
unfoldable pub judged : {Answer : Type 0} → ℕ → ℕ → List Sheet → Caller → Operation → Check Answer → Judged Answer
judged c pages ss w o k = in_order (allowed w.role o) k (verdict c pages ss w o)
