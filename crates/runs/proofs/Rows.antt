-- Pages and verdicts worked out by another program from the words of requests A9 to A11 (tools/catalogue-rows), as rows of two tables.
use mathlib.Core.Path.{◌≡◌, refl}
use mathlib.Core.List.{List, [], ◌∷◌, map}
use Prim.Native.Nat.{ℕ}
use lib.ListN.{length}
use Rattle.prelude.specs.Tests.{every}
use Rattle.prelude.specs.Scan.{first_from, first, count, all, nth, greatest, tab_from, tab}
use Rattle.runs.specs.Sheet.{Sheet, number_at, sheet_of, byte_of, sheet_byte, page_of, empty_run, no_sheet}
use Rattle.runs.specs.Runs.{counts, find, first_empty, largest, full, position}
use Rattle.runs.specs.Ranges.{overlaps, claims, taken, range_ok, index_ok}
use Rattle.runs.specs.Roles.{Role, trainee, tutor, examiner, Operation, add, look, list, read, replace, mark, grid, allowed}
use Rattle.runs.specs.Roles.{Caller, another, masked}
use Rattle.runs.specs.Current.{replaces, replacer, follow, current}
use Rattle.runs.specs.Verdict.{Verdict, refuse, show, tell, fetch, put, unless, new_sheet, placing, adding, looking, listing, reading}
use Rattle.runs.specs.Verdict.{replacing, marking, verdict, Check, passed, stopped, Judged, outside, decided, in_order, judged}

-- run, trainee, sample, first data page, page count, mark, run replaced
abbrev sheet : ℕ → ℕ → ℕ → ℕ → ℕ → ℕ → ℕ → Sheet
sheet r t s f n m p = record { run = r; trainee = t; sample = s; first = f; count = n; mark = m; replaces = p }

-- a sheet, and the page that it is written as
record PageRow : Type 0 where
  held : Sheet
  page : List ℕ

-- so many pages, the sheets, who calls, the operation, what comes from outside, and what becomes of it
record Row : Type 0 where
  pages : ℕ
  sheets : List Sheet
  caller : Caller
  asked : Operation
  check : Check ℕ
  gives : Judged ℕ

abbrev row : ℕ → List Sheet → Role → ℕ → Operation → Verdict → Row
row n ss w t o v =
    record { pages = n; sheets = ss; caller = record { role = w; number = t }; asked = o; check = passed; gives = decided v }

-- stopped from outside with this number
abbrev held : ℕ → List Sheet → Role → ℕ → Operation → ℕ → Judged ℕ → Row
held n ss w t o k j = record { pages = n; sheets = ss; caller = record { role = w; number = t }; asked = o; check = stopped k; gives = j }

-- what becomes of each row's operation is what the row says
abbrev Hold : List Row → Type 0
Hold rows = map (λ (r : Row). judged (length r.sheets) r.pages r.sheets r.caller r.asked r.check) rows
    ≡ map (λ (r : Row). r.gives) rows

abbrev small : PageRow
small = record {
  held = sheet 1 2 3 4 5 6 7;
  page = 1 ∷ 0 ∷ 0 ∷ 0 ∷ 2 ∷ 0 ∷ 0 ∷ 0 ∷ 3 ∷ 0 ∷ 0 ∷ 0 ∷ 4 ∷ 0 ∷ 0 ∷ 0
      ∷ 5 ∷ 0 ∷ 0 ∷ 0 ∷ 6 ∷ 0 ∷ 0 ∷ 0 ∷ 7 ∷ 0 ∷ 0 ∷ 0 ∷ [];
}

abbrev mixed : PageRow
mixed = record {
  held = sheet 67305985 4294967294 256 2147483648 65280 255 65536;
  page = 1 ∷ 2 ∷ 3 ∷ 4 ∷ 254 ∷ 255 ∷ 255 ∷ 255 ∷ 0 ∷ 1 ∷ 0 ∷ 0 ∷ 0 ∷ 0 ∷ 0 ∷ 128
      ∷ 0 ∷ 255 ∷ 0 ∷ 0 ∷ 255 ∷ 0 ∷ 0 ∷ 0 ∷ 0 ∷ 0 ∷ 1 ∷ 0 ∷ 0 ∷ 0 ∷ 0 ∷ 0 ∷ 0 ∷ 0 ∷ 0 ∷ 0 ∷ [];
}

abbrev erased_page : PageRow
erased_page = record {
  held = sheet 4294967295 4294967295 4294967295 4294967295 4294967295 4294967295 4294967295;
  page = 255 ∷ 255 ∷ 255 ∷ 255 ∷ 255 ∷ 255 ∷ 255 ∷ 255 ∷ 255 ∷ 255 ∷ 255 ∷ 255 ∷ 255 ∷ 255 ∷ 255 ∷ 255
      ∷ 255 ∷ 255 ∷ 255 ∷ 255 ∷ 255 ∷ 255 ∷ 255 ∷ 255 ∷ 255 ∷ 255 ∷ 255 ∷ 255 ∷ [];
}

-- an erased catalogue: no run, and the first is run 1
abbrev erased : List Sheet
erased = sheet 4294967295 4294967295 4294967295 4294967295 4294967295 4294967295 4294967295
    ∷ sheet 4294967295 4294967295 4294967295 4294967295 4294967295 4294967295 4294967295
    ∷ sheet 4294967295 4294967295 4294967295 4294967295 4294967295 4294967295 4294967295
    ∷ []

abbrev erased_rows : List Row
erased_rows = row 8 erased trainee 5 (list 0) (refuse 10)
    ∷ row 8 erased trainee 5 (look 0) (refuse 10)
    ∷ row 8 erased trainee 5 (look 4294967295) (refuse 10)
    ∷ row 8 erased trainee 5 (look 1) (refuse 10)
    ∷ row 8 erased trainee 5 (read 4294967295 0) (refuse 10)
    ∷ row 8 erased examiner 5 (mark 4294967295 3) (refuse 10)
    ∷ row 8 erased tutor 5 (replace 0 1 3 1) (refuse 10)
    ∷ row 8 erased trainee 5 (add 9 3 1) (put 0 (sheet 1 5 9 3 1 255 0))
    ∷ row 8 erased trainee 5 (add 9 3 5) (put 0 (sheet 1 5 9 3 5 255 0))
    ∷ row 8 erased trainee 5 (add 9 3 6) (refuse 11)
    ∷ row 8 erased trainee 5 (add 9 2 1) (refuse 11)
    ∷ []

-- of equal run numbers the first sheet counts; the later one is not empty, and counts for nothing else
abbrev equal : List Sheet
equal = sheet 4 1 1 10 2 50 0
    ∷ sheet 4 2 2 20 2 60 3
    ∷ sheet 3 3 3 30 2 255 0
    ∷ sheet 4294967295 4294967295 4294967295 4294967295 4294967295 4294967295 4294967295
    ∷ sheet 0 0 0 0 0 0 0
    ∷ []

abbrev equal_rows : List Row
equal_rows = row 40 equal examiner 0 (look 4) (show (sheet 4 1 1 10 2 50 0) 4)
    ∷ row 40 equal examiner 0 (look 3) (show (sheet 3 3 3 30 2 255 0) 3)
    ∷ row 40 equal examiner 0 (list 0) (tell 4)
    ∷ row 40 equal examiner 0 (list 1) (tell 3)
    ∷ row 40 equal examiner 0 (list 2) (refuse 10)
    ∷ row 40 equal examiner 0 (mark 4 7) (put 0 (sheet 4 1 1 10 2 7 0))
    ∷ row 40 equal examiner 0 (mark 3 7) (put 2 (sheet 3 3 3 30 2 7 0))
    ∷ row 40 equal examiner 0 (add 8 20 2) (put 3 (sheet 5 0 8 20 2 255 0))
    ∷ row 40 equal examiner 0 (add 8 10 1) (refuse 11)
    ∷ row 40 equal examiner 0 (read 4 1) (fetch 11)
    ∷ row 40 equal examiner 0 (replace 3 8 12 1) (put 3 (sheet 5 0 8 12 1 255 3))
    ∷ []

-- one sheet is empty, behind two of one number, and one number is left
abbrev last_room : List Sheet
last_room = sheet 4294967293 1 1 10 2 255 0
    ∷ sheet 4294967293 1 1 12 2 255 0
    ∷ sheet 0 0 0 0 0 0 0
    ∷ []

abbrev last_room_rows : List Row
last_room_rows = row 40 last_room trainee 1 (add 8 3 1) (put 2 (sheet 4294967294 1 8 3 1 255 0))
    ∷ row 40 last_room tutor 1 (replace 4294967293 8 3 1) (put 2 (sheet 4294967294 1 8 3 1 255 4294967293))
    ∷ row 40 last_room tutor 1 (replace 1 8 3 1) (refuse 10)
    ∷ []

-- the largest number is 4,294,967,294: full, which stands before an unknown run and before the pages
abbrev last_number : List Sheet
last_number = sheet 0 0 0 0 0 0 0
    ∷ sheet 4294967294 1 1 10 2 255 0
    ∷ []

abbrev last_number_rows : List Row
last_number_rows = row 40 last_number trainee 1 (add 8 3 1) (refuse 9)
    ∷ row 40 last_number trainee 1 (add 8 0 0) (refuse 9)
    ∷ row 40 last_number tutor 1 (replace 7 8 3 1) (refuse 9)
    ∷ row 40 last_number trainee 1 (look 4294967294) (show (sheet 4294967294 1 1 10 2 255 0) 4294967294)
    ∷ row 40 last_number trainee 1 (list 0) (tell 4294967294)
    ∷ []

-- no sheet is empty, though two have one number
abbrev none_empty : List Sheet
none_empty = sheet 1 1 1 10 2 255 0
    ∷ sheet 1 2 2 20 2 255 0
    ∷ []

abbrev none_empty_rows : List Row
none_empty_rows = row 40 none_empty trainee 1 (add 8 3 1) (refuse 9)
    ∷ row 40 none_empty tutor 1 (replace 7 8 3 1) (refuse 9)
    ∷ row 40 none_empty trainee 1 (list 1) (refuse 10)
    ∷ []

-- ranges at their ends: pages 10 to 14, a count of 0 at 20, and 24 to 27; the last page is 29
abbrev ranges : List Sheet
ranges = sheet 1 1 1 10 5 255 0
    ∷ sheet 2 1 1 20 0 255 0
    ∷ sheet 3 1 1 24 4 255 0
    ∷ sheet 0 0 0 0 0 0 0
    ∷ []

abbrev ranges_rows : List Row
ranges_rows = row 30 ranges trainee 1 (add 8 4 6) (put 3 (sheet 4 1 8 4 6 255 0))
    ∷ row 30 ranges trainee 1 (add 8 4 7) (refuse 11)
    ∷ row 30 ranges trainee 1 (add 8 3 1) (refuse 11)
    ∷ row 30 ranges trainee 1 (add 8 15 9) (put 3 (sheet 4 1 8 15 9 255 0))
    ∷ row 30 ranges trainee 1 (add 8 15 10) (refuse 11)
    ∷ row 30 ranges trainee 1 (add 8 14 1) (refuse 11)
    ∷ row 30 ranges trainee 1 (add 8 14 0) (refuse 11)
    ∷ row 30 ranges trainee 1 (add 8 9 20) (refuse 11)
    ∷ row 30 ranges trainee 1 (add 8 11 2) (refuse 11)
    ∷ row 30 ranges trainee 1 (add 8 19 3) (put 3 (sheet 4 1 8 19 3 255 0))
    ∷ row 30 ranges trainee 1 (add 8 28 2) (put 3 (sheet 4 1 8 28 2 255 0))
    ∷ row 30 ranges trainee 1 (add 8 28 3) (refuse 11)
    ∷ row 30 ranges trainee 1 (add 8 29 1) (put 3 (sheet 4 1 8 29 1 255 0))
    ∷ row 30 ranges trainee 1 (add 8 30 1) (refuse 11)
    ∷ row 30 ranges trainee 1 (add 8 4294967295 1) (refuse 11)
    ∷ row 30 ranges trainee 1 (add 8 4294967295 16) (refuse 11)
    ∷ row 30 ranges trainee 1 (add 8 16 4294967295) (refuse 11)
    ∷ row 30 ranges trainee 1 (read 1 0) (fetch 10)
    ∷ row 30 ranges trainee 1 (read 1 4) (fetch 14)
    ∷ row 30 ranges trainee 1 (read 1 5) (refuse 11)
    ∷ row 30 ranges trainee 1 (read 2 0) (refuse 11)
    ∷ row 30 ranges trainee 1 (read 1 4294967295) (refuse 11)
    ∷ row 30 ranges trainee 1 (read 4 0) (refuse 10)
    ∷ row 30 ranges examiner 1 (mark 1 0) (put 0 (sheet 1 1 1 10 5 0 0))
    ∷ row 30 ranges examiner 1 (mark 1 100) (put 0 (sheet 1 1 1 10 5 100 0))
    ∷ row 30 ranges examiner 1 (mark 1 101) (refuse 11)
    ∷ row 30 ranges examiner 1 (mark 1 255) (refuse 11)
    ∷ row 30 ranges examiner 1 (mark 9 101) (refuse 10)
    ∷ []

-- from outside: pages past the last number, some below C, and from page 10 on more than there are
abbrev foreign : List Sheet
foreign = sheet 5 1 1 4294967295 4 7 0
    ∷ sheet 6 1 1 2 3 101 0
    ∷ sheet 7 1 1 10 4294967295 0 0
    ∷ sheet 4294967295 4294967295 4294967295 4294967295 4294967295 4294967295 4294967295
    ∷ []

abbrev foreign_rows : List Row
foreign_rows = row 12 foreign trainee 1 (read 5 0) (refuse 11)
    ∷ row 12 foreign trainee 1 (read 5 1) (refuse 11)
    ∷ row 12 foreign trainee 1 (read 6 0) (refuse 11)
    ∷ row 12 foreign trainee 1 (read 6 1) (refuse 11)
    ∷ row 12 foreign trainee 1 (read 6 2) (fetch 4)
    ∷ row 12 foreign trainee 1 (read 7 1) (fetch 11)
    ∷ row 12 foreign trainee 1 (read 7 2) (refuse 11)
    ∷ row 12 foreign trainee 1 (add 8 5 5) (put 3 (sheet 8 1 8 5 5 255 0))
    ∷ row 12 foreign trainee 1 (add 8 4 1) (refuse 11)
    ∷ row 12 foreign trainee 1 (add 8 5 6) (refuse 11)
    ∷ row 12 foreign trainee 1 (add 8 11 1) (refuse 11)
    ∷ row 12 foreign examiner 1 (look 6) (show (sheet 6 1 1 2 3 101 0) 6)
    ∷ []

-- a chain through all of C sheets, not in the order of their numbers
abbrev chain : List Sheet
chain = sheet 9 1 1 10 2 255 7
    ∷ sheet 2 1 1 12 2 255 0
    ∷ sheet 7 2 1 14 2 33 4
    ∷ sheet 11 1 1 16 2 255 9
    ∷ sheet 4 1 1 18 2 255 2
    ∷ []

abbrev chain_rows : List Row
chain_rows = row 60 chain trainee 1 (look 2) (show (sheet 2 1 1 12 2 255 0) 11)
    ∷ row 60 chain trainee 1 (look 4) (show (sheet 4 1 1 18 2 255 2) 11)
    ∷ row 60 chain trainee 1 (look 7) (show (sheet 7 0 1 14 2 255 4) 11)
    ∷ row 60 chain trainee 2 (look 7) (show (sheet 7 2 1 14 2 33 4) 11)
    ∷ row 60 chain tutor 1 (look 7) (show (sheet 7 2 1 14 2 33 4) 11)
    ∷ row 60 chain trainee 1 (look 9) (show (sheet 9 1 1 10 2 255 7) 11)
    ∷ row 60 chain trainee 1 (look 11) (show (sheet 11 1 1 16 2 255 9) 11)
    ∷ row 60 chain examiner 1 (mark 2 50) (refuse 13)
    ∷ row 60 chain examiner 1 (mark 9 101) (refuse 13)
    ∷ row 60 chain examiner 1 (mark 11 50) (put 3 (sheet 11 1 1 16 2 50 9))
    ∷ row 60 chain trainee 1 (list 0) (tell 9)
    ∷ row 60 chain trainee 1 (list 4) (tell 4)
    ∷ row 60 chain trainee 1 (list 5) (refuse 10)
    ∷ []

-- several name run 1: the highest is followed, though another leads further; run 12 is named and not there
abbrev fork : List Sheet
fork = sheet 1 1 1 10 2 255 0
    ∷ sheet 8 1 1 12 2 255 1
    ∷ sheet 5 1 1 14 2 255 1
    ∷ sheet 20 1 1 16 2 255 5
    ∷ sheet 13 1 1 18 2 255 12
    ∷ sheet 0 0 0 0 0 0 0
    ∷ []

abbrev fork_rows : List Row
fork_rows = row 60 fork trainee 1 (look 1) (show (sheet 1 1 1 10 2 255 0) 8)
    ∷ row 60 fork trainee 1 (look 5) (show (sheet 5 1 1 14 2 255 1) 20)
    ∷ row 60 fork trainee 1 (look 8) (show (sheet 8 1 1 12 2 255 1) 8)
    ∷ row 60 fork trainee 1 (look 12) (refuse 10)
    ∷ row 60 fork examiner 1 (mark 5 9) (refuse 13)
    ∷ row 60 fork examiner 1 (mark 8 9) (put 1 (sheet 8 1 1 12 2 9 1))
    ∷ row 60 fork tutor 1 (replace 5 8 30 2) (refuse 13)
    ∷ row 60 fork tutor 1 (replace 12 8 30 2) (refuse 10)
    ∷ row 60 fork tutor 1 (replace 8 8 30 2) (put 5 (sheet 21 1 8 30 2 255 8))
    ∷ row 60 fork tutor 1 (replace 8 8 11 2) (refuse 11)
    ∷ row 60 fork tutor 1 (replace 1 8 11 2) (refuse 13)
    ∷ row 60 fork tutor 1 (replace 0 8 30 2) (refuse 10)
    ∷ []

-- from outside: sheets that name a higher run or themselves replace none, and are shown as stored
abbrev cycle : List Sheet
cycle = sheet 3 1 1 10 2 255 6
    ∷ sheet 6 1 1 12 2 255 3
    ∷ sheet 7 1 1 14 2 255 7
    ∷ sheet 2 1 1 16 2 255 4294967295
    ∷ sheet 0 0 0 0 0 0 0
    ∷ []

abbrev cycle_rows : List Row
cycle_rows = row 60 cycle trainee 1 (look 3) (show (sheet 3 1 1 10 2 255 6) 6)
    ∷ row 60 cycle trainee 1 (look 6) (show (sheet 6 1 1 12 2 255 3) 6)
    ∷ row 60 cycle trainee 1 (look 7) (show (sheet 7 1 1 14 2 255 7) 7)
    ∷ row 60 cycle trainee 1 (look 2) (show (sheet 2 1 1 16 2 255 4294967295) 2)
    ∷ row 60 cycle examiner 1 (mark 7 1) (put 2 (sheet 7 1 1 14 2 1 7))
    ∷ row 60 cycle examiner 1 (mark 3 1) (refuse 13)
    ∷ row 60 cycle examiner 1 (mark 6 1) (put 1 (sheet 6 1 1 12 2 1 3))
    ∷ row 60 cycle tutor 1 (replace 7 8 30 2) (put 4 (sheet 8 1 8 30 2 255 7))
    ∷ row 60 cycle tutor 1 (replace 3 8 30 2) (refuse 13)
    ∷ []

-- one sheet and no step: its run is current
abbrev lone : List Sheet
lone = sheet 7 0 1 2 3 80 0
    ∷ []

abbrev lone_rows : List Row
lone_rows = row 9 lone trainee 0 (look 7) (show (sheet 7 0 1 2 3 80 0) 7)
    ∷ row 9 lone trainee 1 (look 7) (show (sheet 7 0 1 2 3 255 0) 7)
    ∷ row 9 lone trainee 0 (list 0) (tell 7)
    ∷ row 9 lone trainee 0 (list 1) (refuse 10)
    ∷ row 9 lone trainee 0 (read 7 2) (fetch 4)
    ∷ row 9 lone trainee 0 (add 1 5 1) (refuse 9)
    ∷ []

-- each cell of the grid; masks, of trainee number 0 too; the role before what stops from outside, and that before the rest
abbrev roles : List Sheet
roles = sheet 1 6 1 10 2 90 0
    ∷ sheet 2 0 1 12 2 91 0
    ∷ sheet 0 0 0 0 0 0 0
    ∷ []

abbrev roles_rows : List Row
roles_rows = row 30 roles trainee 6 (add 9 20 1) (put 2 (sheet 3 6 9 20 1 255 0))
    ∷ row 30 roles trainee 6 (look 1) (show (sheet 1 6 1 10 2 90 0) 1)
    ∷ row 30 roles trainee 6 (list 1) (tell 2)
    ∷ row 30 roles trainee 6 (read 2 1) (fetch 13)
    ∷ row 30 roles trainee 6 (replace 1 9 20 1) (refuse 12)
    ∷ row 30 roles trainee 6 (mark 2 5) (refuse 12)
    ∷ row 30 roles tutor 6 (add 9 20 1) (put 2 (sheet 3 6 9 20 1 255 0))
    ∷ row 30 roles tutor 6 (look 1) (show (sheet 1 6 1 10 2 90 0) 1)
    ∷ row 30 roles tutor 6 (list 1) (tell 2)
    ∷ row 30 roles tutor 6 (read 2 1) (fetch 13)
    ∷ row 30 roles tutor 6 (replace 1 9 20 1) (put 2 (sheet 3 6 9 20 1 255 1))
    ∷ row 30 roles tutor 6 (mark 2 5) (refuse 12)
    ∷ row 30 roles examiner 6 (add 9 20 1) (put 2 (sheet 3 6 9 20 1 255 0))
    ∷ row 30 roles examiner 6 (look 1) (show (sheet 1 6 1 10 2 90 0) 1)
    ∷ row 30 roles examiner 6 (list 1) (tell 2)
    ∷ row 30 roles examiner 6 (read 2 1) (fetch 13)
    ∷ row 30 roles examiner 6 (replace 1 9 20 1) (put 2 (sheet 3 6 9 20 1 255 1))
    ∷ row 30 roles examiner 6 (mark 2 5) (put 1 (sheet 2 0 1 12 2 5 0))
    ∷ row 30 roles trainee 6 (look 2) (show (sheet 2 0 1 12 2 255 0) 2)
    ∷ row 30 roles trainee 0 (look 2) (show (sheet 2 0 1 12 2 91 0) 2)
    ∷ row 30 roles trainee 0 (look 1) (show (sheet 1 0 1 10 2 255 0) 1)
    ∷ row 30 roles trainee 7 (look 2) (show (sheet 2 0 1 12 2 255 0) 2)
    ∷ row 30 roles tutor 7 (look 2) (show (sheet 2 0 1 12 2 91 0) 2)
    ∷ row 30 roles examiner 7 (look 2) (show (sheet 2 0 1 12 2 91 0) 2)
    ∷ row 30 roles trainee 6 (mark 9 101) (refuse 12)
    ∷ row 30 roles tutor 6 (mark 9 101) (refuse 12)
    ∷ row 30 roles trainee 6 (replace 9 9 0 0) (refuse 12)
    ∷ held 30 roles trainee 6 (mark 9 101) 4 (decided (refuse 12))
    ∷ held 30 roles examiner 6 (mark 9 101) 4 (outside 4)
    ∷ held 30 roles trainee 6 (add 9 0 0) 1 (outside 1)
    ∷ held 30 roles trainee 6 (look 1) 7 (outside 7)
    ∷ []

abbrev pages : List PageRow
pages = small ∷ mixed ∷ erased_page ∷ []

-- every row of every catalogue
record RowsHold : Type 0 where
  on_erased : Hold erased_rows
  on_equal : Hold equal_rows
  on_last_room : Hold last_room_rows
  on_last_number : Hold last_number_rows
  on_none_empty : Hold none_empty_rows
  on_ranges : Hold ranges_rows
  on_foreign : Hold foreign_rows
  on_chain : Hold chain_rows
  on_fork : Hold fork_rows
  on_cycle : Hold cycle_rows
  on_lone : Hold lone_rows
  on_roles : Hold roles_rows

written-as_worked_out : map (λ (r : PageRow). page_of (length r.page) r.held) pages ≡ map (λ (r : PageRow). r.page) pages
unfolding page_of tab tab_from sheet_byte byte_of
written-as_worked_out = refl

read-as_worked_out : map (λ (r : PageRow). sheet_of r.page) pages ≡ map (λ (r : PageRow). r.held) pages
unfolding sheet_of number_at
read-as_worked_out = refl

judged_as-worked_out : RowsHold
unfolding
    judged in_order verdict adding looking listing reading replacing marking placing new_sheet unless allowed grid masked another
    counts find first_empty largest full position overlaps claims taken range_ok index_ok replaces replacer follow current
    no_sheet empty_run every first_from first count all nth greatest
judged_as-worked_out = record {
  on_erased = refl;
  on_equal = refl;
  on_last_room = refl;
  on_last_number = refl;
  on_none_empty = refl;
  on_ranges = refl;
  on_foreign = refl;
  on_chain = refl;
  on_fork = refl;
  on_cycle = refl;
  on_lone = refl;
  on_roles = refl;
}
