-- How each operation ends: refused with one of its numbers, or in its own kind, with what it asks of the store within bounds.
use Rattle.std.specs.Prelude.{◌≡◌, ◌⊎◌, List, [], ◌∷◌, ℕ, ◌≤◌, ◌<◌}
use Rattle.runs.specs.Sheet.{Sheet, Words}
use Rattle.runs.specs.Runs.{sheet_at}
use Rattle.runs.specs.Roles.{Operation, add, look, list, read, replace, mark, Caller}
use Rattle.runs.specs.Verdict.{Verdict, refuse, show, tell, fetch, put, verdict}

-- n is one of these numbers
abbrev pub AnyOf : List ℕ → ℕ → Type 0
AnyOf [] n = ⊥
AnyOf (a ∷ l) n = (n ≡ a) ⊎ AnyOf l n

-- a sheet is shown, or it is refused with one of these numbers
abbrev pub Shows : List ℕ → Verdict → Type 0
Shows ns (refuse n) = AnyOf ns n
Shows ns (show s q) = Unit {0}
Shows ns (tell r) = ⊥
Shows ns (fetch n) = ⊥
Shows ns (put i s) = ⊥

-- a run is told
abbrev pub Tells : List ℕ → Verdict → Type 0
Tells ns (refuse n) = AnyOf ns n
Tells ns (show s q) = ⊥
Tells ns (tell r) = Unit {0}
Tells ns (fetch n) = ⊥
Tells ns (put i s) = ⊥

-- a page from c to the last is read
abbrev pub Fetches : ℕ → ℕ → List ℕ → Verdict → Type 0
Fetches c pages ns (refuse n) = AnyOf ns n
Fetches c pages ns (show s q) = ⊥
Fetches c pages ns (tell r) = ⊥
Fetches c pages ns (fetch n) = (c ≤ n) × (n < pages)
Fetches c pages ns (put i s) = ⊥

-- a sheet of 32-bit numbers, which is read back as it was, is written on one of the c pages
abbrev pub Puts : ℕ → List ℕ → Verdict → Type 0
Puts c ns (refuse n) = AnyOf ns n
Puts c ns (show s q) = ⊥
Puts c ns (tell r) = ⊥
Puts c ns (fetch n) = ⊥
Puts c ns (put i s) = (i < c) × Words s

-- how an operation ends
abbrev pub Ends : ℕ → ℕ → Operation → Verdict → Type 0
Ends c pages (add s f n) v = Puts c (9 ∷ 11 ∷ []) v
Ends c pages (look r) v = Shows (10 ∷ []) v
Ends c pages (list p) v = Tells (10 ∷ []) v
Ends c pages (read r x) v = Fetches c pages (10 ∷ 11 ∷ []) v
Ends c pages (replace r s f n) v = Puts c (9 ∷ 10 ∷ 13 ∷ 11 ∷ []) v
Ends c pages (mark r m) v = Puts c (10 ∷ 13 ∷ 11 ∷ []) v

-- an operation's numbers that go into a sheet are 32-bit ones
abbrev pub OperationWords : Operation → Type 0
OperationWords (add s f n) = (s < 4294967296) × (f < 4294967296) × (n < 4294967296)
OperationWords (look r) = Unit {0}
OperationWords (list p) = Unit {0}
OperationWords (read r x) = Unit {0}
OperationWords (replace r s f n) = (r < 4294967296) × (s < 4294967296) × (f < 4294967296) × (n < 4294967296)
OperationWords (mark r m) = Unit {0}

-- Every operation ends so, whatever the sheets hold.
abbrev pub EndsRule : Type 0
EndsRule = (c pages : ℕ) (ss : List Sheet) → ((i : ℕ) → i < c → Words (sheet_at ss i))
    → (w : Caller) → w.number < 4294967296 → (o : Operation) → OperationWords o → Ends c pages o (verdict c pages ss w o)
