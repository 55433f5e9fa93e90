-- What can come out of each operation, what the calls ask of one another, and the mends of the sheets.
use Rattle.std.specs.Prelude.{◌≡◌, true, cond, ◌&&◌, ◌||◌, List, ℕ, ◌*◌, ◌/◌, ◌≤◌, ◌<◌, eqb, length, get_or, Result, Ok, Err}
use Rattle.model.specs.Sizes.{Sizes, vacant}
use Rattle.model.specs.Soundness.{sound}
use Rattle.model.specs.Calls.{Answer, open_done, read_done, write_done, step_done, step_clean, flush_done, refused, Page, lent_ok}
use Rattle.model.specs.Calls.{reads_page, sum}
use Rattle.model.specs.Formats.{store_format}
use Rattle.model.specs.Shelf.{shelf_ok, ShelfStore}
use Rattle.chip.specs.Chip.{most_mends}
use Rattle.answer.specs.Numbers.{refusal_of}
use Rattle.store.specs.declared.Cache.{Cache}
use Rattle.store.specs.View.{Lent, store_of}
use Rattle.runs.specs.Roles.{Operation, add, look, list, read, replace, mark}
use Rattle.runs.specs.Verdict.{Verdict, refuse, show, tell, fetch, put, verdict, passed, stopped}
use Rattle.over.specs.Catalogue.{sizes_in, directory_in, sheets_check, stored, mends_from, turned_down}
use Rattle.address.specs.declared.PageNo.{PageNo}
use Rattle.sheets.specs.declared.Sheet.{Sheet}
use Rattle.sheets.specs.declared.roles.Caller.{Caller}
use Rattle.sheets.specs.View.{fields_of, caller_of, cause_of, decided_of}
use Rattle.sheets.specs.declared.verdict.Verdict as code
use Rattle.catalogue.specs.declared.Turned.{Turned}
use Rattle.catalogue.specs.declared.Turned.TheVariants.{Denied, Stopped}
use Rattle.catalogue.specs.View.{called, stepped, resumed, turned_of}

-- ---- verdicts: each operation is turned down, or comes to its own last step

abbrev pub LookKind : Verdict → Type 0
LookKind (refuse n) = Unit {0}
LookKind (show s q) = Unit {0}
LookKind (tell r) = ⊥
LookKind (fetch n) = ⊥
LookKind (put i s) = ⊥

abbrev pub ListKind : Verdict → Type 0
ListKind (refuse n) = Unit {0}
ListKind (show s q) = ⊥
ListKind (tell r) = Unit {0}
ListKind (fetch n) = ⊥
ListKind (put i s) = ⊥

-- a page to read is no sheet
abbrev pub FetchKind : ShelfStore → ℕ → Verdict → Type 0
FetchKind s c (refuse n) = Unit {0}
FetchKind s c (show sh q) = ⊥
FetchKind s c (tell r) = ⊥
FetchKind s c (fetch n) = (c ≤ n) × (n < (sizes_in s).N * (sizes_in s).K)
FetchKind s c (put i sh) = ⊥

-- a page to write is one
abbrev pub PutKind : ℕ → Verdict → Type 0
PutKind c (refuse n) = Unit {0}
PutKind c (show s q) = ⊥
PutKind c (tell r) = ⊥
PutKind c (fetch n) = ⊥
PutKind c (put i s) = i < c

abbrev pub Kind : ShelfStore → ℕ → Operation → Verdict → Type 0
Kind s c (add a f n) v = PutKind c v
Kind s c (look r) v = LookKind v
Kind s c (list p) v = ListKind v
Kind s c (read r x) v = FetchKind s c v
Kind s c (replace r a f n) v = PutKind c v
Kind s c (mark r m) v = PutKind c v

-- the operations that write a sheet
abbrev pub Putting : Operation → Type 0
Putting (add s f n) = Unit {0}
Putting (look r) = ⊥
Putting (list p) = ⊥
Putting (read r x) = ⊥
Putting (replace r s f n) = Unit {0}
Putting (mark r m) = Unit {0}

-- ---- what reading the sheets asks, and what it gives

-- a sound record, buffers in their sizes, pages of 28 bytes or more, and 1 to 256 sheets, fewer than pages
pub record Ready (s : ShelfStore) (c : ℕ) : Type 0 where
  pub sounds : (sound (sizes_in s) (directory_in s) && shelf_ok (sizes_in s) (sizes_in s).shelf_pages s.entries) ≡ true
  pub lends : (lent_ok store_format (sizes_in s) s.store.lent && eqb (length s.shelf) ((sizes_in s).shelf_pages * (sizes_in s).S)) ≡ true
  pub wide : 28 ≤ (sizes_in s).S
  pub few : c ≤ 256
  pub fewer : c < (sizes_in s).N * (sizes_in s).K

-- the mends of each sheet
abbrev pub Mended : ShelfStore → ℕ → List ℕ → Type 0
Mended s c m = (i : ℕ) → i < c → get_or m i 0 ≡ mends_from s (reads_page (sizes_in s) (directory_in s) i)

-- the sheets decide, or the lowest that the store refuses does
abbrev pub Decides : ShelfStore → ℕ → Caller → Operation → Result code.Verdict Turned → List ℕ → Type 0
Decides s c w op (Ok v) m = (passed ≡ sheets_check s c)
    × (decided_of v ≡ verdict c ((sizes_in s).N * (sizes_in s).K) (stored s c) (caller_of w) op) × Mended s c m
Decides s c w op (Err (Denied why)) m = (passed ≡ sheets_check s c)
    × (refuse (cause_of why) ≡ verdict c ((sizes_in s).N * (sizes_in s).K) (stored s c) (caller_of w) op)
Decides s c w op (Err (Stopped why)) m = stopped (refusal_of why) ≡ sheets_check s c

-- what a last step asks
pub record Settled (s : ShelfStore) (c : ℕ) (page : Page) (m : List ℕ) : Type 0 where
  pub ready : Ready s c
  pub page-length : length page ≡ (sizes_in s).S
  pub mended : Mended s c m

-- a call judged: what is left of it is the call itself, and its verdict is of its kind
abbrev pub Judgement : ShelfStore → ℕ → Operation → Page → Result code.Verdict Turned → List ℕ → Type 0
Judgement s c op page (Ok v) m = Kind s c op (decided_of v) × Settled s c page m
Judgement s c op page (Err why) m = Unit {0}

pub record Judges (cache : Cache) (u : Lent) (c : ℕ) (w : Caller) (op : Operation) (page : Page) (j : Result code.Verdict Turned)
    (m : List ℕ) : Type 0 where
  pub call-is : resumed cache u c page j ≡ called cache u c w op page
  pub kind_is : Judgement (store_of cache u) c op page j m

-- a call that writes a sheet: it is turned down, or is the write of this sheet on this page
abbrev pub Orders : Cache → Lent → ℕ → Caller → Operation → Page → Result (PageNo × Sheet) Turned → List ℕ → Type 0
Orders cache u c w op page (Ok (n, sheet)) m = (stepped cache u c page (put n.0 (fields_of sheet)) ≡ called cache u c w op page)
    × (n.0 < c) × Settled (store_of cache u) c page m
Orders cache u c w op page (Err why) m = turned_down (store_of cache u) page (turned_of why) ≡ called cache u c w op page

-- ---- mends

-- the mends of 256 sheets at most, each with no more than a call can have
pub record Few (c : ℕ) (m : List ℕ) : Type 0 where
  pub few : c ≤ 256
  pub each : (i : ℕ) → i < c → get_or m i 0 ≤ most_mends

-- the mends of sheet i; none where it is of block b, or page `at`
unfoldable pub kept_mends : ℕ → ℕ → ℕ → List ℕ → ℕ → ℕ
kept_mends k b at m i = cond (eqb (i / k) b || eqb i at) 0 (get_or m i 0)

-- those of the first c sheets; b and `at` may be vacant
unfoldable pub left_mends : ℕ → ℕ → ℕ → ℕ → List ℕ → ℕ
left_mends c k b at m = sum c (kept_mends k b at m)

-- the block that an accepted write has erased
abbrev pub erased_in : Answer → ℕ
erased_in open_done = vacant
erased_in (read_done way) = vacant
erased_in (write_done way b m) = b
erased_in (step_done b m) = b
erased_in step_clean = vacant
erased_in (flush_done r m) = vacant
erased_in (refused n b) = vacant

-- the page that a write of page n shelves, which it reads then
unfoldable pub skipped : Sizes → ℕ → ℕ
skipped sz n = cond (eqb sz.shelf_pages 0) vacant n
